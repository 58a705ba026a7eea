-- Laws of tables that callers of `Table` may cite.
use Rattle.std.proofs.Common.{◌≡◌, ℕ, Some, slice_get, nat_eq, refl, ◌∷◌}
use Rattle.std.proofs.lemmas.Bool.Decides.{Decides-eqb}
use Rattle.bn_csv.specs.Numbering.{firsts_by}
use Rattle.bn_csv.proofs.NumberingLemmas.{apart-firsts, one_number}
use Rattle.bn_table.specs.Rows.{IsTable, Named, blank, letters_in, rows_of}

-- symbol 0 has the blank's letter
pub blank_first : (t : Named) → IsTable t → slice_get t.letters 0 ≡ Some blank
unfolding firsts_by
blank_first t h = rw h.spelled.letters_by_first refl

-- no two symbols have one letter
pub one_symbol : (t : Named) → IsTable t → (m n b : ℕ) → slice_get t.letters m ≡ Some b → slice_get t.letters n ≡ Some b
    → m ≡ n
one_symbol t h m n b at also =
    one_number nat_eq Decides-eqb t.letters m n b (rw (← h.spelled.letters_by_first) at
    (apart-firsts nat_eq Decides-eqb (blank ∷ letters_in (rows_of t)))) at also
