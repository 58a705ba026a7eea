-- Names and symbols need no quotes.
use Rattle.std.proofs.Common.{◌≡◌, ℕ, Bool, true, List, [], ◌∷◌, arith, slice_get, Some, zero, suc}
use Rattle.std.specs.List.{list_all}
use Rattle.std.proofs.lemmas.Bool.{false≢true}
use Rattle.std.proofs.lemmas.Bool.Decides.{nat_tests}
use Rattle.bn_csv.specs.Forms.{is_name_byte, is_state_name, is_symbol, is_symbol_byte}
use Rattle.bn_csv.specs.Lines.{is_plain, is_plain_byte}
use Rattle.bn_csv.proofs.NumberingLemmas.{both_true}

-- an element of a list whose elements all pass
pub all-at : {X : Type 0} (test : X → Bool) (xs : List X) (n : ℕ) (x : X) → list_all test xs ≡ true
    → slice_get xs n ≡ Some x → test x ≡ true
all-at test [] n x h e = cc e
all-at test (y ∷ ys) zero x h e = let at : y ≡ x = cc in rw (← at) (both_true (test y) (list_all test ys) h).0
all-at test (y ∷ ys) (suc n) x h e = all-at test ys n x (both_true (test y) (list_all test ys) h).1 e

plain-name-byte : (b : ℕ) → is_name_byte b ≡ true → is_plain_byte b ≡ true
plain-name-byte b e = grind (arith, nat_tests)

pub plain-symbol-byte : (b : ℕ) → is_symbol_byte b ≡ true → is_plain_byte b ≡ true
plain-symbol-byte b e = grind (arith, nat_tests)

all-plain-name : (name : List ℕ) → list_all is_name_byte name ≡ true → list_all is_plain_byte name ≡ true
all-plain-name [] e = e
all-plain-name (b ∷ rest) e = let (here, later) = both_true (is_name_byte b) (list_all is_name_byte rest) e in rw
    (plain-name-byte b here) (all-plain-name rest later)

all-plain-symbol : (symbol : List ℕ) → list_all is_symbol_byte symbol ≡ true → list_all is_plain_byte symbol ≡ true
all-plain-symbol [] e = e
all-plain-symbol (b ∷ rest) e = let (here, later) = both_true (is_symbol_byte b) (list_all is_symbol_byte rest) e in rw
    (plain-symbol-byte b here) (all-plain-symbol rest later)

pub plain-state-name : (name : List ℕ) → is_state_name name ≡ true → is_plain name ≡ true
plain-state-name [] e = absurd (false≢true e)
plain-state-name (b ∷ rest) e = all-plain-name (b ∷ rest) (both_true _ (list_all is_name_byte (b ∷ rest)) e).1

pub plain-symbol : (symbol : List ℕ) → is_symbol symbol ≡ true → is_plain symbol ≡ true
plain-symbol [] e = absurd (false≢true e)
plain-symbol (b ∷ rest) e = all-plain-symbol (b ∷ rest) (both_true _ (list_all is_symbol_byte (b ∷ rest)) e).1
