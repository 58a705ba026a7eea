-- How many names and letters a table has, and that they are numbered by first appearance.
use Rattle.std.proofs.Common.{◌≡◌, ◌<◌, ◌≤◌, ◌+◌, ◌*◌, ◌∷◌, ◌∙◌, ℕ, suc, zero, Bool, true, List, [], length, refl, sym}
use Rattle.std.proofs.Common.{ap, inl, inr, arith, nat_eq, filter, All}
use Rattle.std.specs.Prelude.{bytes_eq}
use Rattle.std.specs.List.{list_all, list_any}
use Rattle.std.proofs.lemmas.Bool.{cases_Bool}
use Rattle.std.proofs.lemmas.Bool.Decides.{Decides-eqb, nat_tests}
use Rattle.std.proofs.lemmas.List.{length-map}
use Rattle.std.proofs.lemmas.List.Elements.{All-head, All-tail}
use Rattle.std.proofs.lemmas.Option.{slice_get-get_or}
use Rattle.std.proofs.lemmas.Slice.Eq.{bytes_eq-Decides}
use Rattle.bn_csv.specs.Forms.{is_symbol_byte}
use Rattle.bn_csv.specs.Numbering.{AreNumberedByFirst, firsts, numbers_from}
use Rattle.bn_csv.specs.NumberingLaws.{AreApart}
use Rattle.bn_csv.proofs.NumberingLemmas.{AreNumbersOf, apart-firsts, both_true, length-firsts, no_more_than}
use Rattle.bn_csv.proofs.NumberingLemmas.{numbered-by-first}
use Rattle.bn_machine.specs.Machine.{IsInRange}
use Rattle.bn_machine.specs.declared.quint.Quint.{Quint}
use Rattle.bn_table.specs.declared.entry.TheConstants.{MOST_ENTRIES}
use Rattle.bn_table.specs.Rows.{FitsTable, IsTable, Named, SpellsQuintuples, blank, letters_in, names_in, rows_by}
use Rattle.bn_table.specs.Rows.{rows_of, states_in}

in-numbers : (first count b : ℕ) → first ≤ b → b < first + count → list_any (nat_eq b) (numbers_from first count) ≡ true
unfolding numbers_from
in-numbers first zero b low high = absurd (omega arith)
in-numbers first (suc count) b low high = elim (cases_Bool (nat_eq b first)) [
  | inl same ↦ rw same refl
  | inr other ↦
      let above : suc first ≤ b = grind (arith, nat_tests) in
      rw other (in-numbers (suc first) count b above (omega arith))
]

in-filter : (test : ℕ → Bool) (b : ℕ) (xs : List ℕ) → test b ≡ true → list_any (nat_eq b) xs ≡ true
    → list_any (nat_eq b) (filter test xs) ≡ true
in-filter test b [] pass e = e
in-filter test b (x ∷ xs) pass e = elim (cases_Bool (nat_eq b x)) [
  | inl same ↦
      let kept : test x ≡ true = ap test (sym ((Decides-eqb b x).0 same)) ∙ pass in
      rw (kept, same) refl
  | inr other ↦
      let rest : list_any (nat_eq b) (filter test xs) ≡ true = in-filter test b xs pass (rw other at e) in
      elim (cases_Bool (test x)) [
        | inl kept ↦ rw (kept, other) rest
        | inr out ↦ rw out rest
      ]
]

-- the bytes that may be letters
symbol_bytes : List ℕ
symbol_bytes = filter is_symbol_byte (numbers_from 33 94)

symbol_bytes-count : length symbol_bytes ≡ 91
unfolding symbol_bytes numbers_from
symbol_bytes-count = refl

is-symbol-byte : (b : ℕ) → is_symbol_byte b ≡ true → list_any (nat_eq b) symbol_bytes ≡ true
unfolding symbol_bytes
is-symbol-byte b e =
    let low : 33 ≤ b = grind (arith, nat_tests) in
    let high : b ≤ 126 = grind (arith, nat_tests) in
    in-filter is_symbol_byte b (numbers_from 33 94) e (in-numbers 33 94 b low (omega arith))

all-symbol-bytes : (letters : List ℕ) → list_all is_symbol_byte letters ≡ true
    → list_all (λ b. list_any (nat_eq b) symbol_bytes) letters ≡ true
all-symbol-bytes [] e = refl
all-symbol-bytes (b ∷ rest) e =
    let (here, later) = both_true (is_symbol_byte b) (list_all is_symbol_byte rest) e in
    rw (is-symbol-byte b here) (all-symbol-bytes rest later)

names-count : (entries : List (List (List ℕ))) → length (names_in entries) ≡ 2 * length entries
names-count [] = refl
names-count (fields ∷ rest) = let later = names-count rest in omega arith

pub few-names : (names : List (List ℕ)) (letters : List ℕ) (quints : List Quint) (entries : List (List (List ℕ)))
    → SpellsQuintuples names letters quints entries
    → length names ≤ 2 * length entries
few-names names letters quints entries h =
    let most : length (firsts (names_in entries)) ≤ length (names_in entries) =
    length-firsts bytes_eq bytes_eq-Decides (names_in entries) in
    let is : length names ≡ length (firsts (names_in entries)) =
    ap (λ (t : List (List ℕ)). length t) h.names_by_first in
    omega (arith, names-count entries)

-- different letters are few
pub few-different : (letters : List ℕ) → AreApart nat_eq Decides-eqb letters → list_all is_symbol_byte letters ≡ true
    → length letters ≤ 91
few-different letters apart form = omega (
  arith,
  no_more_than nat_eq Decides-eqb symbol_bytes letters apart (all-symbol-bytes letters form),
  symbol_bytes-count,
)

pub few-letters : (names : List (List ℕ)) (letters : List ℕ) (quints : List Quint) (entries : List (List (List ℕ)))
    → SpellsQuintuples names letters quints entries
    → length letters ≤ 91
few-letters names letters quints entries h =
    let apart = rw (← h.letters_by_first) at (apart-firsts nat_eq Decides-eqb (blank ∷ letters_in entries)) in
    few-different letters apart h.letters_form

numbers-of-rows : (names : List (List ℕ)) (letters : List ℕ) (quints : List Quint)
    → All (IsInRange (length names) (length letters)) quints
    → AreNumbersOf names (states_in quints) (names_in (rows_by names letters quints))
numbers-of-rows names letters [] h = tt
numbers-of-rows names letters (q ∷ qs) h =
    let here : IsInRange (length names) (length letters) q = All-head (IsInRange (length names) (length letters)) q qs h
    in (
      slice_get-get_or names q.state [] here.state,
      (
        slice_get-get_or names q.next [] here.next,
        numbers-of-rows names letters qs (All-tail (IsInRange (length names) (length letters)) q qs h),
      ),
    )

numbered-names : (names : List (List ℕ)) (ns : List ℕ) (xs : List (List ℕ)) → names ≡ firsts xs
    → AreNumbersOf names ns xs → AreNumberedByFirst ns (length names)
numbered-names names ns xs by h = rw by (numbered-by-first bytes_eq bytes_eq-Decides ns xs (rw by at h))

-- a table's machine
pub fits_table : (t : Named) → IsTable t → FitsTable t.machine
fits_table t h =
    let s = h.spelled in
    let numbers = numbers-of-rows t.names t.letters t.machine.quints s.in_range in
    let count : length (rows_of t) ≡ length t.machine.quints = length-map t.machine.quints _ in
    let few : length t.machine.quints ≤ MOST_ENTRIES = omega (arith, h.few) in
    record {
      numbered = rw h.states (numbered-names t.names (states_in t.machine.quints) (names_in (rows_of t))
          s.names_by_first numbers);
      quints = few;
      states = rw h.states (omega (arith, h.few, few-names t.names t.letters t.machine.quints (rows_of t) s));
      symbols = rw h.symbols (few-letters t.names t.letters t.machine.quints (rows_of t) s);
    }
