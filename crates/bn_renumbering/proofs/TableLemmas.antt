-- Erasing machines and inverses are written as tables.
use Rattle.std.specs.Prelude.{◌≡◌, ℕ, ◌+◌, ◌<◌, ◌^◌, List, [], ◌∷◌, length, map, reverse, max, Option, Some, None}
use Rattle.std.specs.Prelude.{slice_get, decimal, refl}
use Rattle.std.specs.List.{range_with_len}
use Rattle.std.specs.Option.{option_map}
use Rattle.std.proofs.Common.{zero, suc, arith, sym, ap, ◌∙◌}
use Rattle.std.proofs.lemmas.Fmt.{decimal_injective}
use Rattle.std.proofs.lemmas.List.{length-map, length-reverse}
use Rattle.std.proofs.lemmas.List.FromFn.{get_or-map-range_with_len, length-range_with_len}
use Rattle.std.proofs.lemmas.Option.{slice_get-map, slice_get_within, get_or_from_slice_get, same_Some}
use Rattle.bn_csv.specs.Entries.{entries_of}
use Rattle.bn_quad.specs.Names.{AreApart}
use Rattle.bn_quad.specs.Quadruples.{inverse_of, turned}
use Rattle.bn_qtable.specs.Rows.{QuadTable, IsQuadTableOf, state_names_in, symbol_names_in, blank_name}
use Rattle.bn_qtable.proofs.RowsLemmas.{table_has_names}
use Rattle.bn_table.specs.Rows.{blank}
use Rattle.bn_bennett.specs.Printed.{one_byte, number_names}
use Rattle.bn_bennett.proofs.Texts.{no_blank}
use Rattle.bn_erase_laws.proofs.NamesLemmas.{erasing_has_names, erasing_counts_names}
use Rattle.bn_erase.specs.Joint.{Joint, IsJoint, IsAlphabet}
use Rattle.bn_erase.specs.Laws.{ErasingsAreUniform}
use Rattle.bn_erase.specs.Made.{Erasure, IsErasing}
use Rattle.bn_erase.specs.Printable.{ArePrintable}
use Rattle.bn_erase.specs.Printed.{names_of, erasing_text}
use Rattle.bn_erase.proofs.PrintedLemmas.{printable, erasing_text-once, erasings_have_names}
use Rattle.bn_erase_laws.proofs.InverseLemmas.{inverses-uniform, inverse_machine, tests_passed}
use Rattle.bn_renumbering.specs.Renumbering.{AreTableNames}
use Rattle.bn_renumbering.specs.Laws.{ErasingsAreTables, InversesAreTables}
use Rattle.bn_renumbering.proofs.BackLemmas.{written-back, first_of, firsts_once, as_many, table_machine}
use Rattle.bn_renumbering.proofs.UniformLemmas.{renumberings-uniform, renumberings-pass}

-- ---- names of a mapped list

from_mapped : {X : Type 0} (f : X → List ℕ) (xs : List X) (n : ℕ) (name : List ℕ) → slice_get (map f xs) n ≡ Some name
    → (x : X) × (slice_get xs n ≡ Some x) × (f x ≡ name)
from_mapped {X} f xs n name at = by_option (slice_get xs n) refl (sym (slice_get-map f xs n) ∙ at)
  where
    by_option : (o : Option X) → slice_get xs n ≡ o → option_map f o ≡ Some name
        → (x : X) × (slice_get xs n ≡ Some x) × (f x ≡ name)
    by_option None is h = absurd (cc)
    by_option (Some x) is h = (x, is, same_Some (f x) name h)

mapped_apart : {X : Type 0} (f : X → List ℕ) (xs : List X)
    → ((m n : ℕ) (a b : X) → slice_get xs m ≡ Some a → slice_get xs n ≡ Some b → f a ≡ f b → m ≡ n)
    → AreApart (map f xs)
mapped_apart f xs once = record {
  same = λ name m n at also.
      let a = from_mapped f xs m name at in
      let b = from_mapped f xs n name also in
      once m n a.0 b.0 a.1 b.1 (a.2 ∙ sym b.2);
}

-- ---- the letters, and the numbers of the history

letters_apart : (letters : List ℕ) → IsAlphabet blank letters → AreApart (map one_byte letters)
letters_apart letters is = mapped_apart one_byte letters (λ m n a b at also same. let equal : a ≡ b = cc in
    is.apart m n b (at ∙ ap Some equal) also)

letters_blank : (letters : List ℕ) → IsAlphabet blank letters → slice_get (map one_byte letters) 0 ≡ Some blank_name
letters_blank letters is = slice_get-map one_byte letters 0 ∙ ap (option_map one_byte) is.begins

history_apart : (count : ℕ) → count < 2 ^ 32 → AreApart (number_names count)
history_apart count few = record { same = each }
  where
    number : (n : ℕ) (name : List ℕ) → slice_get (map decimal (range_with_len 1 count)) n ≡ Some name
        → (n < count) × (decimal (1 + n) ≡ name)
    number n name at =
        let low : n < count = let inside = slice_get_within (map decimal (range_with_len 1 count)) n name at in
        let long = length-map (range_with_len 1 count) decimal ∙ length-range_with_len 1 count in omega arith in (
          low,
          sym (get_or-map-range_with_len decimal 1 count n (1 + n) [] low refl)
              ∙ get_or_from_slice_get (map decimal (range_with_len 1 count)) n name [] at,
        )

    each : (name : List ℕ) (m n : ℕ) → slice_get (number_names count) m ≡ Some name
        → slice_get (number_names count) n ≡ Some name → m ≡ n
    each name zero zero at also = refl
    each name zero (suc n) at also = let other = number n name also in let low = other.0 in
        absurd (no_blank (1 + n) (omega arith) (same_Some (blank ∷ []) name at ∙ sym other.1))
    each name (suc m) zero at also = let other = number m name at in let low = other.0 in
        absurd (no_blank (1 + m) (omega arith) (same_Some (blank ∷ []) name also ∙ sym other.1))
    each name (suc m) (suc n) at also =
        let a = number m name at in
        let b = number n name also in
        let low = a.0 in
        let high = b.0 in
        let same : 1 + m ≡ 1 + n = decimal_injective (1 + m) (1 + n) (omega arith) (omega arith) (a.1 ∙ sym b.1) in
        omega arith

-- ---- the erasing machine

erasing_tabled : (j : Joint) (e : Erasure) → IsJoint j → IsErasing j.first j.second e → AreTableNames (names_of j e)
erasing_tabled j e joint is =
    let all : ArePrintable e.names =
    printable j.first j.second e joint.first_machine joint.second_machine joint.first_fits joint.second_fits is
    erasing_has_names erasing_counts_names in
    record {
      states = mapped_apart erasing_text e.names
          (λ m n a b at also same. all.apart m n b
          (at ∙ ap Some (erasing_text-once a b (all.small m a at) (all.small n b also) same)) also);
      one = letters_apart j.letters joint.alphabet;
      two = history_apart (max (length j.first.quints) (length j.second.quints)) (let a = joint.first_fits.quints in
          let b = joint.second_fits.quints in omega arith);
      three = letters_apart j.letters joint.alphabet;
      one_blank = letters_blank j.letters joint.alphabet;
      two_blank = refl;
      three_blank = letters_blank j.letters joint.alphabet;
    }

pub erasings-tables : ErasingsAreUniform → ErasingsAreTables
erasings-tables uniform j e text joint is few written =
    let read = written-back e.machine (names_of j e) text is.machine
    (erasings_have_names erasing_has_names j e joint is) (erasing_tabled j e joint is) few written in (
      read.0,
      read.1,
      read.2,
      λ first second.
          renumberings-uniform read.2.renumbering read.0.machine e.machine read.2.machine read.2.is_renumbering
          (uniform j.first j.second e first second is).0,
    )

-- ---- the inverse of a table's machine

module _ (entries : List (List (List ℕ))) (t : QuadTable) (is : IsQuadTableOf entries t) where
  -- its names are names for a table
  table_tabled : AreTableNames t.names
  table_tabled = record {
    states = record {
      same = λ name m n. firsts_once (state_names_in entries) t.names.states is.spelled.states_by_first m n name;
    };
    one = record {
      same = λ name m n.
          firsts_once (blank_name ∷ symbol_names_in 1 entries) t.names.one is.spelled.one_by_first m n name;
    };
    two = record {
      same = λ name m n.
          firsts_once (blank_name ∷ symbol_names_in 2 entries) t.names.two is.spelled.two_by_first m n name;
    };
    three = record {
      same = λ name m n.
          firsts_once (blank_name ∷ symbol_names_in 3 entries) t.names.three is.spelled.three_by_first m n name;
    };
    one_blank = ap (λ (zs : List (List ℕ)). slice_get zs 0) is.spelled.one_by_first
        ∙ first_of blank_name (symbol_names_in 1 entries);
    two_blank = ap (λ (zs : List (List ℕ)). slice_get zs 0) is.spelled.two_by_first
        ∙ first_of blank_name (symbol_names_in 2 entries);
    three_blank = ap (λ (zs : List (List ℕ)). slice_get zs 0) is.spelled.three_by_first
        ∙ first_of blank_name (symbol_names_in 3 entries);
  }

pub inverses-tables : InversesAreTables
inverses-tables bytes text t is written =
    let machine = table_machine (entries_of bytes) t is in
    let names = table_has_names (entries_of bytes) t is in
    let few = is.few in
    let count = as_many (entries_of bytes) t is in
    let turned_count : length (inverse_of t.machine).rules ≡ length t.machine.rules =
    length-map (reverse t.machine.rules) turned ∙ length-reverse t.machine.rules in
    let read = written-back (inverse_of t.machine) t.names text (inverse_machine t.machine machine)
    (record { states = names.states; one = names.one; two = names.two; three = names.three })
    (table_tabled (entries_of bytes) t is) (omega arith) written in
    let passes =
    renumberings-pass read.2.renumbering read.0.machine (inverse_of t.machine) read.2.is_renumbering in (
      read.0,
      read.1,
      read.2,
      λ apart. passes.0 ((tests_passed t.machine).1.0 apart),
      λ apart. passes.1 ((tests_passed t.machine).0.0 apart),
      λ u. renumberings-uniform read.2.renumbering read.0.machine
          (inverse_of t.machine) read.2.machine read.2.is_renumbering ((inverses-uniform t.machine).0 u),
    )
