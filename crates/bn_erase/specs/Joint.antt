-- Two tables' machines over one alphabet: the letters of the first in their order, followed by the further letters of
-- the second in theirs (own to this project).
use Rattle.std.specs.Prelude.{◌≡◌, ℕ, zero, suc, ◌==◌, List, [], ◌∷◌, ◌++◌, true, not, filter, length, Some}
use Rattle.std.specs.Prelude.{if◌then◌else◌, slice_get, slice_index}
use Rattle.std.specs.List.{list_all, list_any}
use Rattle.bn_csv.specs.Forms.{is_symbol_byte}
use Rattle.bn_machine.specs.Machine.{IsMachine, Program}
use Rattle.bn_table.specs.Rows.{FitsTable, Named, blank}
use Rattle.bn_erase.specs.Recoded.{recoded, with_symbols}

-- the letters of both alphabets
abbrev pub joint_letters : List ℕ → List ℕ → List ℕ
joint_letters first second = first ++ filter (λ letter. not (list_any (λ known. known == letter) first)) second

-- the number of a letter in an alphabet, counted from 0: the number of letters before it
abbrev pub number_in : List ℕ → ℕ → ℕ
number_in [] letter = zero
number_in (x ∷ letters) letter = if x == letter then zero else suc (number_in letters letter)

-- two machines, and the letters of their symbols, which are the same for both
pub record Joint : Type 0 where
  pub first : Program
  pub second : Program
  pub letters : List ℕ

abbrev pub joint_of : Program → Program → List ℕ → Joint
joint_of first second letters = record { first = first; second = second; letters = letters }

-- the machines of two tables over one alphabet: the first machine's symbols keep their numbers, and each symbol of
-- the second gets the number of its letter
abbrev pub joined : Named → Named → Joint
joined t u = record {
  first = with_symbols (length (joint_letters t.letters u.letters)) t.machine;
  second = recoded (λ symbol. number_in (joint_letters t.letters u.letters) (slice_index u.letters symbol))
      (length (joint_letters t.letters u.letters)) u.machine;
  letters = joint_letters t.letters u.letters;
}

-- an alphabet: symbol 0 is this blank, and no two symbols have the same letter
pub record IsAlphabet (blank : ℕ) (letters : List ℕ) : Type 0 where
  pub begins : slice_get letters 0 ≡ Some blank
  pub apart : (m n letter : ℕ) → slice_get letters m ≡ Some letter → slice_get letters n ≡ Some letter → m ≡ n

-- each symbol of the first alphabet gets the number that its letter has in the second
pub record IsCode (before after : List ℕ) (code : ℕ → ℕ) : Type 0 where
  pub each : (symbol letter : ℕ) → slice_get before symbol ≡ Some letter → slice_get after (code symbol) ≡ Some letter

-- the invariant of two machines over one alphabet: its letters are those of tables, both have as many symbols as it
-- has letters, both are machines, and both have the form of tables
pub record IsJoint (j : Joint) : Type 0 where
  pub alphabet : IsAlphabet blank j.letters
  pub letters_form : list_all is_symbol_byte j.letters ≡ true
  pub first_symbols : j.first.symbols ≡ length j.letters
  pub second_symbols : j.second.symbols ≡ length j.letters
  pub first_machine : IsMachine j.first
  pub second_machine : IsMachine j.second
  pub first_fits : FitsTable j.first
  pub second_fits : FitsTable j.second
