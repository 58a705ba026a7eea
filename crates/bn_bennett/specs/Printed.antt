-- The printed names of the reversible machine's states and symbols (own to this project).
use Rattle.std.specs.Prelude.{◌≡◌, ℕ, zero, suc, ◌+◌, ◌^◌, ◌<◌, Bool, true, false, List, [], ◌∷◌, ◌++◌, length, map}
use Rattle.std.specs.Prelude.{Some, slice_get, decimal, if◌then◌else◌}
use Rattle.std.specs.List.{range_with_len}
use Rattle.bn_quad.specs.Names.{Naming, naming_of}
use Rattle.bn_bennett_laws.specs.declared.name.Name.{Name}
use Rattle.bn_bennett_laws.specs.declared.name.Name.TheVariants.{Compute, ComputeWithin, GoRight, CopyLetter, GoLeft}
use Rattle.bn_bennett_laws.specs.declared.name.Name.TheVariants.{PassLetter, Retrace, RetraceWithin}
use Rattle.bn_table.specs.Rows.{Named, blank}
use Rattle.bn_bennett.specs.Translation.{Translation}
use Rattle.bn_bennett.specs.declared.naming.Print.{Print}

-- ---- states

abbrev pub print : ℕ → ℕ → Bool → Print
print letter number primed = record { letter = letter; number = number; primed = primed }

-- the parts of a printed name: a letter for its stage (`A`, `B` or `C`), a number, and a prime or none
abbrev pub print_of : Name → Print
print_of (Compute j) = print 65 (j + 1) false
print_of (ComputeWithin m) = print 65 m true
print_of GoRight = print 66 1 true
print_of CopyLetter = print 66 1 false
print_of GoLeft = print 66 2 true
print_of PassLetter = print 66 2 false
print_of (Retrace j) = print 67 (j + 1) false
print_of (RetraceWithin m) = print 67 m true

-- the prime, or nothing
abbrev pub mark : Bool → List ℕ
mark primed = if primed then 39 ∷ [] else []

abbrev pub printed : Print → List ℕ
printed p = p.letter ∷ decimal p.number ++ mark p.primed

abbrev pub bennett_state_text : Name → List ℕ
bennett_state_text name = printed (print_of name)

-- there are fewer than 2^32 names, all distinct, and none is printed with a number of 2^62 or more
pub record ArePrintable (names : List Name) : Type 0 where
  pub few : length names < 2 ^ 32
  pub apart : (m n : ℕ) (q : Name) → slice_get names m ≡ Some q → slice_get names n ≡ Some q → m ≡ n
  pub small : (n : ℕ) (q : Name) → slice_get names n ≡ Some q → (print_of q).number < 2 ^ 62

-- ---- symbols

-- letters of symbols: fewer than 2^32, all distinct
pub record AreLetters (letters : List ℕ) : Type 0 where
  pub few : length letters < 2 ^ 32
  pub apart : (m n letter : ℕ) → slice_get letters m ≡ Some letter → slice_get letters n ≡ Some letter → m ≡ n

-- a letter as a text of one byte
abbrev pub one_byte : ℕ → List ℕ
one_byte b = b ∷ []

-- the history's symbols: the blank, and the numbers from 1 on
abbrev pub number_names : ℕ → List (List ℕ)
number_names count = (blank ∷ []) ∷ map decimal (range_with_len 1 count)

-- ---- all names

-- names for states, and none for symbols
abbrev pub with_states : List (List ℕ) → Naming
with_states states = naming_of states [] [] []

-- the names, with these ones for the symbols of a tape, counted from 1
abbrev pub on_tape : Naming → ℕ → List (List ℕ) → Naming
on_tape n zero names = n
on_tape n (suc zero) names = naming_of n.states names n.two n.three
on_tape n (suc (suc zero)) names = naming_of n.states n.one names n.three
on_tape n (suc (suc (suc tape))) names = naming_of n.states n.one n.two names

-- the names of a table's translation: its states' texts; on tapes 1 and 3 the table's letters; on tape 2 the history's
-- symbols
abbrev pub translation_names : Named → Translation → Naming
translation_names table t = naming_of (map bennett_state_text t.names) (map one_byte table.letters)
    (number_names (length table.machine.quints)) (map one_byte table.letters)
