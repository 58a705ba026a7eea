-- Tables of quintuples and their entries (this project's own profile).
use Rattle.std.specs.Prelude.{◌≡◌, ℕ, ◌<◌, ◌≤◌, ◌∷◌, ◌++◌, [], List, true, length, map, All, if◌then◌else◌}
use Rattle.std.specs.Prelude.{◌*◌, bytes_eq, nat_eq, slice_index, slice_index_or}
use Rattle.std.specs.List.{flat_map, list_all, list_any}
use Rattle.bn_csv.specs.Forms.{is_state_name, is_symbol_byte}
use Rattle.bn_csv.specs.Numbering.{AreNumberedByFirst, firsts_by}
use Rattle.bn_machine.specs.Machine.{IsInRange, Program}
use Rattle.bn_machine.specs.declared.quint.Quint.{Quint}
use Rattle.bn_machine.specs.Shifts.{shift_text}
use Rattle.bn_table.specs.declared.entry.TheConstants.{MOST_ENTRIES}

-- a machine whose states have names and whose symbols have letters, each by its number
pub record Named : Type 0 where
  pub machine : Program
  pub names : List (List ℕ)
  pub letters : List ℕ

abbrev pub named_program : Program → List (List ℕ) → List ℕ → Named
named_program p names letters = record { machine = p; names = names; letters = letters }

-- the entry of a quintuple, in five fields, by the names of its states and the letters of its symbols
abbrev pub quintuple_entry : List (List ℕ) → List ℕ → Quint → List (List ℕ)
quintuple_entry names letters q =
    slice_index_or names q.state [] ∷ (slice_index letters q.read ∷ []) ∷ (slice_index letters q.write ∷ [])
    ∷ shift_text q.shift ∷ slice_index_or names q.next [] ∷ []

-- the entries of quintuples, one for each, in their order
abbrev pub rows_by : List (List ℕ) → List ℕ → List Quint → List (List (List ℕ))
rows_by names letters quints = map (quintuple_entry names letters) quints

-- the entries of a table
abbrev pub rows_of : Named → List (List (List ℕ))
rows_of t = rows_by t.names t.letters t.machine.quints

-- the names of states in entries, in the order in which they appear: in each entry its first field, then its last
abbrev pub names_in : List (List (List ℕ)) → List (List ℕ)
names_in entries = flat_map (λ e. slice_index_or e 0 [] ∷ slice_index_or e 4 [] ∷ []) entries

-- the letters in entries, in the order in which they appear: in each entry its second field, then its third
abbrev pub letters_in : List (List (List ℕ)) → List ℕ
letters_in entries = flat_map (λ e. slice_index_or e 1 [] ++ slice_index_or e 2 []) entries

-- the blank's letter, `_`
abbrev pub blank : ℕ
blank = 95

-- these quintuples have these entries; the names of the states and the letters are numbered by their first appearance
-- in the entries, with the blank's letter before all others; each number in a quintuple is one of these; and names
-- and letters have their forms
pub record SpellsQuintuples
    (names : List (List ℕ)) (letters : List ℕ) (quints : List Quint) (entries : List (List (List ℕ))) : Type 0 where
  pub rows : rows_by names letters quints ≡ entries
  pub in_range : All (IsInRange (length names) (length letters)) quints
  pub names_by_first : names ≡ firsts_by bytes_eq (names_in entries)
  pub letters_by_first : letters ≡ firsts_by nat_eq (blank ∷ letters_in entries)
  pub names_form : list_all is_state_name names ≡ true
  pub letters_form : list_all is_symbol_byte letters ≡ true

-- the table has these entries, at least one and at most `MOST_ENTRIES`; its machine has as many states as there are
-- names, and as many symbols as there are letters
pub record IsTableOf (entries : List (List (List ℕ))) (t : Named) : Type 0 where
  pub spelled : SpellsQuintuples t.names t.letters t.machine.quints entries
  pub some : 0 < length entries
  pub few : length entries ≤ MOST_ENTRIES
  pub states : t.machine.states ≡ length t.names
  pub symbols : t.machine.symbols ≡ length t.letters

-- the table is that of the entries of its own quintuples
abbrev pub IsTable : Named → Type 0
IsTable t = IsTableOf (rows_of t) t

-- the states' numbers in quintuples, in the order in which they appear
abbrev pub states_in : List Quint → List ℕ
states_in quints = flat_map (λ q. q.state ∷ q.next ∷ []) quints

-- these letters and, if the letter is new, this letter at the end
abbrev pub with_letter : List ℕ → ℕ → List ℕ
with_letter letters letter = if list_any (nat_eq letter) letters then letters else letters ++ letter ∷ []

-- The machine fits a table: its states are numbered by first appearance and each of them appears, and it has at most
-- 4,000 quintuples, 8,000 states and 91 symbols.
pub record FitsTable (p : Program) : Type 0 where
  pub numbered : AreNumberedByFirst (states_in p.quints) p.states
  pub quints : length p.quints ≤ MOST_ENTRIES
  pub states : p.states ≤ 2 * MOST_ENTRIES
  pub symbols : p.symbols ≤ 91
