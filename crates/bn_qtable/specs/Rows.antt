-- Tables of quadruples and their entries (this project's own profile).
use Rattle.std.specs.Prelude.{◌≡◌, ℕ, ◌<◌, ◌≤◌, ◌+◌, ◌∷◌, [], List, true, length, map, slice_index_or, All}
use Rattle.std.specs.Prelude.{if◌then◌else◌, bytes_eq}
use Rattle.std.specs.List.{flat_map, list_all}
use Rattle.bn_csv.specs.Forms.{is_state_name, is_symbol}
use Rattle.bn_csv.specs.Numbering.{firsts}
use Rattle.bn_quad.specs.Names.{Naming}
use Rattle.bn_quad.specs.Quadruples.{Deed, Rewrite, Move, Rule, Quadruples, IsRuleInRange}
use Rattle.bn_qtable.specs.Entry.{SaidQuadruple, Says, Rewrites, Moves, quadruple_entry, slash}
use Rattle.bn_qtable.specs.declared.entry.TheConstants.{MOST_ENTRIES}
use Rattle.bn_csv.specs.Entries.{field_at}

-- a machine whose states and symbols have names, each by its number
pub record QuadTable : Type 0 where
  pub machine : Quadruples
  pub names : Naming

abbrev pub table_of : Quadruples → Naming → QuadTable
table_of p names = record { machine = p; names = names }

-- the part of an entry for one tape, by the names of the tape's symbols
abbrev pub said_deed : List (List ℕ) → Deed → Says
said_deed names (Rewrite read written) = Rewrites (slice_index_or names read []) (slice_index_or names written [])
said_deed names (Move s) = Moves s

-- the content of the entry of a quadruple
abbrev pub said_of_quadruple : Naming → Rule ℕ → SaidQuadruple
said_of_quadruple names r = record {
  state = slice_index_or names.states r.from [];
  one = said_deed names.one r.one;
  two = said_deed names.two r.two;
  three = said_deed names.three r.three;
  next = slice_index_or names.states r.to [];
}

-- the entries of quadruples
abbrev pub quadruple_rows_by : Naming → List (Rule ℕ) → List (List (List ℕ))
quadruple_rows_by names rules = map (λ r. quadruple_entry (said_of_quadruple names r)) rules

-- the entries of a table
abbrev pub rows_of : QuadTable → List (List (List ℕ))
rows_of t = quadruple_rows_by t.names t.machine.rules

-- the names of states in entries, in the order in which they appear: in each entry its first field, then its last
abbrev pub state_names_in : List (List (List ℕ)) → List (List ℕ)
state_names_in entries = flat_map (λ fields. field_at fields 0 ∷ field_at fields 7 ∷ []) entries

-- the symbols of a tape, counted from 1, in an entry: none if it is not read, else the one read, then the one written
abbrev pub symbols_at : ℕ → List (List ℕ) → List (List ℕ)
symbols_at tape fields = if bytes_eq (field_at fields tape) slash then [] else field_at fields tape
    ∷ field_at fields (tape + 3) ∷ []

-- the symbols of a tape in entries, in the order in which they appear
abbrev pub symbol_names_in : ℕ → List (List (List ℕ)) → List (List ℕ)
symbol_names_in tape entries = flat_map (symbols_at tape) entries

-- the blank's name, `_`
abbrev pub blank_name : List ℕ
blank_name = 95 ∷ []

-- how many symbols the tapes have, tape 1 first
abbrev pub counts_of : Naming → List ℕ
counts_of names = length names.one ∷ length names.two ∷ length names.three ∷ []

-- these quadruples have these entries; the names of the states, and on each tape the names of the symbols, are numbered
-- by their first appearance in the entries, with the blank before all others of its tape
pub record SpellsQuadruples (names : Naming) (rules : List (Rule ℕ)) (entries : List (List (List ℕ))) : Type 0 where
  pub rows : quadruple_rows_by names rules ≡ entries
  pub in_range : All (IsRuleInRange (length names.states) (counts_of names)) rules
  pub states_by_first : names.states ≡ firsts (state_names_in entries)
  pub one_by_first : names.one ≡ firsts (blank_name ∷ symbol_names_in 1 entries)
  pub two_by_first : names.two ≡ firsts (blank_name ∷ symbol_names_in 2 entries)
  pub three_by_first : names.three ≡ firsts (blank_name ∷ symbol_names_in 3 entries)
  pub states_form : list_all is_state_name names.states ≡ true
  pub one_form : list_all is_symbol names.one ≡ true
  pub two_form : list_all is_symbol names.two ≡ true
  pub three_form : list_all is_symbol names.three ≡ true

-- the table has these entries, at least one and at most `MOST_ENTRIES`
pub record IsQuadTableOf (entries : List (List (List ℕ))) (t : QuadTable) : Type 0 where
  pub spelled : SpellsQuadruples t.names t.machine.rules entries
  pub some : 0 < length entries
  pub few : length entries ≤ MOST_ENTRIES
  pub states : t.machine.states ≡ length t.names.states
  pub symbols : t.machine.symbols ≡ counts_of t.names

-- the table of the entries of its own quadruples: its names are numbered by first appearance
abbrev pub IsTable : QuadTable → Type 0
IsTable t = IsQuadTableOf (rows_of t) t
