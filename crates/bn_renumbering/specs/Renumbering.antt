-- Machines of quadruples with renumbered states and symbols (own to this project): machines that are equal up to the
-- numbers, like a machine and the one that is read from its table.
use Rattle.std.specs.Prelude.{◌≡◌, ℕ, ◌<◌, ℤ, List, map, Some, slice_get}
use Rattle.bn_lists.specs.Lists.{nth}
use Rattle.bn_quad.specs.Names.{Naming, AreApart}
use Rattle.bn_machine.specs.Tape.{Tape, cell}
use Rattle.bn_quad.specs.Quadruples.{Deed, Rewrite, Move, Rule, Configuration, Quadruples, IsQuadMachine}
use Rattle.bn_qtable.specs.Rows.{QuadTable, blank_name}

-- ---- machines

-- the new number of each state, and of each symbol of the three tapes
pub record Renumbering : Type 0 where
  pub states : ℕ → ℕ
  pub one : ℕ → ℕ
  pub two : ℕ → ℕ
  pub three : ℕ → ℕ

-- a deed with its symbols renumbered
abbrev pub renumbered_deed : (ℕ → ℕ) → Deed → Deed
renumbered_deed renumber (Rewrite read written) = Rewrite (renumber read) (renumber written)
renumbered_deed renumber (Move s) = Move s

-- a quadruple with its states and symbols renumbered
abbrev pub renumbered_rule : Renumbering → Rule ℕ → Rule ℕ
renumbered_rule k r = record {
  from = k.states r.from;
  one = renumbered_deed k.one r.one;
  two = renumbered_deed k.two r.two;
  three = renumbered_deed k.three r.three;
  to = k.states r.to;
}

-- the new numbers keep the first `count` symbols apart and the blank unchanged
pub record KeepsSymbolsApart (renumber : ℕ → ℕ) (count : ℕ) : Type 0 where
  pub blank : renumber 0 ≡ 0
  pub apart : (a b : ℕ) → a < count → b < count → renumber a ≡ renumber b → a ≡ b

-- The machine m is p renumbered: its quadruples are those of p with the new numbers, in the same order, and no two
-- states and no two symbols of a tape get the same number.
pub record IsRenumbering (k : Renumbering) (p m : Quadruples) : Type 0 where
  pub rules : map (renumbered_rule k) p.rules ≡ m.rules
  pub states : (a b : ℕ) → a < p.states → b < p.states → k.states a ≡ k.states b → a ≡ b
  pub one : (z : ℕ) → nth p.symbols 1 ≡ Some z → KeepsSymbolsApart k.one z
  pub two : (z : ℕ) → nth p.symbols 2 ≡ Some z → KeepsSymbolsApart k.two z
  pub three : (z : ℕ) → nth p.symbols 3 ≡ Some z → KeepsSymbolsApart k.three z

-- ---- names

-- names for a table: no two states and no two symbols of a tape have the same name, and the name of symbol 0 is the
-- blank's
pub record AreTableNames (n : Naming) : Type 0 where
  pub states : AreApart n.states
  pub one : AreApart n.one
  pub two : AreApart n.two
  pub three : AreApart n.three
  pub one_blank : slice_get n.one 0 ≡ Some blank_name
  pub two_blank : slice_get n.two 0 ≡ Some blank_name
  pub three_blank : slice_get n.three 0 ≡ Some blank_name

-- each number with a name in the first list has the same name in the second list at its new number
abbrev pub KeepNames : (ℕ → ℕ) → List (List ℕ) → List (List ℕ) → Type 0
KeepNames renumber before after = (n : ℕ) (name : List ℕ) → slice_get before n ≡ Some name
    → slice_get after (renumber n) ≡ Some name

-- the machine m with these names is the table's machine renumbered, with every name kept
pub record ReadsBack (m : Quadruples) (names : Naming) (t : QuadTable) : Type 0 where
  pub renumbering : Renumbering
  pub is_renumbering : IsRenumbering renumbering t.machine m
  pub machine : IsQuadMachine t.machine
  pub states : KeepNames renumbering.states t.names.states names.states
  pub one : KeepNames renumbering.one t.names.one names.one
  pub two : KeepNames renumbering.two t.names.two names.two
  pub three : KeepNames renumbering.three t.names.three names.three

-- ---- configurations

-- all symbols of the tape are below this number
abbrev pub HasSymbolsBelow : ℕ → Tape → Type 0
HasSymbolsBelow z x = (q : ℤ) → cell x q < z

-- the configuration's state is one of the machine's, and each of its tapes contains symbols of that tape only
pub record IsConfigurationOf (p : Quadruples) (c : Configuration ℕ) : Type 0 where
  pub state : c.state < p.states
  pub one : (z : ℕ) → nth p.symbols 1 ≡ Some z → HasSymbolsBelow z c.one
  pub two : (z : ℕ) → nth p.symbols 2 ≡ Some z → HasSymbolsBelow z c.two
  pub three : (z : ℕ) → nth p.symbols 3 ≡ Some z → HasSymbolsBelow z c.three

-- the second tape is the first with its symbols renumbered, and the head at the same position
pub record IsRenumberedTape (renumber : ℕ → ℕ) (x y : Tape) : Type 0 where
  pub head : y.head ≡ x.head
  pub cells : (q : ℤ) → cell y q ≡ renumber (cell x q)

-- the second configuration is the first renumbered
pub record IsRenumbered (k : Renumbering) (c d : Configuration ℕ) : Type 0 where
  pub state : d.state ≡ k.states c.state
  pub one : IsRenumberedTape k.one c.one d.one
  pub two : IsRenumberedTape k.two c.two d.two
  pub three : IsRenumberedTape k.three c.three d.three
