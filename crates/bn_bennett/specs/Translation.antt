-- Bennett's translation of a machine in standard form (Bennett 1973).
use Rattle.std.specs.Prelude.{◌≡◌, ℕ, Bool, true, false, ◌==◌, List, ◌∷◌, ◌++◌, [], length, if◌then◌else◌}
use Rattle.std.specs.List.{list_any}
use Rattle.bn_csv.specs.Numbering.{firsts_by}
use Rattle.bn_machine.specs.Machine.{Program, final_of}
use Rattle.bn_quad.specs.Quadruples.{Quadruples, IsQuadMachine}
use Rattle.bn_bennett_laws.specs.List.{bennett, symbols_of}
use Rattle.bn_bennett_laws.specs.Names.{states_in}
use Rattle.bn_bennett_laws.specs.Renamed.{rename, name_at}
use Rattle.bn_bennett_laws.specs.declared.name.Name.{Name}
use Rattle.bn_bennett_laws.specs.declared.name.Name.TheVariants.{Compute, ComputeWithin, GoRight, CopyLetter, GoLeft}
use Rattle.bn_bennett_laws.specs.declared.name.Name.TheVariants.{PassLetter, Retrace, RetraceWithin}

-- whether two names are equal
abbrev pub is_same : Name → Name → Bool
is_same (Compute i) (Compute j) = i == j
is_same (ComputeWithin m) (ComputeWithin n) = m == n
is_same GoRight GoRight = true
is_same CopyLetter CopyLetter = true
is_same GoLeft GoLeft = true
is_same PassLetter PassLetter = true
is_same (Retrace i) (Retrace j) = i == j
is_same (RetraceWithin m) (RetraceWithin n) = m == n
is_same a b = false

-- these names, with one more at the end if it is new
abbrev pub with_name : List Name → Name → List Name
with_name names name = if list_any (is_same name) names then names else names ++ name ∷ []

-- a quadruple machine, the name of each of its states at the state's number, and the one-tape machine's final state,
-- counted from 0
pub record Translation : Type 0 where
  pub names : List Name
  pub final_state : ℕ
  pub machine : Quadruples

abbrev pub translation_of : List Name → ℕ → Quadruples → Translation
translation_of names final_state machine = record { names = names; final_state = final_state; machine = machine }

-- the name of a state; an arbitrary name for a number that is no state
abbrev pub name_of : Translation → ℕ → Name
name_of t state = name_at GoRight t.names state

-- The translation of a machine: its quadruples are Bennett's list with numbers in place of names. The states are
-- numbered by first appearance in the list; in each quadruple, the state that it leaves comes before the state to
-- which it leads.
pub record IsTranslation (p : Program) (t : Translation) : Type 0 where
  pub names : t.names ≡ firsts_by is_same (states_in (bennett p))
  pub rules : rename (name_of t) t.machine.rules ≡ bennett p
  pub machine : IsQuadMachine t.machine
  pub states : t.machine.states ≡ length t.names
  pub symbols : t.machine.symbols ≡ symbols_of p
  pub final_state : t.final_state ≡ final_of p.quints
