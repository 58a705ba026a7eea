-- The statements of this crate's laws, each a field of `Laws`.
use Rattle.std.specs.Prelude.{◌≡◌, ℕ, ◌<◌, List, Some}
use Rattle.bn_element.specs.Tables.{Table}
use Rattle.bn_lists.specs.Lists.{nth}
use Rattle.bn_quad.specs.Overlap.{HaveSameTapes, OverlapsInDomain, OverlapsInRange, IsDeterministic, IsReversible}
use Rattle.bn_quad.specs.Overlap.{HasNoClash}
use Rattle.bn_quad.specs.declared.clash.Clash.TheVariants.{Reads, Writes}
use Rattle.bn_quad.specs.Quadruples.{Rule, Quadruples, IsQuadMachine}
use Rattle.bn_quad.specs.Calls.{IsUniformMachine}
use Rattle.bn_network.specs.Controls.{ControlState, ControlLine, ControlMove, ControlGoes, IsEntry, IsNumbering}
use Rattle.bn_network.specs.Controls.{IsControlTable}

-- quadruples that leave one state read the same tapes, and those that lead to one state write the same tapes, in
-- whichever order they appear
abbrev pub TapesAreSame : Type 0
TapesAreSame =
    ((rs : List (Rule ℕ)) (i j : ℕ) (r s : Rule ℕ) → HasNoClash Reads rs → nth rs i ≡ Some r → nth rs j ≡ Some s
    → r.from ≡ s.from → HaveSameTapes r s)
    × ((rs : List (Rule ℕ)) (i j : ℕ) (r s : Rule ℕ) → HasNoClash Writes rs → nth rs i ≡ Some r → nth rs j ≡ Some s
    → r.to ≡ s.to → HaveSameTapes r s)

-- quadruples that overlap in domain are equal if the machine is deterministic, and those that overlap in range are
-- equal if it is reversible
abbrev pub OverlapsAreOne : Type 0
OverlapsAreOne =
    ((rs : List (Rule ℕ)) (i j : ℕ) (r s : Rule ℕ) → IsDeterministic rs → nth rs i ≡ Some r → nth rs j ≡ Some s
    → OverlapsInDomain r s → i ≡ j)
    × ((rs : List (Rule ℕ)) (i j : ℕ) (r s : Rule ℕ) → IsReversible rs → nth rs i ≡ Some r → nth rs j ≡ Some s
    → OverlapsInRange r s → i ≡ j)

-- the control's moves are one-to-one
pub record IsOneToOne (m : Quadruples) : Type 0 where
  pub forth : (q : ControlState) (i : ControlLine) (k l : ControlMove) → ControlGoes m q i k → ControlGoes m q i l
      → k ≡ l
  pub back : (q r : ControlState) (i j : ControlLine) (k : ControlMove) → ControlGoes m q i k → ControlGoes m r j k
      → (q ≡ r) × (i ≡ j)

abbrev pub ControlsAreOneToOne : Type 0
ControlsAreOneToOne = (m : Quadruples) → IsQuadMachine m → IsUniformMachine m → IsOneToOne m

-- each state of the machine has exactly one first command, and the control waits for the replies to the first
-- commands of two different states in two different states
pub record HasEntries (m : Quadruples) : Type 0 where
  pub one : (a : ℕ) (k l : ControlMove) → IsEntry m a k → IsEntry m a l → k ≡ l
  pub some : (a : ℕ) → a < m.states → (k : ControlMove) × IsEntry m a k
  pub apart : (a b : ℕ) (k l : ControlMove) → IsEntry m a k → IsEntry m b l → k.0 ≡ l.0 → a ≡ b

abbrev pub StatesHaveEntries : Type 0
StatesHaveEntries = (m : Quadruples) → IsQuadMachine m → IsUniformMachine m → HasEntries m

-- a machine's control has exactly one order of its states and exactly one table
abbrev pub ControlsAreOne : Type 0
ControlsAreOne =
    ((m : Quadruples) (a b : List ControlState) → IsNumbering m a → IsNumbering m b → a ≡ b)
    × ((m : Quadruples) → (names : List ControlState) × IsNumbering m names)
    × ((m : Quadruples) (names : List ControlState) → IsQuadMachine m → IsUniformMachine m → IsNumbering m names
    → (t : Table) × IsControlTable m names t)
    × ((m : Quadruples) (names : List ControlState) (t u : Table) → IsControlTable m names t
    → IsControlTable m names u → t ≡ u)
