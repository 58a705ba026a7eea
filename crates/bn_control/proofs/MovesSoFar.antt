-- The moves of a control by names as the program keeps them.
use Rattle.std.specs.Prelude.{◌≡◌, ℕ, ◌≤◌, List, Some}
use Rattle.bn_lists.specs.Lists.{nth, Has}
use Rattle.bn_quad.specs.Quadruples.{Quadruples, Rule, initial_of}
use Rattle.bn_network.specs.Controls.{ControlMove, Begin, Outside, IsEntry}
use Rattle.bn_control.specs.declared.named.NamedMove.{NamedMove}
use Rattle.bn_control.proofs.NamesLemmas.{Going, names_by, goings}
use Rattle.bn_control.specs.Named.{IsGoing, IsKeptAmong}

-- the first move, and those along the first k quadruples
pub record AreMovesSoFar (m : Quadruples) (k : ℕ) (xs : List NamedMove) : Type 0 where
  pub only : (x : NamedMove) → Has xs x → IsGoing m x
  pub first : (e : ControlMove) → IsEntry m (initial_of m.rules) e → IsKeptAmong xs Begin Outside e
  pub each : (n : ℕ) (r : Rule ℕ) (e : ControlMove) (g : Going) → n ≤ k → nth m.rules n ≡ Some r → IsEntry m r.to e
      → Has (goings e (names_by n r)) g → IsKeptAmong xs g.0 g.1 g.2
