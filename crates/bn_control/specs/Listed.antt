-- The names of the states that quadruples show, in a row, and those of the open states, which wait for tape 1 and
-- have no move.
use Rattle.std.specs.Prelude.{◌≡◌, ℕ, suc, List, [], ◌∷◌, ◌++◌, map}
use Rattle.bn_lists.specs.Lists.{Has}
use Rattle.bn_quad.specs.Quadruples.{Quadruples, Rule}
use Rattle.bn_network.specs.Controls.{ControlState}
use Rattle.bn_control.specs.declared.command.Command.{Command}
use Rattle.bn_control.specs.declared.name.StateName.{StateName}
use Rattle.bn_control.specs.Names.{state_of, IsProper}
use Rattle.bn_control.specs.Shown.{IsOpenBelow}
use Rattle.bn_control.specs.Commands.{commands_by}

-- ---- what quadruples show

-- the names of the states that wait for the replies to the commands of the quadruple with this number
abbrev pub rule_names : ℕ → Rule ℕ → List StateName
rule_names n r = map (λ (c : Command). c.sending.state) (commands_by n r)

-- those of a list of quadruples, the first of which has this number
abbrev pub names_from : ℕ → List (Rule ℕ) → List StateName
names_from n [] = []
names_from n (r ∷ rs) = rule_names n r ++ names_from (suc n) rs

-- ---- open states

-- the names of the open states for the first k states of the machine
pub record AreOpen (m : Quadruples) (k : ℕ) (ss : List StateName) : Type 0 where
  pub proper : (x : StateName) → Has ss x → IsProper x
  pub only : (x : StateName) → Has ss x → IsOpenBelow m k (state_of x)
  pub each : (q : ControlState) → IsOpenBelow m k q → (x : StateName) × Has ss x × (state_of x ≡ q)
