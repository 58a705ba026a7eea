-- The first commands of a machine's states as the program keeps them.
use Rattle.std.specs.Prelude.{◌≡◌, ℕ, ◌≤◌, List, length, Some, slice_get}
use Rattle.bn_lists.specs.Lists.{nth}
use Rattle.bn_quad.specs.Quadruples.{Quadruples, Rule, final_state_of}
use Rattle.bn_control.specs.declared.line.Sending.{Sending}
use Rattle.bn_control.specs.Entries.{waiting, IsFirstSent}

-- this is sent first in state a as far as the first k quadruples tell: one of them leaves the state, or none does
pub data IsSoFar (m : Quadruples) (k a : ℕ) (s : Sending) : Type 0 where
  left : IsFirstSent m a s → IsSoFar m k a s
  not_left : ((n : ℕ) (r : Rule ℕ) → n ≤ k → nth m.rules n ≡ Some r → r.from ≡ a → ⊥)
      → s ≡ waiting (final_state_of m.rules) a → IsSoFar m k a s

pub record AreSoFar (m : Quadruples) (k : ℕ) (es : List Sending) : Type 0 where
  pub counted : length es ≡ m.states
  pub each : (a : ℕ) (s : Sending) → slice_get es a ≡ Some s → IsSoFar m k a s
