-- The index of a machine's quadruples by the state that they leave.
use Rattle.std.specs.Prelude.{◌≡◌, ℕ, suc, ◌<◌, List, Option, Some, None, length, slice_index_or}
use Rattle.bn_lists.specs.Lists.{nth, IsLeast}
use Rattle.bn_quad.specs.Quadruples.{Rule}
use Rattle.bn_quad.specs.declared.state_index.StateIndex.{StateIndex}

-- quadruple n, counted from 1, comes after the m-th, and leaves the state
pub record LeavesBehind (rs : List (Rule ℕ)) (state m n : ℕ) : Type 0 where
  pub behind : m < n
  pub rule : Rule ℕ
  pub stands : nth rs n ≡ Some rule
  pub from : rule.from ≡ state

-- the next quadruple after the m-th that leaves the state, or `None` if there is none; for m = 0, the first of all
abbrev pub IsNextLeaving : List (Rule ℕ) → ℕ → ℕ → Option ℕ → Type 0
IsNextLeaving rs state m None = (n : ℕ) → LeavesBehind rs state m n → ⊥
IsNextLeaving rs state m (Some n) = IsLeast (LeavesBehind rs state m) n

-- each state has its first quadruple, and each quadruple has the next one of its state
pub record IsIndexOf (rs : List (Rule ℕ)) (index : StateIndex) : Type 0 where
  pub first : (state : ℕ) → IsNextLeaving rs state 0 (slice_index_or index.first.items state None)
  pub next : (k : ℕ) (r : Rule ℕ) → nth rs (suc k) ≡ Some r
      → IsNextLeaving rs r.from (suc k) (slice_index_or index.next.items k None)
  pub listed : length index.next.items ≡ length rs
