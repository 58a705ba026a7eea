-- The numbers that the second machine's states get.
use Rattle.std.specs.Prelude.{◌≡◌, ℕ, suc, ◌+◌, ◌-◌, ◌<◌, ◌≤◌, ◌⊎◌}
use Rattle.std.proofs.Common.{refl, arith, inl, inr}
use Rattle.std.proofs.lemmas.Bool.{cases_order, eq-eqb, ne_eqb, lt-ltb, le-ltb}
use Rattle.bn_erase.specs.Numbered.{new_state}
use Rattle.bn_erase.specs.declared.erasing.Meeting.{Meeting}

-- the final state's number, or one before it or behind it
pub data Placed (m : Meeting) (s : ℕ) : Type 0 where
  final : s ≡ m.end → new_state m s ≡ m.middle → Placed m s
  before : s < m.end → new_state m s ≡ m.states + s → Placed m s
  behind : (k : ℕ) → s ≡ suc k → m.end ≤ k → new_state m s ≡ m.states + k → Placed m s

pub placed : (m : Meeting) (s : ℕ) → Placed m s
placed m s = by_case (cases_order s m.end)
  where
    by_case : (s ≡ m.end) ⊎ ((s < m.end) ⊎ (m.end < s)) → Placed m s
    by_case (inl same) = final same (rw (eq-eqb s m.end same) refl)
    by_case (inr (inl low)) = before low (rw (ne_eqb s m.end (λ e. absurd (omega arith)), lt-ltb s m.end low) refl)
    by_case (inr (inr high)) =
        let less : s ≡ suc (s - 1) = omega arith in
        let least : m.end ≤ s - 1 = omega arith in
        let sum : m.states + s - 1 ≡ m.states + (s - 1) = omega arith in
        let past : m.end ≤ s = omega arith in
        behind (s - 1) less least (rw (ne_eqb s m.end (λ e. absurd (omega arith)), le-ltb s m.end past) sum)
