-- Least numbers.
use Rattle.std.specs.Prelude.{◌≡◌, ℕ, ◌<◌, ◌≤◌}
use Rattle.std.proofs.Common.{arith, inl, inr, ◌⊎◌}
use Rattle.std.proofs.lemmas.Bool.{cases_lt}
use Rattle.bn_lists.specs.Lists.{IsLeast}

-- two numbers neither of which is less are one
pub least_once : (i j : ℕ) → (i < j → ⊥) → (j < i → ⊥) → i ≡ j
least_once i j low high = by_order (cases_lt i j) (cases_lt j i)
  where
    by_order : (i < j) ⊎ (j ≤ i) → (j < i) ⊎ (i ≤ j) → i ≡ j
    by_order (inl h) k = absurd (low h)
    by_order (inr h) (inl k) = absurd (high k)
    by_order (inr h) (inr k) = omega arith

-- the least number with a property is one
pub least_is_one : (P : ℕ → Type 0) (i j : ℕ) → IsLeast P i → IsLeast P j → i ≡ j
least_is_one P i j a b = least_once i j (λ h. b.least i h a.holds) (λ h. a.least j h b.holds)
