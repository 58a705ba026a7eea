-- The costs of a bank's moves are bounded by the number of its elements.
use Rattle.std.proofs.Common.{◌≡◌, ℕ, ◌+◌, ◌-◌, ◌*◌, ◌≤◌, subst, arith}
use Rattle.std.proofs.Math.Nat.{mul-le-mul}
use Rattle.bn_rsm.specs.Costs.{pass_cost, move_cost, loose_cost}
use Rattle.bn_rsm.specs.Laws.{CostsAreBounded}

-- some of m columns are passed at p each, and some of them at s each
in_all : (m k a b p s : ℕ) → a ≤ m → b ≤ m → p ≤ 2 * k + 2 → s ≤ 2 * k + 2
    → a * p + 2 * (k + 2) + b * s ≤ 4 * ((m + 1) * (k + 1))
in_all m k a b p s before after first second =
    let left : a * p ≤ m * (2 * k + 2) = mul-le-mul before first in
    let right : b * s ≤ m * (2 * k + 2) = mul-le-mul after second in
    omega arith

-- some of m columns are passed at p each
to_loose : (m k a p : ℕ) → a ≤ m → p ≤ 2 * k + 2 → a * p + (k + 2) ≤ 4 * ((m + 1) * (k + 1))
to_loose m k a p before first =
    let left : a * p ≤ m * (2 * k + 2) = mul-le-mul before first in
    omega arith

-- n columns of k rows have n * (k + 1) elements: a move costs four steps at most for each of them, and so does the way
-- to a loose line
pub costs-bounded : CostsAreBounded
costs-bounded n k q i r o state line next out =
    let one_more : (n - 1) + 1 ≡ n = omega arith in
    let first : pass_cost k i ≤ 2 * k + 2 = omega arith in
    let second : pass_cost k o ≤ 2 * k + 2 = omega arith in
    let before : q ≤ n - 1 = omega arith in
    let after : n - (r + 1) ≤ n - 1 = omega arith in (
      subst (λ x. move_cost n k q i r o ≤ 4 * (x * (k + 1))) one_more
          (in_all (n - 1) k q (n - (r + 1)) (pass_cost k i) (pass_cost k o) before after first second),
      subst (λ x. loose_cost k q i ≤ 4 * (x * (k + 1))) one_more (to_loose (n - 1) k q (pass_cost k i) before first),
    )
