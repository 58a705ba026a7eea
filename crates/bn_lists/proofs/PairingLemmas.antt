-- A pair of numbers as one number.
use Rattle.std.specs.Prelude.{ℕ, ◌+◌, ◌*◌, ◌<◌}
use Rattle.std.proofs.Common.{subst}
use Rattle.std.proofs.Math.Nat.{mul_comm}
use Rattle.std.proofs.lemmas.Nat.{mul-add-lt}

pub paired_low : (a b m n : ℕ) → a < m → b < n → a * n + b < m * n
paired_low a b m n p q = subst (λ x. a * n + b < x) (mul_comm n m) (mul-add-lt a n b m p q)
