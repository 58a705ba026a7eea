-- What holds of 1 to 4 increments holds of each number of increments.
use Rattle.std.proofs.Common.{ℕ, zero, suc, arith}
use Rattle.bn_gen.specs.Increments.{IsRoundCount}

pub by_cases : (P : ℕ → Type 0) → P 1 → P 2 → P 3 → P 4 → (k : ℕ) → IsRoundCount k → P k
by_cases P one two three four zero h = absurd (omega (arith, h.some))
by_cases P one two three four (suc zero) h = one
by_cases P one two three four (suc (suc zero)) h = two
by_cases P one two three four (suc (suc (suc zero))) h = three
by_cases P one two three four (suc (suc (suc (suc zero)))) h = four
by_cases P one two three four (suc (suc (suc (suc (suc k))))) h = absurd (omega (arith, h.few))
