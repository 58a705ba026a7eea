-- How many of the first numbers have a property.
use Rattle.std.specs.Prelude.{◌≡◌, ℕ, zero, suc, ◌⊎◌}

-- the number of numbers below n that have the property
abbrev pub Counts : (ℕ → Type 0) → ℕ → ℕ → Type 0
Counts holds zero count = count ≡ 0
Counts holds (suc n) zero = (holds n → ⊥) × Counts holds n 0
Counts holds (suc n) (suc count) = (holds n × Counts holds n count) ⊎ ((holds n → ⊥) × Counts holds n (suc count))
