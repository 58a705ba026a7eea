-- Runs of any step: the terms that machines and circuits share.
-- `step c d` states that one step leads from c to d.
use Rattle.std.specs.Prelude.{◌≡◌, ℕ, Bool, true}
use Rattle.std.proofs.Common.{zero, suc}

-- exactly n steps lead from c to d
abbrev pub Reaches : {S : Type 0} → (S → S → Type 0) → ℕ → S → S → Type 0
Reaches step zero c d = c ≡ d
Reaches {S} step (suc n) c d = (m : S) × step c m × Reaches step n m d

-- the claim, unless no step is left
abbrev pub Before : ℕ → Type 0 → Type 0
Before zero claim = Unit {0}
Before (suc n) claim = claim

-- exactly n steps lead from c to d, and each state strictly between the two ends passes the test
abbrev pub Passes : {S : Type 0} → (S → S → Type 0) → (S → Bool) → ℕ → S → S → Type 0
Passes step test zero c d = c ≡ d
Passes {S} step test (suc n) c d = (m : S) × step c m × Before n (test m ≡ true) × Passes step test n m d

-- every state has at most one successor: the step is a function
abbrev pub IsFunction : {S : Type 0} → (S → S → Type 0) → Type 0
IsFunction {S} step = (c d e : S) → step c d → step c e → d ≡ e
