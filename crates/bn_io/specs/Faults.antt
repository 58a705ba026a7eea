-- Counts of faults. A source or a sink counts its failures in a counter of 64 bits, which never falls and stays at its
-- last value once it has reached it. A call may report a fault of the source or the sink only if that count rose or is
-- at its last value.
use Rattle.std.specs.Prelude.{◌≡◌, ℕ, ◌+◌, ◌-◌, ◌^◌, ◌≤◌, min, Result, OnOk, OnErr}

-- one fault more, or the counter's last value
abbrev pub counted : ℕ → ℕ
counted count = min (count + 1) (2 ^ 64 - 1)

-- the count rose from `before` to `now`, or `now` is a counter's last value
abbrev pub Rose : ℕ → ℕ → Type 0
Rose before now = counted before ≤ now

-- a call in which the count did not fall, which failed only if the count rose, and which otherwise left it unchanged
pub record HasCause {T E : Type 0} (before now : ℕ) (result : Result T E) : Type 0 where
  pub later : before ≤ now
  pub failed : OnErr result (Rose before now)
  pub kept : OnOk result (now ≡ before)

-- unless the call was refused for this failure, the count is unchanged
abbrev pub StaysUnless : Type 0 → ℕ → ℕ → Type 0
StaysUnless failure before now = (failure → ⊥) → now ≡ before

-- a call in which the count did not fall, and which left it unchanged unless the call was refused for this failure
pub record CountsUnless (failure : Type 0) (before now : ℕ) : Type 0 where
  pub later : before ≤ now
  pub stays : StaysUnless failure before now
