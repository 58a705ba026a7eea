-- Counts of faults. A source or a sink counts its failures in a counter of 64 bits, which never falls and
-- stays at its last value once it has reached it. An answer that blames the outside is tied to that count:
-- it may come only where the count rose, so that it cannot be an excuse.
use Rattle.std.specs.Prelude.{ℕ, ◌≤◌}
use Rattle.std.proofs.Common.{arith}
use Rattle.bn_io.specs.Faults.{Rose}

-- a count that rose late in a call rose in the call
pub Rose-late : (before middle now : ℕ) → before ≤ middle → Rose middle now → Rose before now
Rose-late before middle now later rose = omega arith
