-- The source and the sink in memory, as contracts see them. Their maker sets the calls that fail.
use Rattle.std.specs.Prelude.{◌≡◌, ℕ, ◌-◌, List, length, drop, ◌++◌, min, Contains, ◌⊎◌}
use Rattle.bn_io.specs.Faults.{counted}

-- a source in memory: the bytes left, the most that one call gives, the numbers of the calls that fail (the
-- first call is 1), how many calls were made, and how many of them failed
pub record MemoryInput : Type 0 where
  pub left : List ℕ
  pub piece : ℕ
  pub failing : List ℕ
  pub calls : ℕ
  pub faults : ℕ

-- a sink in memory: the bytes taken, how many it has room for, and the rest as for a source
pub record MemoryOutput : Type 0 where
  pub taken : List ℕ
  pub room : ℕ
  pub piece : ℕ
  pub failing : List ℕ
  pub calls : ℕ
  pub faults : ℕ

-- the next call is one of those that fail
abbrev pub InputFails : MemoryInput → Type 0
InputFails s = Contains s.failing (counted s.calls)

-- how many bytes the next call gives into a slice of `space` bytes, if it does not fail
abbrev pub given : MemoryInput → ℕ → ℕ
given s space = min (min s.piece space) (length s.left)

-- the source after a call that failed
abbrev pub input_failed : MemoryInput → MemoryInput
input_failed s = record s { calls = counted s.calls; faults = counted s.faults }

-- the source after a call that gave `count` bytes
abbrev pub input_less : MemoryInput → ℕ → MemoryInput
input_less s count = record s { left = drop count s.left; calls = counted s.calls }

-- the next call is one of those that fail, or no room is left
abbrev pub OutputFails : MemoryOutput → Type 0
OutputFails s = Contains s.failing (counted s.calls) ⊎ (s.room ≡ length s.taken)

-- how many of `count` bytes the next call takes, if it does not fail
abbrev pub accepted : MemoryOutput → ℕ → ℕ
accepted s count = min (min s.piece count) (s.room - length s.taken)

-- the sink after a call that failed
abbrev pub output_failed : MemoryOutput → MemoryOutput
output_failed s = record s { calls = counted s.calls; faults = counted s.faults }

-- the sink after a call that took these bytes
abbrev pub output_more : MemoryOutput → List ℕ → MemoryOutput
output_more s bytes = record s { taken = s.taken ++ bytes; calls = counted s.calls }
