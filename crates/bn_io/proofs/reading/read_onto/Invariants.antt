use Rattle.std.proofs.Common.{◌≡◌, ◌≤◌, ◌+◌, ◌-◌, vec_len}
use Rattle.bn_io.specs.Told.{Loses}
use Rattle.bn_io.proofs.reading.read_onto.Given as goal

-- the bytes read so far, within the limit, are what the source has lost; it is still open, and was not asked too late
abbrev pub invariant-loop : goal.invariant-loop
invariant-loop g l =
    (vec_len l.bytes ≤ l.limit)
    × Loses (g.I.Input.left l.fn.input) (g.I.Input.left l.input) l.bytes.items
    × (g.I.Input.faults l.input ≡ g.I.Input.faults l.fn.input)
    × (g.I.Input.open l.fn.input → g.I.Input.open l.input)
    × (g.I.Input.open l.fn.input → g.I.Input.overrun l.input → g.I.Input.overrun l.fn.input)

abbrev pub decreases-loop : goal.decreases-loop
decreases-loop g l = l.limit + 1 - vec_len l.bytes
