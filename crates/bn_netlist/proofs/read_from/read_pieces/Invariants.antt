use Rattle.std.proofs.Common.{ℕ, List, ◌≡◌, ◌≤◌, ◌-◌, ◌<◌, length}
use Rattle.bn_io.specs.Told.{Loses}
use Rattle.bn_netlist.specs.Coming.{HaveCome}
use Rattle.bn_netlist.proofs.read_from.read_pieces.Given as goal

-- the bytes taken so far, within the limit, are what the source has lost; it is still open, and was not asked too late
abbrev pub invariant-loop-pieces : goal.invariant-loop-pieces
invariant-loop-pieces g l =
    (given : List ℕ)
    × Loses (g.I.Input.left l.fn.input) (g.I.Input.left l.input) given
    × (l.taken ≡ length given)
    × (l.taken ≤ l.limit)
    × (0 < length l.buffer)
    × HaveCome l.pieces given
    × (g.I.Input.faults l.input ≡ g.I.Input.faults l.fn.input)
    × (g.I.Input.open l.fn.input → g.I.Input.open l.input)
    × (g.I.Input.open l.fn.input → g.I.Input.overrun l.input → g.I.Input.overrun l.fn.input)

abbrev pub decreases-loop-pieces : goal.decreases-loop-pieces
decreases-loop-pieces g l = l.limit - l.taken
