use Rattle.std.proofs.Common.{ℕ, List, ◌≡◌, ◌++◌, vec_len}
use Rattle.bn_io.specs.Told.{Grows}
use Rattle.bn_io.proofs.giving.give_pieces.Given as goal

-- the pieces given so far, and behind them what is kept
abbrev pub invariant-loop-sink : goal.invariant-loop-sink
invariant-loop-sink g l =
    (pieces : List ℕ)
    × (l.fn.text.items ≡ pieces ++ l.text.items)
    × Grows (g.K.Sink.taken l.fn.sink) (g.K.Sink.taken l.sink) pieces
    × (g.K.Sink.faults l.sink ≡ g.K.Sink.faults l.fn.sink)

abbrev pub decreases-loop-sink : goal.decreases-loop-sink
decreases-loop-sink g l = vec_len l.text
