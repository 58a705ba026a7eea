use Rattle.std.proofs.Common.{◌≡◌, ◌++◌, List, ℕ, length}
use Rattle.bn_io.specs.Told.{Grows}
use Rattle.bn_io.proofs.writing.write_all.Given as goal

-- what was given is the front of the bytes before `rest`, and the sink has grown by it
abbrev pub invariant-loop-rest : goal.invariant-loop-rest
invariant-loop-rest g l =
    (given : List ℕ)
    × (l.bytes ≡ given ++ l.rest)
    × Grows (g.K.Sink.taken l.fn.sink) (g.K.Sink.taken l.sink) given
    × (g.K.Sink.faults l.sink ≡ g.K.Sink.faults l.fn.sink)

abbrev pub decreases-loop-rest : goal.decreases-loop-rest
decreases-loop-rest g l = length l.rest
