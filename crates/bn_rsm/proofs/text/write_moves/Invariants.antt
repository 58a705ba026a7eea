-- The lines of the moves so far.
use Rattle.std.proofs.Common.{◌≡◌, take}
use Rattle.bn_csv.specs.Lines.{lines_of}
use Rattle.bn_rsm.specs.Entry.{entries_by}
use Rattle.bn_rsm.proofs.text.write_moves.Given as goal

abbrev pub invariant-loop-step : goal.invariant-loop-step
invariant-loop-step l = l.writer ≡ lines_of (entries_by (take l.step-index l.moves))
