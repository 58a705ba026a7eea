-- The lines of the quadruples so far.
use Rattle.std.proofs.Common.{◌≡◌, map, take}
use Rattle.bn_csv.specs.Lines.{lines_of}
use Rattle.bn_qtable.proofs.Writing.{row}
use Rattle.bn_qtable.proofs.text.write_quads.Given as goal

abbrev pub invariant-loop-quad : goal.invariant-loop-quad
invariant-loop-quad l = l.writer ≡ lines_of (map (row l.names) (take l.quad-index l.quad-items))
