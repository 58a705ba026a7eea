use Rattle.std.proofs.Common.{◌≡◌, ◌++◌}
use Rattle.bn_machine.specs.Tape.{Tape, cell}
use Rattle.bn_reply_traces.specs.Extents.{symbols_from}
use Rattle.bn_reply_traces.specs.MomentText.{names_text}
use Rattle.bn_reply_traces.specs.Stages.{StandsFor}
use Rattle.bn_reply_traces.proofs.tape_text.push_cells.Given as goal

abbrev pub invariant-loop-index : goal.invariant-loop-index
invariant-loop-index g l =
    (t : Tape) → StandsFor l.tape l.word t →
    l.text.items ≡ l.fn.text.items ++ names_text (g.L.Spells.name l.names) (symbols_from (cell t) l.first l.index)
