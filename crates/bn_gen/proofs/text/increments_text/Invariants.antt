-- The lines of the quintuples so far.
use Rattle.std.proofs.Common.{◌≡◌, take}
use Rattle.bn_csv.specs.Lines.{lines_of}
use Rattle.bn_table.specs.Rows.{rows_by}
use Rattle.bn_gen.specs.Text.{increment_letters, increment_names}
use Rattle.bn_gen.proofs.text.increments_text.Given as goal

abbrev pub invariant-loop-quint : goal.invariant-loop-quint
invariant-loop-quint l = l.writer ≡ lines_of (rows_by (increment_names l.k) increment_letters
    (take l.quint-index l.quint-items))
