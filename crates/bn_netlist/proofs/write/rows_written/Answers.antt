use Rattle.std.proofs.Common.{sym, ◌∙◌}
use Rattle.bn_netlist.proofs.WritingLemmas.{written_answer}
use Rattle.bn_netlist.proofs.write.rows_written.Goals as goal

pub returns-in-Two : goal.returns-in-Two
returns-in-Two g c =
    written_answer (g.C.Spellable.version c.args.config.now) (g.C.Spellable.spelling c.args.config.now) c.args.element
    c.column_rows.result (sym c.version.ensures ∙ c.in-Two.is) c.column_rows.ensures
