use Rattle.std.proofs.Common.{sym, subst, [], ◌∷◌}
use Rattle.bn_netlist.proofs.HeaderLineLemmas.{start_takes, start_unsaid, start_absent}
use Rattle.bn_netlist.proofs.header_lines.take_start.Goals as goal
use Rattle.bn_circuits.specs.declared.line.Line.{Line}
use Rattle.bn_netlist_laws.specs.Sentences.{Title, Count, Start}
use Rattle.bn_netlist.specs.LineReading.{TakesLine}

pub returns-in_default-clause-refused : goal.returns-in_default-clause-refused
returns-in_default-clause-refused c = start_unsaid c.args.version c.args.line.now c.args.count
    (sym c.in_default.ensures)

pub returns-in_default-existing-clause-refused : goal.returns-in_default-existing-clause-refused
returns-in_default-existing-clause-refused c = start_absent c.args.version c.args.line.now c.args.count c.in-Some.start
    (sym c.in-Some.ensures) c.in_default-existing.ensures

pub returns-clause-read : goal.returns-clause-read
returns-clause-read c =
    subst (λ (l : Line). TakesLine (Title c.args.version ∷ Count c.args.count ∷ []) c.args.line.now (Start l))
    (sym c.in-Some-existing.ensures.0)
    (start_takes c.args.version c.args.line.now c.args.count c.in-Some.start (sym c.in-Some.ensures)
    c.in-Some-existing.ensures.1)
