use Rattle.std.proofs.Common.{rules}
use Rattle.bn_packed.proofs.CopiedLemmas.{told_all_lines}
use Rattle.bn_packed.proofs.to_net.push_element.Goals as goal

pub returns-clause-wires : goal.returns-clause-wires
returns-clause-wires c =
    told_all_lines c.args.packed.now.net c.requires.circuit c.args.element c.loop-line.line c.loop-line.wires.items
    (search rules) c.loop-line.invariant.wires_are
