use Rattle.std.proofs.Common.{arith}
use Rattle.bn_realise.proofs.BankWiresLemmas.{all_earlier}
use Rattle.bn_realise.proofs.wires.bank_wires.Goals as goal

pub returns-clause-wires : goal.returns-clause-wires
returns-clause-wires g c =
    all_earlier c.args.first (g.E.Element.table c.args.machine.now) (g.met.E.Element.reversible c.args.machine.now)
    c.requires.square c.requires.some_lines c.loop-column.column c.loop-column.wires.items
    (omega (arith, c.states-column-end.ensures)) c.loop-column.invariant.0
