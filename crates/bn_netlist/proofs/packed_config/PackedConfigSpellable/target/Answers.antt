use Rattle.bn_netlist.proofs.NetLemmas.{output_there, end_inside, end_low}
use Rattle.bn_netlist.proofs.packed_config.PackedConfigSpellable.target.Goals as goal

pub target-requires : goal.target-requires
target-requires c = output_there c.args.self.now.packed.net.elements c.args.from.element c.args.from.line
    c.requires.element c.requires.line

pub returns-clause-inside : goal.returns-clause-inside
returns-clause-inside c = end_inside c.args.self.now.packed.net c.args.from c.target.result
    c.target.ensures.circuit c.target.ensures.line

pub returns-clause-low : goal.returns-clause-low
returns-clause-low c = end_low c.args.self.now.packed.net c.args.from c.target.result c.target.ensures.circuit
    c.target.ensures.line
