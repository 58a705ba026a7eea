use Rattle.std.proofs.Common.{ap}
use Rattle.bn_control.specs.Names.{listed}
use Rattle.bn_control.proofs.ShownLemmas.{reads_at}
use Rattle.bn_control.proofs.count.new_reads.Goals as goal

pub returns-clause-new : goal.returns-clause-new
returns-clause-new c =
    reads_at c.args.quads.now c.args.index c.args.quad.now c.new_read.result c.new_read-2.result c.new_read-3.result
    (listed c.symbols.result) (listed c.symbols-2.result) (listed c.symbols-3.result)
    (ap listed c.symbols.ensures) (ap listed c.symbols-2.ensures) (ap listed c.symbols-3.ensures)
    c.new_read.ensures.new c.new_read-2.ensures.new c.new_read-3.ensures.new
