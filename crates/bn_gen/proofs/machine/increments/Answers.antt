-- The list is a machine.
use Rattle.bn_gen.proofs.MachineLemmas.{few, no_fault}
use Rattle.bn_gen.proofs.machine.increments.Goals as goal

pub try_new-requires : goal.try_new-requires
try_new-requires c = few c.args.k c.in_ok-quints.quints.items c.requires c.in_ok-quints.ensures

pub unreachable-requires-in-Err-Range : goal.unreachable-requires-in-Err-Range
unreachable-requires-in-Err-Range c =
    let fault = rw c.in-Err-Range.field-0-is at c.in-Err-Range.ensures.refused in
    no_fault c.args.k c.in_ok-quints.quints.items c.in-Err-Range.field-0-0 c.requires c.in_ok-quints.ensures fault
