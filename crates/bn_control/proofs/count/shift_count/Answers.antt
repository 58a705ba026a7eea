use Rattle.std.proofs.Common.{rules}
use Rattle.bn_quad.specs.declared.quad.Act.TheVariants.{Write}
use Rattle.bn_control.proofs.ShownLemmas.{shifts_at}
use Rattle.bn_control.proofs.count.shift_count.Goals as goal

pub returns-clause-shifts : goal.returns-clause-shifts
returns-clause-shifts c n = shifts_at n c.args.quad.now (Write 0) c.shifts_in.result c.shifts_in-2.result
    c.shifts_in-3.result (search rules) c.shifts_in.ensures c.shifts_in-2.ensures c.shifts_in-3.ensures
