-- The list has as many quadruples as both machines' own.
use Rattle.std.proofs.Common.{arith}
use Rattle.bn_erase.proofs.MachineLemmas.{few_quadruples}
use Rattle.bn_erase_laws.proofs.ErasingLemmas.{erasing_has_length}
use Rattle.bn_erase.proofs.erasing.erase.Goals as goal

pub returns-then-count-gt-MOST_QUADRUPLES-clause-refused : goal.returns-then-count-gt-MOST_QUADRUPLES-clause-refused
returns-then-count-gt-MOST_QUADRUPLES-clause-refused c =
    let long = few_quadruples c.args.first.now c.args.second.now c.quadruples_of.ensures.valid
    c.quadruples_of-2.ensures.valid erasing_has_length in (
      omega (arith, long, c.quadruples_of.ensures.counted, c.quadruples_of-2.ensures.counted),
      c.if-count-gt-MOST_QUADRUPLES.true,
    )

pub returns-clause-few : goal.returns-clause-few
returns-clause-few c =
    let long = few_quadruples c.args.first.now c.args.second.now c.quadruples_of.ensures.valid
    c.quadruples_of-2.ensures.valid erasing_has_length in
    omega (
      arith,
      long,
      c.quadruples_of.ensures.counted,
      c.quadruples_of-2.ensures.counted,
      c.if-count-gt-MOST_QUADRUPLES.false,
    )
