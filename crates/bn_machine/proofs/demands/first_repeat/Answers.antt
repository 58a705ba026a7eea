use Rattle.std.proofs.Common.{suc, ◌+◌, arith, add-one}
use Rattle.bn_machine.proofs.SearchLemmas.{none_repeated_more, unambiguous, least_repeat}
use Rattle.bn_machine.proofs.demands.first_repeat.Goals as goal

pub returns-in-Some : goal.returns-in-Some
returns-in-Some c = least_repeat _ (c.loop-index.index + 1) _ (rw add-one c.loop-index.invariant) c.in-Some.ensures

pub loop-index-preserved : goal.loop-index-preserved
loop-index-preserved c = none_repeated_more _ (c.loop-index.index + 1) (rw add-one c.loop-index.invariant)
    c.in_default.ensures

pub returns : goal.returns
returns c = unambiguous _ (suc c.loop-index.index) (omega arith) c.loop-index.invariant
