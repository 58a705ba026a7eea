use Rattle.std.proofs.Common.{sym, subst}
use Rattle.bn_rsm.specs.Machines.{AreSound}
use Rattle.bn_rsm.specs.Pairs.{AreNumbers}
use Rattle.bn_rsm.proofs.rsm.Rsm.new.Goals as goal

pub invariant_of-result-2 : goal.invariant_of-result-2
invariant_of-result-2 c =
    let same = c.as_slice.ensures.value in
    let numbers = c.in_ok-index.ensures c.args.states c.args.lines
    (subst (AreSound c.args.states c.args.lines) (sym same) c.requires.sound) in
    record {
      numbers = subst (AreNumbers c.in_ok-index.index.from c.in_ok-index.index.to) same numbers;
      few = c.requires.few;
    }
