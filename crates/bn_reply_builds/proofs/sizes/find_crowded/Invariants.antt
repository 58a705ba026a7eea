use Rattle.bn_reply_builds.proofs.CrowdedLemmas.{AreFewBefore}
use Rattle.bn_reply_builds.proofs.sizes.find_crowded.Given as goal

abbrev pub invariant-loop-tape : goal.invariant-loop-tape
invariant-loop-tape l = AreFewBefore l.machine l.tape
