-- The backward machine's states are as few as the machine's own.
use Rattle.bn_erase.proofs.ListLemmas.{backward_below}
use Rattle.bn_erase.proofs.erasing.joint_quads.Goals as goal

pub add_backward-requires : goal.add_backward-requires
add_backward-requires c =
    backward_below c.in_ok-backward.backward c.args.other.now.machine c.quads-2.result.now _ c.quads-2.ensures.valid
    c.in_ok-backward.ensures c.quads-2.ensures.value c.requires
