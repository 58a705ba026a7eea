use Rattle.bn_leap.proofs.EntryLemmas.{at-Fits}
use Rattle.bn_leap.proofs.leap.leap_from.Goals as goal

pub marked_column-requires : goal.marked_column-requires
marked_column-requires c = at-Fits c.args.packed.now.net c.args.packed.now.config c.args.entry.now c.requires
