use Rattle.bn_reply_builds.proofs.DriveLemmas.{drives-once}
use Rattle.bn_reply_builds.proofs.ErasingLemmas.{erasing-boards}
use Rattle.bn_reply_builds.proofs.RenumberedLemmas.{renumbered-tell, words-renumbered}
use Rattle.bn_reply_builds.proofs.drives.drive_laws.Goals as goal

pub returns : goal.returns
returns _ = record {
  drives_have_one_answer = drives-once;
  renumbered_builds_tell = renumbered-tell;
  words_are_renumbered = words-renumbered;
  erasing_boards_erase = erasing-boards;
}
