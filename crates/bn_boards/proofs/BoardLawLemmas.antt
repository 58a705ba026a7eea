-- The laws of this crate that follow from those of the crates below it, each proved.
use Rattle.bn_bennett.proofs.LawLemmas.{translations_are_uniform, translations_are_there}
use Rattle.bn_bennett.proofs.LawLemmas.{translations_stand, translations_have_no_room}
use Rattle.bn_bennett.proofs.Once.{translations_are_one}
use Rattle.bn_boards.proofs.ExitedLemmas.{boards-run}
use Rattle.bn_boards.proofs.FlatLemmas.{flats-there}
use Rattle.bn_boards.proofs.JourneyedLemmas.{networks-end}
use Rattle.bn_boards.proofs.BoardMomentLemmas.{moments-told}
use Rattle.bn_boards.proofs.OutcomeLemmas.{ends-in_time, exits-tell, leaves-by, restored, run-back}
use Rattle.bn_boards.proofs.WholeLemmas.{moments-by_marks, boards-moments}
use Rattle.bn_boards.specs.ExistenceLaws.{FlatsAreThere}
use Rattle.bn_boards.specs.Moments.{MomentsAreTold, MomentsAreByMarks, BoardsHaveMoments}
use Rattle.bn_boards.specs.RunLaws.{NetworksEndAlike, BoardsRunToTheirExit, BoardsEndInTime, ExitsTellOutcomes}
use Rattle.bn_boards.specs.RunLaws.{BoardsLeaveByOutcomes, BoardsAreRestored, BoardsRunBack}
use Rattle.bn_boards.proofs.ExitLemmas.{exits-one}
use Rattle.bn_boards.proofs.LayoutLawLemmas.{boards_are_read}
use Rattle.bn_boards.proofs.ListedLemmas.{boards-there}
use Rattle.bn_machine.proofs.LawLemmas.{outcome_is_one}
use Rattle.bn_network.proofs.ExistingLemmas.{have-entries}
use Rattle.bn_network_laws.proofs.HeadLemmas.{heads-stay}

pub flats_are_there : FlatsAreThere
flats_are_there = flats-there translations_are_one translations_are_uniform translations_are_there boards-there

pub networks_end_alike : NetworksEndAlike
networks_end_alike = networks-end

pub boards_run_to_their_exit : BoardsRunToTheirExit
boards_run_to_their_exit = boards-run translations_stand translations_have_no_room boards_are_read

pub boards_end_in_time : BoardsEndInTime
boards_end_in_time = ends-in_time boards_run_to_their_exit

pub exits_tell_outcomes : ExitsTellOutcomes
exits_tell_outcomes = exits-tell exits-one boards_run_to_their_exit

pub boards_leave_by_outcomes : BoardsLeaveByOutcomes
boards_leave_by_outcomes = leaves-by exits-one boards_run_to_their_exit

pub boards_are_restored : BoardsAreRestored
boards_are_restored = restored exits-one boards_run_to_their_exit

pub boards_run_back : BoardsRunBack
boards_run_back = run-back boards_run_to_their_exit

pub moments_are_told : MomentsAreTold
moments_are_told = moments-told translations_are_uniform have-entries

pub moments_are_by_marks : MomentsAreByMarks
moments_are_by_marks = moments-by_marks translations_are_uniform have-entries

pub boards_have_moments : BoardsHaveMoments
boards_have_moments = boards-moments translations_are_uniform have-entries translations_stand
    translations_have_no_room outcome_is_one heads-stay
