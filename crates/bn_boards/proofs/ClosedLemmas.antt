-- The laws on translations and boards, as the crates above cite them.
use Rattle.bn_bennett.specs.Laws.{TranslationsAreUniform, TranslationsEndAlike, TranslationsHaveNoRoom}
use Rattle.bn_bennett.specs.Laws.{TranslationsStand}
use Rattle.bn_bennett.proofs.LawLemmas.{translations_are_uniform, translations_end_alike, translations_stand}
use Rattle.bn_bennett.proofs.LawLemmas.{translations_have_no_room}
use Rattle.bn_bennett.proofs.Once.{translations_are_one}
use Rattle.bn_network.proofs.ExistingLemmas.{have-entries}
use Rattle.bn_network.proofs.LawLemmas.{controls_are_one}
use Rattle.bn_boards.specs.LayoutLaws.{BoardsRead, FlatsAreOne}
use Rattle.bn_boards.proofs.LayoutLawLemmas.{boards_are_read}
use Rattle.bn_boards.proofs.SameLemmas.{flats-one}
use Rattle.bn_boards.specs.ExistenceLaws.{FlatsAreThere}
use Rattle.bn_boards.specs.RunLaws.{BoardsRunToTheirExit}
use Rattle.bn_boards.specs.Moments.{BoardsHaveMoments}
use Rattle.bn_boards.proofs.BoardLawLemmas.{flats_are_there, boards_run_to_their_exit, boards_have_moments}

pub uniform : TranslationsAreUniform
uniform = translations_are_uniform

pub alike : TranslationsEndAlike
alike = translations_end_alike

pub stand : TranslationsStand
stand = translations_stand

pub have_no_room : TranslationsHaveNoRoom
have_no_room = translations_have_no_room

pub read_off : BoardsRead
read_off = boards_are_read

pub run_to_exit : BoardsRunToTheirExit
run_to_exit = boards_run_to_their_exit

pub have_moments : BoardsHaveMoments
have_moments = boards_have_moments

pub flats_one : FlatsAreOne
flats_one = flats-one translations_are_one uniform controls_are_one have-entries

pub flats_there : FlatsAreThere
flats_there = flats_are_there
