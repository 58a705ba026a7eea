-- The laws of this crate that follow from those of the crates below it, each proved.
use Rattle.bn_machine.proofs.MachineStepLemmas.{run_anywhere, agrees_final, agrees_stuck, run_follows, follows_run}
use Rattle.bn_machine.proofs.OutcomeLemmas.{ending_exists, ending_once, outcome_exists, outcome_once}
use Rattle.bn_machine.proofs.OutputLemmas.{output_exists, output_once}
use Rattle.bn_machine.proofs.TurnsLemmas.{after_inside}
use Rattle.bn_machine.specs.Laws.{HasOneOutput, RoomsChangeNothing, AlikeMomentsEndAlike, RunsHaveHistories}
use Rattle.bn_machine.specs.Laws.{HasOneEnding, HasOneOutcome}

pub output_is_one : HasOneOutput
output_is_one = (output_exists, output_once)

pub rooms_change_nothing : RoomsChangeNothing
rooms_change_nothing = (run_anywhere, after_inside)

pub alike_moments_end_alike : AlikeMomentsEndAlike
alike_moments_end_alike = λ b p c d a h. (agrees_final b p c d a, agrees_stuck b p c d a h)

pub runs_have_histories : RunsHaveHistories
runs_have_histories = (run_follows, follows_run)

pub ending_is_one : HasOneEnding
ending_is_one = (ending_exists, ending_once)

pub outcome_is_one : HasOneOutcome
outcome_is_one = (outcome_exists, outcome_once)
