use Rattle.bn_machine.proofs.LawLemmas.{alike_moments_end_alike, ending_is_one, outcome_is_one, output_is_one}
use Rattle.bn_machine.proofs.LawLemmas.{rooms_change_nothing, runs_have_histories}
use Rattle.bn_machine.proofs.MachineStepLemmas.{cut_run, head_after, steps_are_functions, word_beyond}
use Rattle.bn_machine.proofs.TapeLemmas.{same_tape}
use Rattle.bn_machine.proofs.TurnsLemmas.{turn_once}
use Rattle.bn_machine.proofs.WindowLemmas.{windows-one}
use Rattle.bn_machine.proofs.VerdictLemmas.{standard_accepted, verdict_once}
use Rattle.std.proofs.Common.{refl}
use Rattle.bn_machine.proofs.laws.machine_laws.Goals as goal

pub returns : goal.returns
returns _ = record {
  tapes_are_their_symbols = same_tape;
  output_is_one = output_is_one;
  steps_are_functions = steps_are_functions;
  turns_are_one = turn_once;
  rooms_change_nothing = rooms_change_nothing;
  heads_stay_near = head_after;
  words_stand_far = word_beyond;
  cut_words_run_alike = cut_run;
  alike_moments_end_alike = alike_moments_end_alike;
  runs_have_histories = runs_have_histories;
  ending_is_one = ending_is_one;
  outcome_is_one = outcome_is_one;
  windows_have_one_list = windows-one;
  greatest_side_is_stated = refl;
  verdicts_are_one = verdict_once;
  standard_is_accepted = standard_accepted;
}
