-- The laws of this crate that follow from those of the crates below it, each proved.
use Rattle.bn_bennett.proofs.Once.{translations_are_one}
use Rattle.bn_boards.proofs.BoardLawLemmas.{boards_run_to_their_exit, boards_have_moments, flats_are_there}
use Rattle.bn_boards.proofs.ExitLemmas.{exits-one}
use Rattle.bn_boards.proofs.LayoutLawLemmas.{boards_are_read, flats_are_one, words_share_boards, words_differ_in_cells}
use Rattle.bn_network.proofs.LawLemmas.{controls_are_one}
use Rattle.bn_reply_relations.proofs.CompileLemmas.{texts-differ, compiled_texts-step_back}
use Rattle.bn_reply_relations.proofs.CountLemmas.{boards-counted}
use Rattle.bn_reply_relations.proofs.OutcomeLemmas.{runs-tell_outcomes, runs-stop_within}
use Rattle.bn_reply_relations.proofs.RunLemmas.{exits-named, moments-counted}
use Rattle.bn_reply_relations.proofs.SettledLemmas.{circuits_settled}
use Rattle.bn_reply_relations.proofs.SpelledLemmas.{boards-spelled}
use Rattle.bn_reply_relations.proofs.TellingLemmas.{boards-tell_alike, boards-have_runs, boards-tell_runs}
use Rattle.bn_reply_relations.proofs.TellingLemmas.{compile_settled}
use Rattle.bn_reply_relations.proofs.TellingLemmas.{run_settled}
use Rattle.bn_reply_relations.proofs.ToldRunLemmas.{runs-have_one_of_each, replies-tell_outcomes, answers-tell_headline}
use Rattle.bn_reply_relations.proofs.WindowLemmas.{given_accepted}
use Rattle.bn_reply_relations.specs.CompileLaws.{TextsDifferInWords, CompiledTextsStepBack}
use Rattle.bn_reply_relations.specs.CompileReply.{CompileIsSettled}
use Rattle.bn_reply_relations.specs.Laws.{BoardsAreCounted, GivenBoardsAreAccepted, BoardsAreSpelled, ExitsAreNamed}
use Rattle.bn_reply_relations.specs.Laws.{MomentsAreCounted, BoardsTellAlike, BoardsHaveRuns, BoardsTellRuns}
use Rattle.bn_reply_relations.specs.Laws.{RunsTellOutcomes, RunsStopWithin, RunsHaveOneOfEach, RepliesTellOutcomes}
use Rattle.bn_reply_relations.specs.Laws.{AnswersTellHeadline}
use Rattle.bn_reply_relations.specs.RunReply.{RunIsSettled}
use Rattle.bn_table.proofs.MachineLemmas.{tables_machines}

pub boards_are_counted : BoardsAreCounted
boards_are_counted = boards-counted translations_are_one controls_are_one

pub given_boards_are_accepted : GivenBoardsAreAccepted
given_boards_are_accepted = given_accepted tables_machines

pub boards_are_spelled : BoardsAreSpelled
boards_are_spelled = boards-spelled boards_are_read

pub exits_are_named : ExitsAreNamed
exits_are_named = exits-named boards_run_to_their_exit

pub moments_are_counted : MomentsAreCounted
moments_are_counted = moments-counted boards_run_to_their_exit boards_have_moments

pub boards_tell_alike : BoardsTellAlike
boards_tell_alike = boards-tell_alike tables_machines flats_are_one

pub boards_have_runs : BoardsHaveRuns
boards_have_runs = boards-have_runs tables_machines exits_are_named

pub boards_tell_runs : BoardsTellRuns
boards_tell_runs = boards-tell_runs tables_machines exits_are_named moments_are_counted

pub compile_has_one_reply : CompileIsSettled
compile_has_one_reply = compile_settled tables_machines flats_are_there flats_are_one
    boards_are_counted boards_are_spelled

pub texts_differ_in_words : TextsDifferInWords
texts_differ_in_words = texts-differ tables_machines words_share_boards words_differ_in_cells

pub compiled_texts_step_back : CompiledTextsStepBack
compiled_texts_step_back = compiled_texts-step_back circuits_settled

pub run_has_one_reply : RunIsSettled
run_has_one_reply = run_settled tables_machines flats_are_there flats_are_one
    boards_are_counted exits-one exits_are_named moments_are_counted

pub runs_tell_outcomes : RunsTellOutcomes
runs_tell_outcomes = runs-tell_outcomes tables_machines exits-one boards_run_to_their_exit moments_are_counted

pub runs_stop_within : RunsStopWithin
runs_stop_within = runs-stop_within tables_machines exits-one boards_run_to_their_exit

pub runs_have_one_of_each : RunsHaveOneOfEach
runs_have_one_of_each = runs-have_one_of_each tables_machines flats_are_there boards_are_counted
    boards_run_to_their_exit

pub replies_tell_outcomes : RepliesTellOutcomes
replies_tell_outcomes = replies-tell_outcomes tables_machines flats_are_one boards_are_counted
    exits-one boards_run_to_their_exit moments_are_counted

pub answers_tell_headline : AnswersTellHeadline
answers_tell_headline = answers-tell_headline tables_machines flats_are_one boards_are_counted
    exits-one boards_run_to_their_exit moments_are_counted
