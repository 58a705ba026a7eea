-- The laws on the answers with the laws below them put in, for the crates above that cite them as they are.
use Rattle.std.specs.Prelude.{◌-◌}
use Rattle.bn_table.proofs.MachineLemmas.{tables_machines}
use Rattle.bn_bennett.proofs.Once.{translations_are_one}
use Rattle.bn_boards.proofs.ExitLemmas.{exits-one}
use Rattle.bn_boards.proofs.ClosedLemmas.{read_off, run_to_exit, have_moments, flats_one, flats_there}
use Rattle.bn_network.proofs.LawLemmas.{controls_are_one as controls}
use Rattle.bn_reply_relations.specs.CompileReply.{CompileIsSettled}
use Rattle.bn_reply_relations.specs.RunReply.{RunIsSettled}
use Rattle.bn_reply_relations.specs.Laws.{AnswersTellHeadline, BoardsAreCounted, MomentsAreCounted}
use Rattle.bn_reply_relations.proofs.CountLemmas.{boards-counted}
use Rattle.bn_reply_relations.proofs.ToldRunLemmas.{answers-tell_headline}
use Rattle.bn_reply_relations.proofs.RunLemmas.{exits-named, moments-counted}
use Rattle.bn_reply_relations.proofs.SpelledLemmas.{boards-spelled}
use Rattle.bn_reply_relations.proofs.TellingLemmas as telling

-- ---- the answers

pub counted : BoardsAreCounted
counted = boards-counted translations_are_one controls

pub moments : MomentsAreCounted
moments = moments-counted run_to_exit have_moments

-- `compile` has one answer
pub compile_settled : CompileIsSettled
compile_settled = telling.compile_settled tables_machines flats_there flats_one counted (boards-spelled read_off)

-- and `run`
pub run_settled : RunIsSettled
run_settled = telling.run_settled tables_machines flats_there flats_one counted exits-one (exits-named run_to_exit)
    moments

-- and an answer that was given whole tells the headline
pub headline_told : AnswersTellHeadline
headline_told = answers-tell_headline tables_machines flats_one counted exits-one run_to_exit moments
