-- The laws of this crate with those below put in.
use Rattle.bn_headline.proofs.ClosedLemmas.{generated_tell, replies_tell}
use Rattle.bn_headline.proofs.WindowClosedLemmas.{found_told}
use Rattle.bn_words.proofs.DecideLemmas.{words_have_form_or_none}
use Rattle.bn_top.specs.Clauses.{ClausesGiveEnds}
use Rattle.bn_top.specs.FoundLaws.{AnswersTellFound}
use Rattle.bn_top.specs.HeadlineLaws.{AnswersTellMachine, GeneratedClauseTells}
use Rattle.bn_top.proofs.AnswerLemmas.{requests-are-answered}
use Rattle.bn_top.proofs.ClauseLemmas.{clauses-give_ends}
use Rattle.bn_top.proofs.FoundLemmas.{answers-tell_found}
use Rattle.bn_top.proofs.MachineHeadlineLemmas.{answers-tell_machine, generated-clause_tells}

pub machine_told : AnswersTellMachine
machine_told = answers-tell_machine replies_tell

pub generated_told : GeneratedClauseTells
generated_told = generated-clause_tells generated_tell

pub ends_given : ClausesGiveEnds
ends_given = λ words status b a. clauses-give_ends words b a words_have_form_or_none requests-are-answered status

pub window_told : AnswersTellFound
window_told = answers-tell_found found_told
