use Rattle.bn_words.proofs.DecideLemmas.{words_have_form_or_none}
use Rattle.bn_words.proofs.FormLemmas.{one_form}
use Rattle.bn_words.proofs.laws.words_laws.Goals as goal

pub returns : goal.returns
returns _ = record {
  words_have_one_reading = one_form;
  words_have_a_form_or_none = words_have_form_or_none;
}
