use Rattle.bn_reply_layout.proofs.LawLemmas.{layout_has_one_reply, modules_are_named, elements_are_found}
use Rattle.bn_reply_layout.proofs.TellingLemmas.{texts-tell}
use Rattle.bn_reply_layout.proofs.laws.reply_layout_laws.Goals as goal

pub returns : goal.returns
returns _ = record {
  layout_has_one_reply = layout_has_one_reply;
  modules_are_named = modules_are_named;
  elements_are_found = elements_are_found;
  texts_tell_all = texts-tell;
}
