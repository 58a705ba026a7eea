use Rattle.bn_bennett.proofs.LawLemmas.{translations_are_there, translations_are_uniform, translations_halt_alike}
use Rattle.bn_bennett.proofs.LawLemmas.{translations_end_alike, calls_end_alike, translations_have_no_room}
use Rattle.bn_bennett.proofs.LawLemmas.{translations_stand, translations_have_names, translations_are_tables}
use Rattle.bn_bennett.proofs.Once.{translations_are_one}
use Rattle.bn_bennett.proofs.laws.bennett_translation_laws.Goals as goal

pub returns : goal.returns
returns _ = record {
  translations_are_one = translations_are_one;
  translations_are_there = translations_are_there;
  translations_are_uniform = translations_are_uniform;
  translations_halt_alike = translations_halt_alike;
  translations_end_alike = translations_end_alike;
  calls_end_alike = calls_end_alike;
  translations_have_no_room = translations_have_no_room;
  translations_stand = translations_stand;
  translations_have_names = translations_have_names;
  translations_are_tables = translations_are_tables;
}
