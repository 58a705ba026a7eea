use Rattle.bn_reply_relations.proofs.LawLemmas.{boards_are_counted, given_boards_are_accepted, boards_are_spelled}
use Rattle.bn_reply_relations.proofs.LawLemmas.{exits_are_named, moments_are_counted, boards_tell_alike}
use Rattle.bn_reply_relations.proofs.LawLemmas.{boards_have_runs}
use Rattle.bn_reply_relations.proofs.LawLemmas.{boards_tell_runs, compile_has_one_reply, texts_differ_in_words}
use Rattle.bn_reply_relations.proofs.LawLemmas.{compiled_texts_step_back, run_has_one_reply, runs_tell_outcomes}
use Rattle.bn_reply_relations.proofs.LawLemmas.{runs_stop_within, runs_have_one_of_each, replies_tell_outcomes}
use Rattle.bn_reply_relations.proofs.LawLemmas.{answers_tell_headline}
use Rattle.bn_reply_relations.proofs.SettledLemmas.{circuits_settled, migrate_settled, migrated-stays}
use Rattle.bn_reply_relations.proofs.SizeLemmas.{texts-short, texts-read}
use Rattle.bn_reply_relations.proofs.laws.reply_relations_laws.Goals as goal

pub returns : goal.returns
returns _ = record {
  circuits_have_one_reply = circuits_settled;
  migrate_has_one_reply = migrate_settled;
  migrated_stays = migrated-stays;
  texts_may_be_read = (texts-short, texts-read);
  boards_are_counted = boards_are_counted;
  given_boards_are_accepted = given_boards_are_accepted;
  boards_are_spelled = boards_are_spelled;
  exits_are_named = exits_are_named;
  moments_are_counted = moments_are_counted;
  boards_tell_alike = boards_tell_alike;
  boards_have_runs = boards_have_runs;
  boards_tell_runs = boards_tell_runs;
  compile_has_one_reply = compile_has_one_reply;
  texts_differ_in_words = texts_differ_in_words;
  compiled_texts_step_back = compiled_texts_step_back;
  run_has_one_reply = run_has_one_reply;
  runs_tell_outcomes = runs_tell_outcomes;
  runs_stop_within = runs_stop_within;
  runs_have_one_of_each = runs_have_one_of_each;
  replies_tell_outcomes = replies_tell_outcomes;
  answers_tell_headline = answers_tell_headline;
}
