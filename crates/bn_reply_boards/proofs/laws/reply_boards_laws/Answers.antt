use Rattle.bn_reply_boards.proofs.ClosedLemmas.{tells}
use Rattle.bn_reply_boards.proofs.GenerateLemmas.{generate_settled, given}
use Rattle.bn_reply_boards.proofs.laws.reply_boards_laws.Goals as goal

pub returns : goal.returns
returns _ = record {
  generate_has_one_reply = generate_settled;
  generated_tables_are_given = given;
  generated_runs_tell_outcomes = tells;
}
