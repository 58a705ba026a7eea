use Rattle.bn_session.proofs.OneReading.{scripts-one, faulty-none, faults-one}
use Rattle.bn_session.proofs.PlayedLemmas.{plays-one, plays-there, places-run, goes-least, plays-agree}
use Rattle.bn_session.proofs.SomeReading.{read_or_fault}
use Rattle.bn_session.proofs.laws.session_laws.Goals as goal

pub returns : goal.returns
returns _ = record {
  scripts_have_one_reading = (scripts-one, faulty-none, faults-one, read_or_fault);
  plays_have_one_answer = (plays-one, plays-there);
  plays_stay_on_the_run = (places-run, goes-least, plays-agree);
}
