use Rattle.bn_mirror.proofs.AdmittedLemmas.{mirrors-there, mirrors-admitted, mirrors-one, mirrors-turn_back}
use Rattle.bn_mirror.proofs.RunLemmas.{mirrors-run_back, runs-come_back, mirrors-exchange_ends}
use Rattle.bn_mirror.proofs.laws.mirror_laws.Goals as goal

pub returns : goal.returns
returns _ = record {
  mirrors_are_there = mirrors-there;
  mirrors_are_admitted = mirrors-admitted;
  mirrors_are_one = mirrors-one;
  mirrors_turn_back = mirrors-turn_back;
  mirrors_run_back = mirrors-run_back;
  runs_come_back = runs-come_back;
  mirrors_exchange_ends = mirrors-exchange_ends;
}
