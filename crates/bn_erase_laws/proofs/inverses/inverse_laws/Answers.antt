use Rattle.bn_erase_laws.proofs.InverseDecidedLemmas.{goes_or_ends}
use Rattle.bn_erase_laws.proofs.InverseLemmas.{inverse_machine, inverse_twice, ends_exchanged, tests_passed}
use Rattle.bn_erase_laws.proofs.InverseLemmas.{inverses-uniform, inverses-follow, inverses-back, inverses-end}
use Rattle.bn_erase_laws.proofs.inverses.inverse_laws.Goals as goal

pub returns : goal.returns
returns _ = record {
  inverses_are_machines = inverse_machine;
  inverses_of_inverses = inverse_twice;
  inverses_exchange_ends = ends_exchanged;
  inverses_pass_tests = tests_passed;
  inverses_are_uniform = inverses-uniform;
  inverses_follow_back = inverses-follow;
  inverses_run_back = inverses-back;
  inverses_end_at_the_start = inverses-end;
  runs_go_on_or_end = goes_or_ends;
}
