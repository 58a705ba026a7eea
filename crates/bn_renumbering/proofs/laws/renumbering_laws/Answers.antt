use Rattle.bn_erase.proofs.ClosedLemmas.{erasings_uniform}
use Rattle.bn_renumbering.proofs.BackLemmas.{written-back}
use Rattle.bn_renumbering.proofs.RunLemmas.{renumberings-run}
use Rattle.bn_renumbering.proofs.TableLemmas.{erasings-tables, inverses-tables}
use Rattle.bn_renumbering.proofs.UniformLemmas.{renumberings-uniform, renumberings-pass}
use Rattle.bn_renumbering.proofs.laws.renumbering_laws.Goals as goal

pub returns : goal.returns
returns _ = record {
  renumberings_pass_tests = renumberings-pass;
  renumberings_are_uniform = renumberings-uniform;
  renumberings_run_alike = renumberings-run;
  written_machines_read_back = written-back;
  erasings_are_tables = erasings-tables erasings_uniform;
  inverses_are_tables = inverses-tables;
}
