use Rattle.bn_farm.proofs.FarmLemmas.{lines_are_runs, boards_are_apart, order_is_free, farms_stay}
use Rattle.bn_farm.proofs.LawLemmas.{counts_are_steps, boards_keep_circuits}
use Rattle.bn_farm.proofs.LawfulLemmas.{undoing_is_lawful}
use Rattle.bn_farm.proofs.TextLawLemmas.{undoing-schedule, farms-read_back, farms-have_texts, farm_texts-one}
use Rattle.bn_farm.proofs.UndoLemmas.{undoing_restores, undoing_twice}
use Rattle.std.proofs.Common.{refl}
use Rattle.bn_farm.proofs.laws.farm_laws.Goals as goal

pub returns : goal.returns
returns _ = record {
  most_farm_bytes_are_stated = refl;
  lines_are_runs = lines_are_runs;
  boards_are_apart = boards_are_apart;
  order_is_free = order_is_free;
  farms_stay = farms_stay;
  counts_are_steps = counts_are_steps;
  undoing_restores = undoing_restores;
  undoing_twice = undoing_twice;
  boards_keep_circuits = boards_keep_circuits;
  undoing_is_lawful = undoing_is_lawful;
  undoing_is_a_schedule = undoing-schedule;
  farms_are_read_back = farms-read_back;
  farms_have_one_text = (farms-have_texts, farm_texts-one);
}
