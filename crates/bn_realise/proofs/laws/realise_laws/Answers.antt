use Rattle.bn_realise.proofs.BankCrossingLemmas.{bank_crosses, moved-IsResting, marked-once}
use Rattle.bn_realise.proofs.LawLemmas.{moves_stay_within, own_wires_stay_inside}
use Rattle.bn_realise.proofs.StartLemmas.{same_moves}
use Rattle.bn_realise.proofs.laws.realise_laws.Goals as goal

pub returns : goal.returns
returns _ = record {
  banks_are_crossed = bank_crosses;
  moved_banks_rest = moved-IsResting;
  moves_stay_within = moves_stay_within;
  own_wires_stay_inside = own_wires_stay_inside;
  marks_are_one = marked-once;
  banks_are_of_one_table = same_moves;
}
