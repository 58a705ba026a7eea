use Rattle.bn_csv.proofs.LinesLemmas.{entries_of-lines_of}
use Rattle.bn_csv.proofs.NumberingLemmas.{firsts_number}
use Rattle.bn_csv.proofs.laws.csv_laws.Goals as goal

pub returns : goal.returns
returns _ = record {
  written_entries_are_read_back = entries_of-lines_of;
  first_appearances_number_names = firsts_number;
}
