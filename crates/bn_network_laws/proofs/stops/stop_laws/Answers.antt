use Rattle.bn_rsm.proofs.CostLemmas.{costs-bounded}
use Rattle.bn_network.proofs.ExistingLemmas.{have-entries}
use Rattle.bn_network_laws.proofs.CommandLemmas.{commands-walk}
use Rattle.bn_network_laws.proofs.StoppedLemmas.{networks-stop}
use Rattle.bn_network_laws.proofs.ThereLemmas.{stops-there, stops-stuck, stops-one}
use Rattle.bn_network_laws.proofs.stops.stop_laws.Goals as goal

pub returns : goal.returns
returns _ = record {
  stops_are_there = stops-there;
  stops_are_stuck = stops-stuck;
  stops_are_one = stops-one;
  networks_stop = networks-stop costs-bounded (commands-walk costs-bounded) have-entries;
}
