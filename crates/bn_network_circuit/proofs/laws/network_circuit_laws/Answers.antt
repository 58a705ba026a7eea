use Rattle.bn_network_circuit.proofs.NetworkLemmas.{sound}
use Rattle.bn_network_circuit.proofs.StartLemmas.{starts}
use Rattle.bn_network_circuit.proofs.laws.network_circuit_laws.Goals as goal

pub returns : goal.returns
returns c = record { networks_are_sound = sound; starts_are_represented = starts }
