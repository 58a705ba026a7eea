use Rattle.bn_network_text.proofs.LawLemmas.{one_network, one_fault, faulty_nothing, network_or}
use Rattle.bn_network_text.proofs.laws.network_text_laws.Goals as goal

pub returns : goal.returns
returns c = record {
  one_network = one_network;
  one_fault = one_fault;
  faulty_texts_describe_nothing = faulty_nothing;
  network_or_fault = network_or;
}
