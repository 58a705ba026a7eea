-- The bank's net with its start spells the bank.
use Rattle.std.proofs.Common.{refl}
use Rattle.bn_netlist.specs.NetText.{spelling_of}
use Rattle.bn_netlist_laws.specs.declared.version.Version.TheVariants.{Two}
use Rattle.bn_netlist.specs.declared.net_config.NetConfig.{NetConfig}
use Rattle.bn_reply_circuits.proofs.BankLemmas.{bank-Admits, net_circuit, net_spelling}
use Rattle.bn_reply_circuits.proofs.realise.bank_config.Goals as goal

pub returns : goal.returns
returns c =
    let spelled : NetConfig = record {
      version = Two;
      net = c.into_net.result;
      config = c.in_ok-config.config;
      start = record { element = c.args.line; line = 3 };
      end = c.exit_line-end.result;
    } in
    let bank = net_spelling c.args.rsm.now c.args.bank spelled c.args.state c.args.line c.requires.is
    c.into_net.ensures.net c.in_ok-config.ensures.start refl
    c.exit_line-end.ensures in
    let circuit = net_circuit spelled c.into_net.result refl c.into_net.ensures.circuit in
    let admitted = bank-Admits c.args.rsm.now c.args.state c.args.line c.requires.state c.requires.line
    (spelling_of spelled) bank c.requires.few circuit in
    record { version = refl; bank = bank; admitted = admitted }
