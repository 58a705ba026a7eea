-- Builds are there.
use Rattle.std.specs.Prelude.{refl}
use Rattle.bn_network.proofs.OccurringLemmas.{order_there}
use Rattle.bn_boards.proofs.ListedLemmas.{boards-there}
use Rattle.bn_boards.specs.Builds.{IsUniformNetwork}
use Rattle.bn_boards.proofs.LayoutLemmas.{layouts-there}
use Rattle.bn_boards.proofs.NetworkLemmas.{networks-there, networks-modules}
use Rattle.bn_boards.specs.Laws.{BuildsAreThere}

pub builds-there : BuildsAreThere
builds-there m l machine uniform letters =
    let order = order_there m in
    let net = networks-there.0 m l order.0 machine uniform letters order.1 in
    let layout = layouts-there.0 m l order.0 machine uniform order.1 in
    let board = boards-there net.0 (networks-modules m l order.0 net.0 letters order.1 net.1) in
    let is : IsUniformNetwork m l order.0 net.0 =
    record { machine = machine; uniform = uniform; symbols = letters; numbering = order.1; network = net.1 } in (
      record { machine = m; limits = l; names = order.0; network = net.0; circuit = board.0; layout = layout.0 },
      refl,
      refl,
      record { is_network = is; is_board = board.1; is_layout = layout.1 },
    )
