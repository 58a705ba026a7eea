-- The laws of this crate that follow from those of the crates below it, each proved.
use Rattle.bn_network.proofs.OccurringLemmas.{order_one, order_there}
use Rattle.bn_network.proofs.TabledLemmas.{table_one, table_there}
use Rattle.bn_network.specs.ControlLaws.{ControlsAreOne}

pub controls_are_one : ControlsAreOne
controls_are_one = (order_one, order_there, λ m names is u n. table_there m names is u n, table_one)
