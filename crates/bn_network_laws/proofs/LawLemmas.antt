-- The laws of this crate that follow from those of the crates below it, each proved.
use Rattle.bn_network.proofs.ExistingLemmas.{have-entries}
use Rattle.bn_network_laws.proofs.CommandLemmas.{commands-walk, departures-walk}
use Rattle.bn_network_laws.proofs.FirstLemmas.{first-moment}
use Rattle.bn_network_laws.proofs.LastLemmas.{last-moment}
use Rattle.bn_network_laws.proofs.NextLemmas.{next-moment}
use Rattle.bn_network_laws.specs.Commands.{Commands}
use Rattle.bn_network_laws.specs.Departures.{Departures}
use Rattle.bn_network_laws.specs.NetworkLaws.{FirstMoment, NextMoment, LastMoment}
use Rattle.bn_rsm.proofs.CostLemmas.{costs-bounded}

pub first_moment_comes : FirstMoment
first_moment_comes = first-moment costs-bounded have-entries

pub commands_are_answered : Commands
commands_are_answered = commands-walk costs-bounded

pub next_moment_comes : NextMoment
next_moment_comes = next-moment costs-bounded commands_are_answered have-entries

pub last_moment_ends : LastMoment
last_moment_ends = last-moment costs-bounded commands_are_answered have-entries

pub departures_are_counted : Departures
departures_are_counted = departures-walk costs-bounded
