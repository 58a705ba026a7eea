-- The laws of this crate, a named field each. `Laws` is the contract of `network_laws`.
use Rattle.bn_network_laws.specs.Commands.{Commands}
use Rattle.bn_network_laws.specs.Departures.{Departures}
use Rattle.bn_network_laws.specs.NetworkLaws.{FirstMoment, NextMoment, LastMoment, HeadsStayOne}

pub record Laws : Type 0 where
  -- From the start the network reaches its first moment in one move.
  pub first_moment_comes : FirstMoment
  -- From a moment the network reaches the moment of the next configuration in a counted number of moves.
  pub next_moment_comes : NextMoment
  -- From a last moment, unless the machine is stuck at a later read, the network reaches its end by the exit that the
  -- machine's configuration determines.
  pub last_moment_ends : LastMoment
  -- No move of the network gives a tape a second head.
  pub heads_stay_one : HeadsStayOne
  -- A command that stays in the window is replied to after a counted number of moves; a shift that would leave it
  -- takes the signal out by that side's loose port.
  pub commands_are_answered : Commands
  -- A shift that would move the head out of its window leads to the loose port in a counted number of moves.
  pub departures_are_counted : Departures
