use Rattle.bn_network_laws.proofs.HeadLemmas.{heads-stay}
use Rattle.bn_network_laws.proofs.LawLemmas.{first_moment_comes, next_moment_comes, last_moment_ends}
use Rattle.bn_network_laws.proofs.LawLemmas.{commands_are_answered, departures_are_counted}
use Rattle.bn_network_laws.proofs.laws.network_laws.Goals as goal

pub returns : goal.returns
returns _ = record {
  first_moment_comes = first_moment_comes;
  next_moment_comes = next_moment_comes;
  last_moment_ends = last_moment_ends;
  heads_stay_one = heads-stay;
  commands_are_answered = commands_are_answered;
  departures_are_counted = departures_are_counted;
}
