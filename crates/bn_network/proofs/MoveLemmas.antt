-- The control's moves are one to one.
use Rattle.bn_network.specs.ControlLaws.{ControlsAreOneToOne}
use Rattle.bn_network.proofs.ForthLemmas.{forth}
use Rattle.bn_network.proofs.BackLemmas.{back}

-- a move is known from either of its ends
pub one-to-one : ControlsAreOneToOne
one-to-one machine is u = record { forth = forth machine u; back = back machine u }
