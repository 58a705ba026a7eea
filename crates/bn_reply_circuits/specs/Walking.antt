-- Walks of a configuration text's circuit in either direction.
use Rattle.std.specs.Prelude.{ℕ, List}
use Rattle.bn_circuits.specs.declared.place.Place.{Place}
use Rattle.bn_netlist_laws.specs.Spelling.{Spelling, circuit_of, moved_to}
use Rattle.bn_packed.specs.Running.{run_along, places_along}
use Rattle.bn_packed.specs.declared.direction.Direction.{Direction}
use Rattle.bn_reply.specs.declared.status.Status.{Status}
use Rattle.bn_reply_relations.specs.CircuitReply.{CircuitReplies}

-- the answer of the command that makes at most e steps in this direction: `step` forward, `back` backward
abbrev pub WalkReplies : Direction → ℕ → List ℕ → Status → List ℕ → List Place → Type 0
WalkReplies way e = CircuitReplies (λ k c. run_along way k c e) (λ k c. places_along way k e c)

-- what is spelled after at most e steps in this direction, and the places on the way
abbrev pub walked_to : Direction → ℕ → Spelling → Spelling
walked_to way e s = moved_to s (run_along way (circuit_of s) s.config e)

abbrev pub walked_places : Direction → ℕ → Spelling → List Place
walked_places way e s = places_along way (circuit_of s) e s.config
