-- What the answers of `run` imply for the circuit.
use Rattle.std.specs.Prelude.{ℕ, List, Option}
use Rattle.bn_reply.specs.declared.status.Status.{Status}
use Rattle.bn_reply_relations.specs.ToldRuns.{TellsHeadline}
use Rattle.bn_headline.specs.CircuitHeadline.{CircuitHeadline}

-- the headline of the circuits implies the headline by the circuit
abbrev pub HeadlineTellsCircuit : Type 0
HeadlineTellsCircuit =
    (words : List (List ℕ)) (bytes : List ℕ) (status : Status) (taken took : Option (List ℕ))
    → TellsHeadline words bytes status taken took → CircuitHeadline words bytes status taken took
