-- What the whole answer implies for the headline by the machine alone.
use Rattle.std.specs.Prelude.{ℕ, List, Option, IfSome}
use Rattle.bn_circuits.specs.declared.place.Place.{Place}
use Rattle.bn_reply.specs.Codes.{IsAnswer}
use Rattle.bn_reply.specs.declared.status.Status.{Status}
use Rattle.bn_top.specs.Told.{IsAnswered, TellsGenerate}
use Rattle.bn_headline.specs.Generated.{GeneratedHeadline}
use Rattle.bn_headline.specs.MachineHeadline.{MachineHeadline, MachineHeadlineWithin}

-- the answer implies the headline by the machine alone, without and with a greatest number of element steps
abbrev pub AnswersTellMachine : Type 0
AnswersTellMachine =
    (words : List (List ℕ)) (left : Option (List ℕ)) (status : Status) (taken took : Option (List ℕ))
    (told heard : Option (List Place))
    → (IsAnswer status → IfSome left (λ bytes. IsAnswered words bytes status taken took told heard))
    → IsAnswer status
    → IfSome left (λ bytes. MachineHeadline words bytes status taken took)
    × IfSome left (λ bytes. MachineHeadlineWithin words bytes status taken took)

-- and what `generate` prints implies its own headline
abbrev pub GeneratedClauseTells : Type 0
GeneratedClauseTells =
    (words : List (List ℕ)) (status : Status) (taken took : Option (List ℕ))
    → TellsGenerate words status taken took → GeneratedHeadline words status taken took
