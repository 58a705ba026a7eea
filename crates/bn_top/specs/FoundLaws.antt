-- What the whole answer implies for the headline of the automatic window.
use Rattle.std.specs.Prelude.{ℕ, List, Option, IfSome}
use Rattle.bn_circuits.specs.declared.place.Place.{Place}
use Rattle.bn_reply.specs.Codes.{IsAnswer}
use Rattle.bn_reply.specs.declared.status.Status.{Status}
use Rattle.bn_headline.specs.FoundHeadline.{TellsFoundWindow}
use Rattle.bn_top.specs.Told.{IsAnswered}

-- the answer implies the headline of the automatic window
abbrev pub AnswersTellFound : Type 0
AnswersTellFound =
    (words : List (List ℕ)) (left : Option (List ℕ)) (status : Status) (taken took : Option (List ℕ))
    (told heard : Option (List Place))
    → (IsAnswer status → IfSome left (λ bytes. IsAnswered words bytes status taken took told heard))
    → IsAnswer status → IfSome left (λ bytes. TellsFoundWindow words bytes status taken took)
