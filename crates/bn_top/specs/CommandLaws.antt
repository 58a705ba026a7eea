-- What the whole answer implies for what further commands print.
use Rattle.std.specs.Prelude.{ℕ, List, Option, IfSome}
use Rattle.bn_circuits.specs.declared.place.Place.{Place}
use Rattle.bn_reply.specs.Codes.{IsAnswer}
use Rattle.bn_reply.specs.declared.status.Status.{Status}
use Rattle.bn_headline.specs.CommandHeadlines.{BackCommand, BennettCommand, MachineCommand, StepCommand}
use Rattle.bn_top.specs.QuadHeadlines.{BuildHeadline, DriveCircuitHeadline, DriveHeadline, InverseCommand}
use Rattle.bn_top.specs.Told.{IsAnswered}

-- the sink received what these commands print, each in its own terms
pub record TellsCommands (words : List (List ℕ)) (bytes : List ℕ) (status : Status)
    (taken took : Option (List ℕ)) : Type 0 where
  pub machine : MachineCommand words bytes status taken took
  pub bennett : BennettCommand words bytes status taken took
  pub step : StepCommand words bytes status taken took
  pub back : BackCommand words bytes status taken took
  pub inverse : InverseCommand words bytes status taken took
  pub build : BuildHeadline words bytes status taken took
  pub drive : DriveHeadline words bytes status taken took
  pub drive_circuit : DriveCircuitHeadline words bytes status taken took

-- the answer implies it
abbrev pub AnswersTellCommands : Type 0
AnswersTellCommands =
    (words : List (List ℕ)) (left : Option (List ℕ)) (status : Status) (taken took : Option (List ℕ))
    (told heard : Option (List Place))
    → (IsAnswer status → IfSome left (λ bytes. IsAnswered words bytes status taken took told heard))
    → IsAnswer status → IfSome left (λ bytes. TellsCommands words bytes status taken took)
