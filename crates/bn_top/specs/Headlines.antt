-- A reply on an input in memory, with all headlines of its answer in one record: what the clauses of the top call
-- state, each by its name.
use Rattle.std.specs.Prelude.{ℕ, List, [], Option, Some}
use Rattle.bn_circuits.specs.declared.place.Place.{Place}
use Rattle.bn_reply.specs.Codes.{IsAnswer}
use Rattle.bn_reply.specs.Replying.{IsReplied}
use Rattle.bn_reply.specs.declared.reply.Reply.{Reply}
use Rattle.bn_reply.specs.declared.status.Status.{Status}
use Rattle.bn_headline.specs.MachineHeadline.{MachineHeadline, MachineHeadlineWithin}
use Rattle.bn_headline.specs.CircuitHeadline.{CircuitHeadline}
use Rattle.bn_headline.specs.FoundCircuitHeadline.{FoundCircuitHeadline}
use Rattle.bn_headline.specs.FoundMachineHeadline.{FoundMachineHeadline}
use Rattle.bn_headline.specs.Generated.{GeneratedHeadline}
use Rattle.bn_headline.specs.FoundHeadline.{TellsFoundWindow}
use Rattle.bn_top.specs.Answers.{Answers}
use Rattle.bn_top.specs.CommandLaws.{TellsCommands}

-- The answer to these arguments and bytes reports how the machine's own bounded run ends, without and with a greatest
-- number of element steps, by the circuit, in the automatic window, and for `generate`; and what other commands print,
-- each in its own terms.
pub record TellsHeadlines (words : List (List ℕ)) (bytes : List ℕ) (status : Status)
    (taken took : Option (List ℕ)) : Type 0 where
  pub headline : MachineHeadline words bytes status taken took
  pub headline_within : MachineHeadlineWithin words bytes status taken took
  pub headline_circuit : CircuitHeadline words bytes status taken took
  pub found : TellsFoundWindow words bytes status taken took
  pub found_machine : FoundMachineHeadline words bytes status taken took
  pub found_circuit : FoundCircuitHeadline words bytes status taken took
  pub generated : GeneratedHeadline words status taken took
  pub commands : TellsCommands words bytes status taken took

-- The reply is the answer to these arguments and bytes, and the watch heard its places; its status is that of an
-- answer; and it states the headlines.
pub record IsReplyTo (words : List (List ℕ)) (bytes : List ℕ) (reply : Reply)
    (told heard : Option (List Place)) : Type 0 where
  pub answered : IsReplied (Answers words bytes) reply told heard
  pub status : IsAnswer reply.status
  pub headlines : TellsHeadlines words bytes reply.status (Some []) (Some reply.text.items)
