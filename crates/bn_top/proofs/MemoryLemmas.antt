-- The call on an input in memory: what holds of its reply, from how the call ends.
use Rattle.std.specs.Prelude.{◌≡◌, ◌≢◌, ℕ, List, [], Option, Some, ◌⊎◌, refl}
use Rattle.std.proofs.Common.{arith, inl, inr, sym, subst}
use Rattle.bn_circuits.specs.declared.place.Place.{Place}
use Rattle.bn_io.specs.Faults.{Rose}
use Rattle.bn_reply.specs.Codes.{IsAnswer}
use Rattle.bn_reply.specs.Outside.{Outside, outside}
use Rattle.bn_reply.specs.Replying.{IsUnfinished, untold, told_some}
use Rattle.bn_reply.specs.Streams.{IsBegun, IsBroken, unbegun, begun}
use Rattle.bn_reply.specs.declared.reply.Reply.{Reply}
use Rattle.bn_reply.specs.declared.status.Status.{Status}
use Rattle.bn_reply.specs.declared.status.Status.TheVariants.{ReadFault, WriteFault, NoMemory}
use Rattle.bn_top.specs.Answers.{Answers}
use Rattle.bn_top.specs.Clauses.{CallEnds}
use Rattle.bn_top.specs.CommandLaws.{TellsCommands}
use Rattle.bn_top.specs.Headlines.{IsReplyTo}
use Rattle.bn_top.specs.Told.{IsReadFaultCut}
use Rattle.bn_top.proofs.CallLemmas.{circuit_by, command_by, found_by, found_circuit_by, found_machine_by}
use Rattle.bn_top.proofs.CallLemmas.{generated_by, machine_by}
use Rattle.bn_top.proofs.ClauseLemmas.{ends-give_clauses}

-- a status that is none of these three is an answer's
pub answer_otherwise : (status : Status) → status ≢ ReadFault → status ≢ WriteFault → status ≢ NoMemory
    → IsAnswer status
answer_otherwise ReadFault read write memory = absurd (read refl)
answer_otherwise WriteFault read write memory = absurd (write refl)
answer_otherwise NoMemory read write memory = absurd (memory refl)
answer_otherwise status read write memory = tt

-- an input in memory never fails
never_rose : Rose 0 0 → ⊥
never_rose rose = absurd (omega (arith, rose))

-- a reply with the text that the sink has taken
module _ (words : List (List ℕ)) (input : List ℕ) (left : Option (List ℕ)) (reply : Reply)
    (told heard : Option (List Place)) (before now : ℕ)
    (ends : CallEnds words reply.status (outside (Some input) (Some []) told 0 before)
    (outside left (Some reply.text.items) heard 0 now)) (is : IsAnswer reply.status) where
  all_taken : (text : List ℕ) → Some reply.text.items ≡ Some text → reply.text.items ≡ text
  all_taken text e = cc

  pub in_memory : IsReplyTo words input reply told heard
  in_memory =
      let b = outside (Some input) (Some []) told 0 before in
      let a = outside left (Some reply.text.items) heard 0 now in
      let whole = (ends-give_clauses words b a reply.status ends).answered is in
      let machine = machine_by words reply.status b a ends is in
      record {
        answered = record {
          places = whole.places;
          right = subst (λ t. Answers words input reply.status t whole.places) (sym (all_taken whole.text whole.grows))
              whole.answers;
          hears = whole.hears;
        };
        status = is;
        headlines = record {
          headline = machine.0;
          headline_within = machine.1;
          headline_circuit = circuit_by words reply.status b a ends is;
          found = found_by words reply.status b a ends is;
          found_machine = found_machine_by words reply.status b a ends is;
          found_circuit = found_circuit_by words reply.status b a ends is;
          generated = generated_by words reply.status b a ends is;
          commands = command_by words reply.status b a ends is TellsCommands (λ bytes h. h);
        };
      }

-- and none, for want of memory
module _ (words : List (List ℕ)) (input : List ℕ) (left took : Option (List ℕ)) (told heard : Option (List Place))
    (before now : ℕ) where
  abbrev start : Outside
  start = outside (Some input) (Some []) told 0 before

  abbrev end : Outside
  end = outside left took heard 0 now

  some_told : IsBegun (Answers words input) (Some []) took told heard → IsUnfinished (Answers words input) told heard
  some_told b = told_some b.status b.text b.places b.front b.rest b.right b.split b.hears

  none_or_some : IsBroken (Answers words input) (Some []) took told heard
      → IsUnfinished (Answers words input) told heard
  none_or_some (unbegun grows hears) = untold hears
  none_or_some (begun b) = some_told b

  cut_told : IsReadFaultCut 0 0 (Some []) took told heard ⊎ IsBegun (Answers words input) (Some []) took told heard →
      IsUnfinished (Answers words input) told heard
  cut_told (inl h) = absurd (never_rose h.source)
  cut_told (inr b) = some_told b

  pub unfinished_at : (status : Status) → CallEnds words status start end → (status ≡ WriteFault) ⊎ (status ≡ NoMemory)
      →
      IsUnfinished (Answers words input) told heard
  unfinished_at status ends (inl is) = cut_told ((ends-give_clauses words start end status ends).write_fault is)
  unfinished_at status ends (inr is) = none_or_some ((ends-give_clauses words start end status ends).no_memory is)
