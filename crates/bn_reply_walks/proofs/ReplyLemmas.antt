-- What the code replies.
use Rattle.std.specs.Prelude.{◌≡◌, ℕ, List, [], ◌++◌, None, Result, Ok, Err, IfOk, refl}
use Rattle.std.proofs.Common.{sym, ap, subst, ◌∙◌}
use Rattle.bn_lists.specs.declared.memory.NoMemory.{NoMemory as WantOfMemory}
use Rattle.bn_circuits.specs.Circuits.{Circuit}
use Rattle.bn_circuits.specs.RotaryNets.{rotary_circuit}
use Rattle.bn_element.specs.Rotary.{rotary}
use Rattle.bn_element.specs.Tables.{Table}
use Rattle.bn_circuits.specs.declared.config.Config.{Config}
use Rattle.bn_netlist.specs.NetText.{IsTextRefusal}
use Rattle.bn_netlist.specs.PackedText.{spelling_of_packed}
use Rattle.bn_netlist.proofs.NetLemmas.{map-replicate}
use Rattle.bn_netlist.specs.declared.line_refusal.NetlistRefusal.{NetlistRefusal}
use Rattle.bn_netlist.specs.declared.line_refusal.NetlistRefusal.TheVariants.{Syntax, Order, Target, TwoSources}
use Rattle.bn_netlist.specs.declared.line_refusal.NetlistRefusal.TheVariants.{StartFed, EndWired, LeftWired, TooMany}
use Rattle.bn_netlist.specs.declared.line_refusal.NetlistRefusal.TheVariants.{Spelling, NoMemory}
use Rattle.bn_netlist.specs.declared.packed_config.PackedConfig.{PackedConfig}
use Rattle.bn_netlist_laws.specs.Faults.{Fault, IsFirstFault, malformed, too_many, no_element, out_of_order, end_wired}
use Rattle.bn_netlist_laws.specs.Faults.{left_wired, start_fed, second_source, spelled_out}
use Rattle.bn_netlist_laws.specs.Spelling as what
use Rattle.bn_netlist_laws.specs.Spelling.{Spelled, circuit_of}
use Rattle.bn_packed.specs.PackedNets.{PackedNet}
use Rattle.bn_reply.specs.declared.reply.Reply.{Reply}
use Rattle.bn_reply.specs.declared.status.Status.TheVariants.{Done, Text}
use Rattle.bn_reply_relations.specs.CircuitReply.{Misspelled, fault_text}
use Rattle.bn_reply_scripts.specs.ScriptReply.{ScriptReplies, played}
use Rattle.bn_reply_scripts.specs.Refusing.{IsScriptRefused}
use Rattle.bn_reply_scripts.proofs.ScriptLemmas.{script_refused}
use Rattle.bn_session.specs.Boards.{IsPlayedFrom}
use Rattle.bn_session.specs.Plays.{Plays, session, given}
use Rattle.bn_session.specs.Scripts.{IsFirstScriptFault, IsRefusalOf, IsScript}
use Rattle.bn_session.specs.declared.command.Command.{Command}
use Rattle.bn_session.specs.declared.refusal.ScriptRefusal.{ScriptRefusal}
use Rattle.bn_reply_walks.specs.WalkReply.{IsWalkOf, WalkTextReplies, misspelled, no_moment, spelled}
use Rattle.bn_reply_walks.specs.WalkView.{walk_view}
use Rattle.bn_reply_walks.specs.Refused.{IsTextRefused}
use Rattle.bn_reply_walks.specs.Walking.{IsPackedOf}

-- ---- a text that is refused

wrong_by : (bytes text : List ℕ) (line : ℕ) (fault : Fault) → IsFirstFault bytes line fault
    → text ≡ fault_text line fault → Misspelled bytes text
wrong_by bytes text line fault first is = record { line = line; fault = fault; first = first; written = is }

wrong : (bytes : List ℕ) (refusal : NetlistRefusal) (text : List ℕ) → IsTextRefusal bytes refusal
    → IsTextRefused refusal text → Misspelled bytes text
wrong bytes (Syntax n) text first is = wrong_by bytes text n malformed first is
wrong bytes (Order n) text first is = wrong_by bytes text n out_of_order first is
wrong bytes (Target n) text first is = wrong_by bytes text n no_element first is
wrong bytes (TwoSources n) text first is = wrong_by bytes text n second_source first is
wrong bytes (StartFed n) text first is = wrong_by bytes text n start_fed first is
wrong bytes (EndWired n) text first is = wrong_by bytes text n end_wired first is
wrong bytes (LeftWired n) text first is = wrong_by bytes text n left_wired first is
wrong bytes (TooMany n) text first is = wrong_by bytes text n too_many first is
wrong bytes (Spelling n) text first is = wrong_by bytes text n spelled_out first is
wrong bytes NoMemory text first is = absurd is

-- ---- a text

-- the circuit of a packed net is that of its text
packed-circuit : (c : PackedConfig) → rotary_circuit c.packed.net ≡ circuit_of (spelling_of_packed c)
packed-circuit c = ap (λ (ts : List Table). let k : Circuit = record { tables = ts; wires = c.packed.net.wires } in k)
    (map-replicate rotary c.packed.net.elements)

-- a text that was read
pub walk_replied : (bytes script : List ℕ) (c : PackedConfig) → Spelled c.version (spelling_of_packed c) bytes
    → (result : Result Reply WantOfMemory)
    → IfOk result (λ r. (s : what.Spelling) → IsPackedOf s c.packed
    → ScriptReplies None (IsWalkOf s) script r.status r.text.items [])
    → IfOk result (λ r. WalkTextReplies bytes script r.status r.text.items [])
walk_replied bytes script c is (Err e) h = tt
walk_replied bytes script c is (Ok r) h =
    spelled c.version (spelling_of_packed c) is
    (h (spelling_of_packed c) (record { circuit = packed-circuit c; config = refl }))

-- a text that was refused
pub walk_refused : (bytes script : List ℕ) (refusal : NetlistRefusal) → IsTextRefusal bytes refusal
    → (result : Result Reply WantOfMemory) → IfOk result (λ r. r.status ≡ Text)
    → IfOk result (λ r. IsTextRefused refusal r.text.items)
    → IfOk result (λ r. WalkTextReplies bytes script r.status r.text.items [])
walk_refused bytes script refusal first (Err e) status text = tt
walk_refused bytes script refusal first (Ok r) status text =
    misspelled (wrong bytes refusal r.text.items first text) status refl

-- ---- a script

module _ (p : PackedNet) (script : List ℕ) where
  -- a script that was played
  pub script_replied : (commands : List Command) → IsScript None script commands
      → (result : Result Reply WantOfMemory) → IfOk result (λ r. r.status ≡ Done)
      → IfOk result (λ r. (s : what.Spelling) → IsPackedOf s p → IsWalkOf s commands r.text.items)
      → IfOk result (λ r. (s : what.Spelling) → IsPackedOf s p
      → ScriptReplies None (IsWalkOf s) script r.status r.text.items [])
  script_replied commands read (Err e) status text = tt
  script_replied commands read (Ok r) status text = λ s of. played commands read (text s of) status refl

  -- a script that was refused
  pub script_faulty : (refusal : ScriptRefusal) → IsRefusalOf (IsFirstScriptFault None script) refusal
      → (result : Result Reply WantOfMemory) → IfOk result (λ r. IsScriptRefused refusal r.status r.text.items)
      → IfOk result (λ r. (s : what.Spelling) → IsPackedOf s p
      → ScriptReplies None (IsWalkOf s) script r.status r.text.items [])
  script_faulty refusal first (Err e) h = tt
  script_faulty refusal first (Ok r) h = λ s of. script_refused None (IsWalkOf s) script refusal first r h

-- the text that grew is the answer
pub walk_played : (s : what.Spelling) (p : PackedNet) → IsPackedOf s p → (start : Config) → start ≡ p.config
    → (xs : List Command) (c : Config) (old text : List ℕ) → old ≡ []
    → IsPlayedFrom (rotary_circuit p.net) no_moment (given (walk_view start.states)) p.config xs c old text
    → IsWalkOf s xs text
walk_played s p of start is xs c old text none done =
    let plays = subst (λ x. x) (λ i. Plays (of.circuit i) no_moment (given (walk_view ((is ∙ of.config) i).states)) xs
    (session (of.config i) []) done.end done.text) done.plays in (
      done.end,
      subst (λ x. Plays (circuit_of s) no_moment (given (walk_view s.config.states)) xs (session s.config [])
          done.end x) (sym (done.written ∙ ap (λ x. x ++ done.text) none)) plays,
    )
