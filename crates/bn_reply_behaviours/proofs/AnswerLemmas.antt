-- The answers of the code are those of the commands.
use Rattle.std.specs.Prelude.{◌≡◌, ◌≢◌, ℕ, ◌*◌, ◌<◌, List, [], ◌∷◌, Option, None, Some, Result, Ok, Err, IfOk, length}
use Rattle.std.specs.Prelude.{refl}
use Rattle.std.specs.Prelude.{◌⊎◌}
use Rattle.std.proofs.Common.{zero, suc, inl, inr, sym, subst}
use Rattle.std.proofs.lemmas.Option.{slice_get_within}
use Rattle.bn_lists.specs.Lists.{Has}
use Rattle.bn_lists.specs.declared.memory.NoMemory.{NoMemory as WantOfMemory}
use Rattle.bn_lists.proofs.MemberLemmas.{of_two}
use Rattle.bn_circuits.specs.Circuits.{AreStates, Circuit, IsCircuit}
use Rattle.bn_circuits.specs.RotaryNets.{rotary_circuit}
use Rattle.bn_netlist.specs.NetText.{spelling_of}
use Rattle.bn_netlist.specs.declared.net_config.NetConfig.{NetConfig}
use Rattle.bn_netlist.proofs.NetLemmas.{circuits-agree}
use Rattle.bn_netlist_laws.specs.Spelling.{Spelled, circuit_of}
use Rattle.bn_behaviour.specs.Exploring.{IsBehaviourRefusal, IsFound, Passed, Passes, Stage, entered}
use Rattle.bn_behaviour.specs.Exploring.{unnamed}
use Rattle.bn_behaviour.specs.Laws.{AreRotary}
use Rattle.bn_behaviour.specs.PortNames.{PortNames}
use Rattle.bn_behaviour.specs.Ports.{ArePorts}
use Rattle.bn_behaviour.specs.declared.bounds.Bounds.{Bounds}
use Rattle.bn_behaviour.specs.declared.counted.CountedMove.{CountedMove}
use Rattle.bn_behaviour.specs.declared.ports.Ports.{Ports}
use Rattle.bn_behaviour.specs.declared.refusal.BehaviourRefusal.{BehaviourRefusal}
use Rattle.bn_behaviour.specs.declared.refusal.BehaviourRefusal.TheVariants.{NoMemory}
use Rattle.bn_behaviour.proofs.AllPortLemmas.{all_are_ports}
use Rattle.bn_behaviour.proofs.FreeLemmas.{input_known, output_known}
use Rattle.bn_reply_relations.specs.CircuitReply.{Misspelled}
use Rattle.bn_reply.specs.declared.reply.Reply.{Reply}
use Rattle.bn_reply.specs.declared.status.Status.TheVariants as statuses
use Rattle.bn_reply_behaviours.specs.ExploringReply.{CircuitAnswers, ExploringReplies, closed, found}
use Rattle.bn_reply_behaviours.specs.ExploringReply.{misspelled, spelled, stop_line, stopped}
use Rattle.bn_reply_behaviours.specs.NamedPorts.{ArePortsFor}
use Rattle.bn_reply_behaviours.specs.Replying.{AreNamedBy, IsWritten, empty, written}

-- ---- the moves of an exploration have ports

module _ (k : Circuit) (ports : Ports) (bounds : Bounds) where
  record HasPorts (m : CountedMove) : Type 0 where
    pub input : m.line < length ports.inputs
    pub output : m.out < length ports.outputs

  pass_named : (q i : ℕ) (s t : Stage) → Passes k ports bounds q i s t
      → ((m : CountedMove) → Has s.moves m → HasPorts m)
      → (m : CountedMove) → Has t.moves m → HasPorts m
  pass_named q i s t (entered c out next within named adds few moves) all m has =
      by (of_two s.moves (record { state = q; line = i; next = next; out = out; steps = c.steps } ∷ []) m
      (subst (λ ms. Has ms m) moves has))
    where
      by : Has s.moves m ⊎ Has (record { state = q; line = i; next = next; out = out; steps = c.steps } ∷ []) m
          → HasPorts m
      by (inl here) = all m here
      by (inr (inl e)) = subst HasPorts (sym e) (record {
        input = slice_get_within ports.inputs i within.crossing.input within.crossing.has_input;
        output = slice_get_within ports.outputs out c.output named;
      })
      by (inr (inr nothing)) = absurd nothing
  pass_named q i s t (unnamed c within nothing same) all m has = all m (subst (λ (x : Stage). Has x.moves m) same has)

  stage_named : (start : List ℕ) (p : ℕ) (s : Stage) → Passed k ports bounds start p s → (m : CountedMove)
      → Has s.moves m → HasPorts m
  stage_named start zero s h m has = absurd (subst (λ (x : Stage). Has x.moves m) h has)
  stage_named start (suc p) s h m has =
      pass_named h.2.state h.2.line h.0 s h.2.passes (stage_named start p h.0 h.1) m has

  pub found_named : AreRotary k.tables → ArePorts k ports → (start : List ℕ) (states : List (List ℕ))
      (moves : List CountedMove) → IsFound k ports bounds start states moves → AreNamedBy ports moves
  found_named are free start states moves is m has =
      let x = stage_named start (length states * length ports.inputs) (record { states = states; moves = moves }) is m
      has in
      record {
        input = x.input;
        output = x.output;
        input_port = λ l h. (input_known k.tables are l.element l.line (free.inputs l h).input).1;
        output_port = λ l h. (output_known k.tables are l.element l.line (free.outputs l h).output).1;
      }

-- ---- the replies

module _ (k : Circuit) (start : List ℕ) (given : Option PortNames) (bounds : Bounds)
    (form : Ports → List CountedMove → List ℕ) where
  pub answer_written : (ports : Ports) (states : List (List ℕ)) (moves : List CountedMove)
      (result : Result Reply WantOfMemory) → ArePortsFor k given ports → IsFound k ports bounds start states moves
      → IfOk result (IsWritten form ports moves)
      → IfOk result (λ r. CircuitAnswers k start given bounds form r.status r.text.items [])
  answer_written ports states moves (Err e) are is w = tt
  answer_written ports states moves (Ok r) are is (empty nothing done text) =
      closed ports states are (subst (λ ms. IsFound k ports bounds start states ms) nothing is) text done refl
  answer_written ports states moves (Ok r) are is (written long done text) =
      found ports states moves are is long text done refl

  pub answer_stopped : (ports : Ports) (why : BehaviourRefusal) (result : Result Reply WantOfMemory)
      → ArePortsFor k given ports → IsBehaviourRefusal k ports bounds start why
      → IfOk result (λ r. r.status ≡ statuses.Inside) → IfOk result (λ r. r.text.items ≡ stop_line why)
      → IfOk result (λ _. why ≢ NoMemory)
      → IfOk result (λ r. CircuitAnswers k start given bounds form r.status r.text.items [])
  answer_stopped ports why (Err e) are is done text apart = tt
  answer_stopped ports why (Ok r) are is done text apart = stopped ports why are is apart text done refl

module _ (form : Ports → List CountedMove → List ℕ) (states steps : ℕ) (given : Option PortNames) where
  pub refuses : (bytes text : List ℕ) → Misspelled bytes text
      → ExploringReplies form states steps given bytes statuses.Text text []
  refuses bytes text is = misspelled is refl refl

  pub replied : (bytes : List ℕ) (c : NetConfig) (result : Result Reply WantOfMemory)
      → Spelled c.version (spelling_of c) bytes
      → IfOk result (λ r. CircuitAnswers (rotary_circuit c.net) c.config.states given
      (record { states = states; steps = steps }) form r.status r.text.items [])
      → IfOk result (λ r. ExploringReplies form states steps given bytes r.status r.text.items [])
  replied bytes c (Err e) is answers = tt
  replied bytes c (Ok r) is answers = spelled c.version (spelling_of c) is
      (subst (λ k. CircuitAnswers k c.config.states given (record { states = states; steps = steps }) form r.status
      r.text.items []) (circuits-agree c) answers)

-- the states of a text that is read are those of its circuit
pub start_ranged : (bytes : List ℕ) (c : NetConfig) → Spelled c.version (spelling_of c) bytes
    → AreStates (rotary_circuit c.net).tables c.config.states
start_ranged bytes c is =
    let config = is.admitted.config in
    let bars : AreStates (circuit_of (spelling_of c)).tables c.config.states =
    record { count = config.count; range = config.range } in
    subst (λ (k : Circuit). AreStates k.tables c.config.states) (sym (circuits-agree c)) bars

pub net_circuit : (bytes : List ℕ) (c : NetConfig) → Spelled c.version (spelling_of c) bytes
    → IsCircuit (rotary_circuit c.net)
net_circuit bytes c is = subst IsCircuit (sym (circuits-agree c)) is.admitted.circuit

pub ports_are : (k : Circuit) → AreRotary k.tables → (given : Option PortNames) (ports : Ports)
    → ArePortsFor k given ports → ArePorts k ports
ports_are k are None ports x = all_are_ports k are ports x
ports_are k are (Some given) ports x = record {
  inputs = x.0.each;
  outputs = x.1.each;
  inputs_once = x.0.once;
  outputs_once = x.1.once;
}
