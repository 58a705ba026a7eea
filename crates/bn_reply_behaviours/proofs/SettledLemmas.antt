-- There is one answer of a command that explores a circuit, and only one.
use Rattle.std.specs.Prelude.{◌≡◌, ◌⊎◌, ℕ, ◌<◌, ◌≤◌, List, [], ◌∷◌, Option, None, Some, length, replicate, refl}
use Rattle.std.proofs.Common.{zero, suc, arith, inl, inr, sym, ap, subst, ◌∙◌}
use Rattle.std.proofs.lemmas.List.{length-replicate}
use Rattle.bn_lists.specs.Lists.{Has}
use Rattle.bn_base.specs.Number.{greatest}
use Rattle.bn_element.specs.Rotary.{rotary}
use Rattle.bn_element.specs.Tables.{Table}
use Rattle.bn_circuits.specs.Alike.{AreAlike}
use Rattle.bn_circuits.specs.Circuits.{AreStates, Circuit, IsCircuit, IsConfig}
use Rattle.bn_circuits.specs.Behaviours.{IsFreeInput, IsFreeOutput}
use Rattle.bn_circuits.specs.declared.config.Config.{Config}
use Rattle.bn_circuits.specs.declared.place.Place.{Place}
use Rattle.bn_netlist_laws.specs.Faults.{Fault, IsFirstFault}
use Rattle.bn_netlist_laws.specs.Spelling.{AreSame, Spelled, Spelling, circuit_of}
use Rattle.bn_netlist_laws.specs.declared.version.Version.{Version}
use Rattle.bn_netlist_laws.proofs.DecideLemmas.{texts-spell-or-fault}
use Rattle.bn_netlist_laws.proofs.TextLemmas.{faulty_texts-spell-nothing, spellings-agree}
use Rattle.bn_behaviour.specs.FreeLines.{free_inputs, free_outputs}
use Rattle.bn_behaviour.specs.Laws.{AreRotary, Found, IsOutcome, Outcome, Refused}
use Rattle.bn_behaviour.specs.PortNames.{PortNames}
use Rattle.bn_behaviour.specs.Ports.{ArePorts}
use Rattle.bn_behaviour.specs.declared.bounds.Bounds.{Bounds}
use Rattle.bn_behaviour.specs.declared.counted.CountedMove.{CountedMove}
use Rattle.bn_behaviour.specs.declared.ports.Ports.{Ports}
use Rattle.bn_behaviour.proofs.AllPortLemmas.{all_are_ports}
use Rattle.bn_behaviour.proofs.OutcomeLemmas.{outcomes-one}
use Rattle.bn_reply_relations.specs.CircuitReply.{fault_text}
use Rattle.bn_reply_relations.proofs.SettledLemmas.{one_fault}
use Rattle.bn_reply_circuits.proofs.PlanReplyLemmas.{few_elements}
use Rattle.bn_reply.specs.Answering.{AgreeInAll, HasAnswer, IsOneAnswer, IsSettled}
use Rattle.bn_reply.specs.Codes.{IsReplyStatus}
use Rattle.bn_reply.specs.declared.status.Status.{Status}
use Rattle.bn_reply.specs.declared.status.Status.TheVariants as statuses
use Rattle.bn_reply.proofs.SettledLemmas.{agree}
use Rattle.bn_reply_behaviours.specs.ExploringReply.{CircuitAnswers, ExploringReplies, closed, closed_line, found}
use Rattle.bn_reply_behaviours.specs.ExploringReply.{misnamed, misspelled, spelled, stop_line, stopped}
use Rattle.bn_reply_behaviours.specs.NamedPorts.{ArePortsFor, HasMisnamed}
use Rattle.bn_reply_behaviours.specs.NamedPorts.{input_line, names_in, output_line, wrong_input, wrong_output}
use Rattle.bn_reply_behaviours.proofs.AlikeLemmas.{answers_alike}
use Rattle.bn_reply_behaviours.proofs.NameLemmas.{all, decide_input, decide_output, input_nameable, misnamed_once}
use Rattle.bn_reply_behaviours.proofs.NameLemmas.{named_once, not_both, output_nameable, some_outcome, wrong_at}
use Rattle.bn_reply_behaviours.proofs.NameLemmas as names

pub spelled_rotary : (n : ℕ) → AreRotary (replicate n rotary)
spelled_rotary n = record { each = by n }
  where
    by : (m : ℕ) (t : Table) → Has (replicate m rotary) t → t ≡ rotary
    by zero t has = absurd has
    by (suc m) t (inl e) = e
    by (suc m) t (inr more) = by m t more

module _ (k : Circuit) (circuit : IsCircuit k) (are : AreRotary k.tables) (few : length k.tables ≤ greatest)
    (start : List ℕ) (first : AreStates k.tables start) (bounds : Bounds) (some : 1 ≤ bounds.states)
    (form : Ports → List CountedMove → List ℕ) where
  abbrev Answers : Option PortNames → Status → List ℕ → List Place → Type 0
  Answers given status text told = CircuitAnswers k start given bounds form status text told

  -- ---- the ports

  pub named_ports : (given : Option PortNames) (ports : Ports) → ArePortsFor k given ports → ArePorts k ports
  named_ports None ports x = all_are_ports k are ports x
  named_ports (Some given) ports x = record {
    inputs = x.0.each;
    outputs = x.1.each;
    inputs_once = x.0.once;
    outputs_once = x.1.once;
  }

  ports_once : (given : Option PortNames) (x y : Ports) → ArePortsFor k given x → ArePortsFor k given y → x ≡ y
  ports_once None x y a b =
      λ i. record { inputs = (a.inputs ∙ sym b.inputs) i; outputs = (a.outputs ∙ sym b.outputs) i }
  ports_once (Some given) x y a b =
      let ins = named_once (IsFreeInput k) (input_nameable k are few) (names_in given.inputs) x.inputs y.inputs a.0 b.0
      in
      let outs = named_once (IsFreeOutput k) (output_nameable k are few) (names_in given.outputs) x.outputs y.outputs
      a.1 b.1 in
      λ i. record { inputs = ins i; outputs = outs i }

  not_misnamed : (given : Option PortNames) (ports : Ports) (text : List ℕ) → ArePortsFor k given ports
      → HasMisnamed k given text → ⊥
  not_misnamed None ports text x h = h
  not_misnamed (Some given) ports text x (wrong_input p is told) =
      not_both (IsFreeInput k) (input_nameable k are few) (names_in given.inputs) p ports.inputs x.0 is
  not_misnamed (Some given) ports text x (wrong_output inputs p named is told) =
      not_both (IsFreeOutput k) (output_nameable k are few) (names_in given.outputs) p ports.outputs x.1 is

  misnamed_text : (given : Option PortNames) (text second : List ℕ) → HasMisnamed k given text
      → HasMisnamed k given second → text ≡ second
  misnamed_text None text second h g = absurd h
  misnamed_text (Some given) text second (wrong_input p is told) (wrong_input r also heard) =
      told ∙ ap input_line (misnamed_once (IsFreeInput k) (input_nameable k are few) (names_in given.inputs) p r is
      also)
      ∙ sym heard
  misnamed_text (Some given) text second (wrong_input p is told) (wrong_output inputs r named also heard) =
      absurd (not_both (IsFreeInput k) (input_nameable k are few) (names_in given.inputs) p inputs named is)
  misnamed_text (Some given) text second (wrong_output inputs p named is told) (wrong_input r also heard) =
      absurd (not_both (IsFreeInput k) (input_nameable k are few) (names_in given.inputs) r inputs named also)
  misnamed_text (Some given) text second (wrong_output inputs p named is told) (wrong_output others r x also heard) =
      told
      ∙ ap output_line (misnamed_once (IsFreeOutput k) (output_nameable k are few) (names_in given.outputs) p r is also)
      ∙ sym heard

  -- ---- the answer by its outcome

  abbrev outcome_text : Ports → Outcome → List ℕ
  outcome_text ports (Refused why) = stop_line why
  outcome_text ports (Found xs []) = closed_line
  outcome_text ports (Found xs (m ∷ ms)) = form ports (m ∷ ms)

  abbrev outcome_status : Outcome → Status
  outcome_status (Refused why) = statuses.Inside
  outcome_status (Found xs []) = statuses.Machine
  outcome_status (Found xs (m ∷ ms)) = statuses.Done

  record Came (given : Option PortNames) (status : Status) (text : List ℕ) (told : List Place) : Type 0 where
    pub ports : Ports
    pub outcome : Outcome
    pub are_ports : ArePortsFor k given ports
    pub is : IsOutcome k ports bounds start outcome
    pub text_is : text ≡ outcome_text ports outcome
    pub status_is : status ≡ outcome_status outcome
    pub silent : told ≡ []

  data Kind (given : Option PortNames) (status : Status) (text : List ℕ) (told : List Place) : Type 0 where
    wrong : HasMisnamed k given text → status ≡ statuses.Word → told ≡ [] → Kind given status text told
    came : Came given status text told → Kind given status text told

  found_kind : (given : Option PortNames) (status : Status) (text : List ℕ) (told : List Place) (ports : Ports)
      (xs : List (List ℕ)) (moves : List CountedMove) → ArePortsFor k given ports
      → IsOutcome k ports bounds start (Found xs moves) → 0 < length moves → text ≡ form ports moves
      → status ≡ statuses.Done → told ≡ [] → Came given status text told
  found_kind given status text told ports xs [] x is none t s h = absurd (omega (arith, none))
  found_kind given status text told ports xs (m ∷ ms) x is some_move t s h = record {
    ports = ports;
    outcome = Found xs (m ∷ ms);
    are_ports = x;
    is = is;
    text_is = t;
    status_is = s;
    silent = h;
  }

  kind : (given : Option PortNames) (status : Status) (text : List ℕ) (told : List Place)
      → Answers given status text told → Kind given status text told
  kind given status text told (misnamed w s h) = wrong w s h
  kind given status text told (stopped ports why x is apart t s h) = came (record {
    ports = ports;
    outcome = Refused why;
    are_ports = x;
    is = (apart, is);
    text_is = t;
    status_is = s;
    silent = h;
  })
  kind given status text told (closed ports xs x is t s h) = came (record {
    ports = ports;
    outcome = Found xs [];
    are_ports = x;
    is = is;
    text_is = t;
    status_is = s;
    silent = h;
  })
  kind given status text told (found ports xs moves x is some_move t s h) =
      came (found_kind given status text told ports xs moves x is some_move t s h)

  one_came : (given : Option PortNames) (status other : Status) (text second : List ℕ) (told heard : List Place)
      → Came given status text told → Came given other second heard
      → AgreeInAll status other text second told heard
  one_came given status other text second told heard a b =
      let ports = ports_once given a.ports b.ports a.are_ports b.are_ports in
      let there : IsOutcome k a.ports bounds start b.outcome =
      subst (λ p. IsOutcome k p bounds start b.outcome) (sym ports) b.is in
      let same = (outcomes-one k circuit are a.ports (named_ports given a.ports a.are_ports) bounds some start first).1
      a.outcome b.outcome a.is there in
      agree (outcome_status b.outcome) status other text second told heard
      (a.status_is ∙ ap outcome_status same) b.status_is
      (a.text_is ∙ (λ i. outcome_text (ports i) (same i)) ∙ sym b.text_is) a.silent b.silent

  pub circuit_one : (given : Option PortNames) → IsOneAnswer (Answers given)
  circuit_one given status other text second told heard a b =
      by (kind given status text told a) (kind given other second heard b)
    where
      by : Kind given status text told → Kind given other second heard → AgreeInAll status other text second told heard
      by (wrong w s h) (wrong v t g) =
          agree statuses.Word status other text second told heard s t (misnamed_text given text second w v) h g
      by (wrong w s h) (came c) = absurd (not_misnamed given c.ports text c.are_ports w)
      by (came c) (wrong v t g) = absurd (not_misnamed given c.ports second c.are_ports v)
      by (came c) (came d) = one_came given status other text second told heard c d

  -- ---- an answer

  outcome_answer : (given : Option PortNames) (ports : Ports) → ArePortsFor k given ports → (o : Outcome)
      → IsOutcome k ports bounds start o → HasAnswer (Answers given)
  outcome_answer given ports x (Refused why) is =
      (statuses.Inside, stop_line why, [], stopped ports why x is.1 is.0 refl refl refl)
  outcome_answer given ports x (Found xs []) is =
      (statuses.Machine, closed_line, [], closed ports xs x is refl refl refl)
  outcome_answer given ports x (Found xs (m ∷ ms)) is =
      (statuses.Done, form ports (m ∷ ms), [], found ports xs (m ∷ ms) x is (omega arith) refl refl refl)

  with_ports : (given : Option PortNames) (ports : Ports) → ArePortsFor k given ports → HasAnswer (Answers given)
  with_ports given ports x =
      let o = (outcomes-one k circuit are ports (named_ports given ports x) bounds some start first).0 in
      outcome_answer given ports x o.0 o.1

  pub circuit_some : (given : Option PortNames) → HasAnswer (Answers given)
  circuit_some None = with_ports None (record { inputs = free_inputs k; outputs = free_outputs k })
      (record { inputs = refl; outputs = refl })
  circuit_some (Some given) =
      by (some_outcome (IsFreeInput k) (input_nameable k are few) (decide_input k are few) (names_in given.inputs))
      (some_outcome (IsFreeOutput k) (output_nameable k are few) (decide_output k are few) (names_in given.outputs))
    where
      by : names.Outcome (IsFreeInput k) (names_in given.inputs)
          → names.Outcome (IsFreeOutput k) (names_in given.outputs) → HasAnswer (Answers (Some given))
      by (wrong_at p is) outs = (
        statuses.Word,
        input_line p,
        [],
        misnamed (wrong_input p is refl) refl refl,
      )
      by (all ins named) (wrong_at p is) = (
        statuses.Word,
        output_line p,
        [],
        misnamed (wrong_output ins p named is refl) refl refl,
      )
      by (all ins named) (all outs others) =
          with_ports (Some given) (record { inputs = ins; outputs = outs }) (named, others)

  pub circuit_status : (given : Option PortNames) (status : Status) (text : List ℕ) (told : List Place)
      → Answers given status text told → IsReplyStatus status
  circuit_status given status text told (misnamed w s h) = subst IsReplyStatus (sym s) tt
  circuit_status given status text told (stopped ports why x is apart t s h) = subst IsReplyStatus (sym s) tt
  circuit_status given status text told (closed ports xs x is t s h) = subst IsReplyStatus (sym s) tt
  circuit_status given status text told (found ports xs moves x is some_move t s h) = subst IsReplyStatus (sym s) tt

-- ---- texts

same_alike : (s t : Spelling) → AreSame s t → AreAlike (circuit_of s) (circuit_of t)
same_alike s t same = record {
  tables = ap (λ n. replicate n rotary) same.elements;
  targets = same.targets;
  sources = same.sources;
}

pub bars : (k : Circuit) (c : Config) → IsConfig k c → AreStates k.tables c.states
bars k c is = record { count = is.count; range = is.range }

small : (v : Version) (s : Spelling) (bytes : List ℕ) → Spelled v s bytes → length (circuit_of s).tables ≤ greatest
small v s bytes is =
    let few = few_elements v s is.admitted in
    omega (arith, few, length-replicate s.elements rotary)

module _ (form : Ports → List CountedMove → List ℕ) (states steps : ℕ) (given : Option PortNames) (bytes : List ℕ)
    (some : 1 ≤ states) where
  abbrev Replies : Status → List ℕ → List Place → Type 0
  Replies = ExploringReplies form states steps given bytes

  abbrev limits : Bounds
  limits = record { states = states; steps = steps }

  reply_one : IsOneAnswer Replies
  reply_one status other text second told heard (misspelled a e m) (misspelled b d n) =
      agree statuses.Text status other text second told heard e d (one_fault bytes text second a b) m n
  reply_one status other text second told heard (misspelled a e m) (spelled v s is b) =
      absurd (faulty_texts-spell-nothing v s bytes a.line a.fault a.first is)
  reply_one status other text second told heard (spelled v s is b) (misspelled a e m) =
      absurd (faulty_texts-spell-nothing v s bytes a.line a.fault a.first is)
  reply_one status other text second told heard (spelled v s is a) (spelled w t also b) =
      let same = (spellings-agree v w s t bytes is also).1 in
      let moved = answers_alike (circuit_of s) (circuit_of t) (same_alike s t same) s.config.states given limits form
      status text told a in
      circuit_one (circuit_of t) also.admitted.circuit (spelled_rotary t.elements) (small w t bytes also)
      t.config.states (bars (circuit_of t) t.config also.admitted.config) limits some form given status other text
      second told heard
      (subst (λ c. CircuitAnswers (circuit_of t) c given limits form status text told)
      (ap (λ (c : Config). c.states) same.config) moved) b

  reply_some : ((v : Version) × (s : Spelling) × Spelled v s bytes)
      ⊎ ((line : ℕ) × (fault : Fault) × IsFirstFault bytes line fault) → HasAnswer Replies
  reply_some (inl (v, s, is)) =
      let a = circuit_some (circuit_of s) is.admitted.circuit (spelled_rotary s.elements) (small v s bytes is)
      s.config.states (bars (circuit_of s) s.config is.admitted.config) limits some form given in
      (a.0, a.1, a.2, spelled v s is a.3)
  reply_some (inr h) = (
    statuses.Text,
    fault_text h.0 h.1,
    [],
    misspelled (record { line = h.0; fault = h.1; first = h.2; written = refl }) refl refl,
  )

  reply_status : (status : Status) (text : List ℕ) (told : List Place) → Replies status text told → IsReplyStatus status
  reply_status status text told (misspelled a e m) = subst IsReplyStatus (sym e) tt
  reply_status status text told (spelled v s is a) =
      circuit_status (circuit_of s) is.admitted.circuit (spelled_rotary s.elements) (small v s bytes is)
      s.config.states (bars (circuit_of s) s.config is.admitted.config) limits some form given status text told a

  pub exploring_settled : IsSettled Replies
  exploring_settled = record {
    some = reply_some (texts-spell-or-fault bytes);
    one = reply_one;
    status = reply_status;
  }
