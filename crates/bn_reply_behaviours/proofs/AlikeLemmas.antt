-- Circuits with the same wires, listed in whatever order, have the same answers.
use Rattle.std.specs.Prelude.{◌≡◌, ℕ, ◌+◌, ◌*◌, List, [], Option, Some, None, length, filter, take}
use Rattle.std.specs.Option.{is_none}
use Rattle.std.proofs.Common.{zero, suc, sym, ap, subst, ◌∙◌}
use Rattle.bn_lists.specs.Runs.{Reaches}
use Rattle.bn_circuits.specs.Alike.{AreAlike}
use Rattle.bn_circuits.specs.Circuits.{AreStates, Circuit, Crosses, IsInputOf, IsOutputOf, go_of, place_at}
use Rattle.bn_circuits.specs.Situations.{Situation, Turns}
use Rattle.bn_circuits.specs.Behaviours.{Behaves, IsFreeInput, IsFreeOutput, entering, leaving}
use Rattle.bn_circuits.specs.declared.line.Line.{Line}
use Rattle.bn_circuits.specs.declared.place.Place.{Place}
use Rattle.bn_behaviour.specs.Exploring.{Stage, Crossed, IsCrossing, IsWithin, Passes, entered, unnamed}
use Rattle.bn_behaviour.specs.Exploring.{Passed, HasNoRoom, entries, states, RunsOn, IsBehaviourRefusal}
use Rattle.bn_behaviour.specs.FreeLines.{lines_below}
use Rattle.bn_behaviour.specs.PortNames.{PortNames}
use Rattle.bn_behaviour.specs.Ports.{AreAllPorts}
use Rattle.bn_behaviour.specs.declared.bounds.Bounds.{Bounds}
use Rattle.bn_behaviour.specs.declared.counted.CountedMove.{CountedMove}
use Rattle.bn_behaviour.specs.declared.ports.Ports.{Ports}
use Rattle.bn_behaviour.specs.declared.refusal.BehaviourRefusal.{BehaviourRefusal}
use Rattle.bn_behaviour.specs.declared.refusal.BehaviourRefusal.TheVariants.{More, Running, NoMemory}
use Rattle.bn_reply.specs.declared.status.Status.{Status}
use Rattle.bn_reply_behaviours.specs.ExploringReply.{CircuitAnswers, closed, found, misnamed, stopped}
use Rattle.bn_reply_behaviours.specs.NamedPorts.{AreNamed, ArePortsFor, HasMisnamed, IsMisnamed, names_in}
use Rattle.bn_reply_behaviours.specs.NamedPorts.{wrong_input, wrong_output}

pub turned_alike : (k m : Circuit) → AreAlike k m → AreAlike m k
turned_alike k m alike = record {
  tables = sym alike.tables;
  targets = λ l. sym (alike.targets l);
  sources = λ l. sym (alike.sources l);
}

module _ (k m : Circuit) (alike : AreAlike k m) where
  crosses_alike : (old : List ℕ) (from : Place) (new : List ℕ) (to : Place) → Crosses k old from new to
      → Crosses m old from new to
  crosses_alike old from new to x = record {
    element = x.element;
    input = x.input;
    output = x.output;
    before = x.before;
    after = x.after;
    enters = x.enters;
    has_state = x.has_state;
    moves = subst (λ ts. go_of ts x.element x.before x.input ≡ Some (x.after, x.output)) alike.tables x.moves;
    states = x.states;
    place = x.place ∙ ap (λ t. place_at t (record { element = x.element; line = x.output }))
        (alike.targets (record { element = x.element; line = x.output }));
  }

  reaches_alike : (n : ℕ) (s t : Situation) → Reaches (Turns k) n s t → Reaches (Turns m) n s t
  reaches_alike zero s t h = h
  reaches_alike (suc n) s t h =
      (h.0, crosses_alike s.states s.place h.0.states h.0.place h.1, reaches_alike n h.0 t h.2)

  pub input_alike : (l : Line) → IsFreeInput k l → IsFreeInput m l
  input_alike l x = record {
    input = subst (λ ts. IsInputOf ts l) alike.tables x.input;
    free = sym (alike.sources l) ∙ x.free;
  }

  pub output_alike : (l : Line) → IsFreeOutput k l → IsFreeOutput m l
  output_alike l x = record {
    output = subst (λ ts. IsOutputOf ts l) alike.tables x.output;
    free = sym (alike.targets l) ∙ x.free;
  }

  behaves_alike : (q : List ℕ) (i : Line) (r : List ℕ) (o : Line) (n : ℕ) → Behaves k q i r o n → Behaves m q i r o n
  behaves_alike q i r o n x = record {
    states = subst (λ ts. AreStates ts q) alike.tables x.states;
    input = input_alike i x.input;
    crosses = reaches_alike n (entering q i) (leaving r o) x.crosses;
  }

  -- ---- explorations

  crossing_alike : (inputs : List Line) (xs : List (List ℕ)) (q i : ℕ) (c : Crossed) → IsCrossing k inputs xs q i c
      → IsCrossing m inputs xs q i c
  crossing_alike inputs xs q i c x = record {
    before = x.before;
    input = x.input;
    has_before = x.has_before;
    has_input = x.has_input;
    behaves = behaves_alike x.before x.input c.after c.output c.steps x.behaves;
  }

  module _ (ports : Ports) (bounds : Bounds) where
    within_alike : (s : Stage) (q i : ℕ) (c : Crossed) → IsWithin k ports bounds s q i c
        → IsWithin m ports bounds s q i c
    within_alike s q i c x = record {
      crossing = crossing_alike ports.inputs s.states q i c x.crossing;
      room = x.room;
      short = x.short;
    }

    passes_alike : (q i : ℕ) (s t : Stage) → Passes k ports bounds q i s t → Passes m ports bounds q i s t
    passes_alike q i s t (entered c out next within named adds few moves) =
        entered c out next (within_alike s q i c within) named adds few moves
    passes_alike q i s t (unnamed c within none same) = unnamed c (within_alike s q i c within) none same

    pub passed_alike : (start : List ℕ) (p : ℕ) (s : Stage) → Passed k ports bounds start p s
        → Passed m ports bounds start p s
    passed_alike start zero s h = h
    passed_alike start (suc p) s h = (
      h.0,
      passed_alike start p h.0 h.1,
      record {
        state = h.2.state;
        line = h.2.line;
        pair = h.2.pair;
        passes = passes_alike h.2.state h.2.line h.0 s h.2.passes;
      },
    )

    full_alike : (s : Stage) (q i : ℕ) → HasNoRoom k ports bounds s q i → HasNoRoom m ports bounds s q i
    full_alike s q i (entries state line many) = entries state line many
    full_alike s q i (states c within named none many) = states c (within_alike s q i c within) named none many

    runs_alike : (s : Stage) (q i : ℕ) → RunsOn k ports bounds s q i → RunsOn m ports bounds s q i
    runs_alike s q i x = record {
      crossed = x.crossed;
      crossing = crossing_alike ports.inputs s.states q i x.crossed x.crossing;
      room = x.room;
      long = x.long;
    }

    pub refusal_alike : (start : List ℕ) (why : BehaviourRefusal) → IsBehaviourRefusal k ports bounds start why
        → IsBehaviourRefusal m ports bounds start why
    refusal_alike start (More q i) h = record {
      stage = h.stage;
      passed = passed_alike start (q * length ports.inputs + i) h.stage h.passed;
      stops = (h.stops.0, h.stops.1, full_alike h.stage q i h.stops.2);
    }
    refusal_alike start (Running q i) h = record {
      stage = h.stage;
      passed = passed_alike start (q * length ports.inputs + i) h.stage h.passed;
      stops = (h.stops.0, h.stops.1, runs_alike h.stage q i h.stops.2);
    }
    refusal_alike start NoMemory h = tt

  -- ---- ports

  all_alike : (ports : Ports) → AreAllPorts k ports → AreAllPorts m ports
  all_alike ports all = record {
    inputs = all.inputs ∙ (λ i. filter (λ l. is_none (alike.sources l i)) (lines_below (4 * length (alike.tables i))));
    outputs = all.outputs
        ∙ (λ i. filter (λ l. is_none (alike.targets l i)) (lines_below (4 * length (alike.tables i))));
  }

-- names of ports that are free alike
pub named_alike : (free other : Line → Type 0) → ((l : Line) → free l → other l) → (names : List (List ℕ))
    (ports : List Line) → AreNamed free names ports → AreNamed other names ports
named_alike free other to names ports x = record {
  named = x.named;
  each = λ l has. to l (x.each l has);
  once = x.once;
}

misnamed_alike : (free other : Line → Type 0) → ((l : Line) → free l → other l) → ((l : Line) → other l → free l)
    → (names : List (List ℕ)) (p : ℕ) → IsMisnamed free names p → IsMisnamed other names p
misnamed_alike free other to from names p x = record {
  before = x.before;
  place = x.place;
  name = x.name;
  stands = x.stands;
  ports = x.ports;
  named = named_alike free other to (take x.before names) x.ports x.named;
  wrong = λ l is e. x.wrong l (from l is) e;
}

module _ (k m : Circuit) (alike : AreAlike k m) where
  abbrev back : AreAlike m k
  back = turned_alike k m alike

  ports_alike : (names : Option PortNames) (ports : Ports) → ArePortsFor k names ports → ArePortsFor m names ports
  ports_alike None ports are = all_alike k m alike ports are
  ports_alike (Some names) ports are = (
    named_alike (IsFreeInput k) (IsFreeInput m) (input_alike k m alike) (names_in names.inputs) ports.inputs are.0,
    named_alike (IsFreeOutput k) (IsFreeOutput m) (output_alike k m alike) (names_in names.outputs) ports.outputs are.1,
  )

  wrong_alike : (names : Option PortNames) (text : List ℕ) → HasMisnamed k names text → HasMisnamed m names text
  wrong_alike None text h = h
  wrong_alike (Some names) text (wrong_input p is told) =
      wrong_input p (misnamed_alike (IsFreeInput k) (IsFreeInput m) (input_alike k m alike) (input_alike m k back)
      (names_in names.inputs) p is) told
  wrong_alike (Some names) text (wrong_output inputs p named is told) =
      wrong_output inputs p
      (named_alike (IsFreeInput k) (IsFreeInput m) (input_alike k m alike) (names_in names.inputs) inputs named)
      (misnamed_alike (IsFreeOutput k) (IsFreeOutput m) (output_alike k m alike) (output_alike m k back)
      (names_in names.outputs) p is) told

  pub answers_alike : (start : List ℕ) (names : Option PortNames) (bounds : Bounds)
      (form : Ports → List CountedMove → List ℕ) (status : Status) (text : List ℕ) (told : List Place)
      → CircuitAnswers k start names bounds form status text told
      → CircuitAnswers m start names bounds form status text told
  answers_alike start names bounds form status text told (misnamed wrong s t) =
      misnamed (wrong_alike names text wrong) s t
  answers_alike start names bounds form status text told (stopped ports why are stops apart is s t) =
      stopped ports why (ports_alike names ports are) (refusal_alike k m alike ports bounds start why stops) apart is s
      t
  answers_alike start names bounds form status text told (closed ports xs are passed is s t) =
      closed ports xs (ports_alike names ports are)
      (passed_alike k m alike ports bounds start (length xs * length ports.inputs)
      (record { states = xs; moves = [] }) passed) is s t
  answers_alike start names bounds form status text told (found ports xs moves are passed some is s t) =
      found ports xs moves (ports_alike names ports are)
      (passed_alike k m alike ports bounds start (length xs * length ports.inputs)
      (record { states = xs; moves = moves }) passed) some is s t
