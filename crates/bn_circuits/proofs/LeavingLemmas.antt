-- A signal that comes into a circuit from outside leaves it, or stops where an element has no move; and the way back.
use Rattle.std.specs.Prelude.{◌≡◌, ℕ, ◌+◌, ◌*◌, ◌<◌, ◌≤◌, List, length, Option, Some, None, slice_get, ◌⊎◌, refl}
use Rattle.std.proofs.Common.{zero, suc, arith, sym, ap, subst, ◌∙◌, inl, inr, get_or}
use Rattle.std.proofs.lemmas.Option.{slice_get_within, slice_get-get_or}
use Rattle.bn_lists.specs.Runs.{Reaches, IsFunction}
use Rattle.bn_lists.proofs.RunsLemmas.{runs_more, runs_turned}
use Rattle.bn_element.specs.Tables.{Table}
use Rattle.std.specs.Prelude.{slice_set}
use Rattle.bn_circuits.specs.Circuits.{Circuit, clock, target, source, inputs_of, outputs_of, go_of, back_of, IsInputOf}
use Rattle.bn_circuits.specs.Circuits.{IsOutputOf, IsCircuit, IsPlace, IsConfig, IsStuck, Goes, place_at}
use Rattle.bn_circuits.specs.Situations.{Situation, situation, situation_of, counted, Turns, crossed}
use Rattle.bn_circuits.specs.Stepping.{run, line_before}
use Rattle.bn_circuits.specs.declared.line.Line.{Line}
use Rattle.bn_circuits.specs.declared.place.Place.{Place}
use Rattle.bn_circuits.specs.declared.place.Place.TheVariants.{Enter, Left}
use Rattle.bn_circuits.specs.declared.config.Config.{Config}
use Rattle.bn_circuits.proofs.RunLemmas.{run_stops, Reaches-back}
use Rattle.bn_circuits.proofs.SituationLemmas.{same_situation, steps-counted, turns_once}
use Rattle.bn_circuits.proofs.StepLemmas.{backward_once, next-IsConfig, previous-IsConfig, parts-Goes, same_lines}
use Rattle.bn_lists.specs.Finite.{IsFinitePermuting, EndsBelow}
use Rattle.bn_circuits.specs.Behaviours.{AreOnto, IsFreeInput, IsFreeOutput, entering, leaving}
use Rattle.bn_circuits.specs.Circuits.{AreStates}
use Rattle.bn_circuits.specs.Behaviours.{IsLoose, most_crossing, state_count, input_count}
use Rattle.bn_circuits.specs.BehaviourLaws.{Comes, leaves, hangs, Passage, Origin, SignalsLeaveOrHang, SignalsComeOnce}
use Rattle.bn_circuits.specs.BehaviourLaws.{CircuitsAreLeft, BehavioursStay, BehavioursAreOneToOne, BehavioursAreOnto}
use Rattle.bn_circuits.specs.BehaviourLaws.{BehavioursAreRuns}
use Rattle.bn_lists.proofs.FiniteLemmas.{ends_below, runs_stop_once, runs_mapped}
use Rattle.bn_circuits.proofs.SituationNumberLemmas.{states_number, states_low, states_apart, line_number, line_low}
use Rattle.bn_lists.proofs.PairingLemmas.{paired_low}
use Rattle.bn_circuits.proofs.SituationNumberLemmas.{line_apart}
use Rattle.std.proofs.lemmas.Nat.{same_from_place}

-- ---- ends

left_over : (k : Circuit) (states : List ℕ) (o : Line) (t : Situation) → Turns k (leaving states o) t → ⊥
left_over k states o t g = let place : Left o.element o.line ≡ Enter g.element g.input = g.enters in absurd (cc)

loose_stops : (k : Circuit) (states : List ℕ) (l : Line) → IsLoose k states l → (t : Situation)
    → Turns k (entering states l) t → ⊥
loose_stops k states l loose t g =
    let place : Enter l.element l.line ≡ Enter g.element g.input = g.enters in
    let element : l.element ≡ g.element = cc in
    let line : l.line ≡ g.input = cc in
    let here : slice_get states l.element ≡ Some loose.state = loose.stands in
    let there : slice_get states l.element ≡ Some g.before = subst (λ e. slice_get states e ≡ Some g.before)
    (sym element) g.has_state in
    let state : loose.state ≡ g.before = cc in
    let none : go_of k.tables g.element g.before g.input ≡ None =
    (λ i. go_of k.tables (sym element i) (sym state i) (sym line i)) ∙ loose.none in
    let some = g.moves in
    absurd (cc)

-- ---- in a circuit

module _ (k : Circuit) (circuit : IsCircuit k) where
  -- the signal is about to enter a line, and all is in range
  record Inside (s : Situation) : Type 0 where
    pub states : AreStates k.tables s.states
    pub line : Line
    pub place : s.place ≡ Enter line.element line.line
    pub input : IsInputOf k.tables line

  enters : (q : List ℕ) (i : Line) → AreStates k.tables q → IsInputOf k.tables i → Inside (entering q i)
  enters q i are input = record { states = are; line = i; place = refl; input = input }

  inside_is : (s : Situation) (in_it : Inside s) → s ≡ entering s.states in_it.line
  inside_is s in_it = same_situation s (entering s.states in_it.line) refl in_it.place

  inside_config : (s : Situation) → Inside s → IsConfig k (counted s 0)
  inside_config s in_it = record {
    count = in_it.states.count;
    range = in_it.states.range;
    place = subst (IsPlace k) (sym in_it.place) in_it.input;
    in_time = omega arith;
  }

  goes : (s t : Situation) → Turns k s t → Goes k (counted s 0) (counted t 1)
  goes s t g = steps-counted.1 k s t 0 g (omega arith)

  config_states : (s : Situation) (n : ℕ) → IsConfig k (counted s n) → AreStates k.tables s.states
  config_states s n config = record { count = config.count; range = config.range }

  after_config : (s t : Situation) → Inside s → Turns k s t → IsConfig k (counted t 1)
  after_config s t in_it g = next-IsConfig k circuit (counted s 0) (counted t 1) (inside_config s in_it) (goes s t g)

  turns_back_once : IsFunction (λ c d. Turns k d c)
  turns_back_once c d e first second =
      let same : counted d 0 ≡ counted e 0 =
      backward_once k circuit (counted d 0) (counted e 0) (counted c 1) (goes d c first) (goes e c second) in
      ap situation_of same

  -- a step from within to within
  record Inner (s t : Situation) : Type 0 where
    pub turns : Turns k s t
    pub inside : Inside t

  -- a step from within to outside
  record Exits (s : Situation) : Type 0 where
    pub states : List ℕ
    pub output : Line
    pub turns : Turns k s (leaving states output)

  data Ended (s : Situation) : Type 0 where
    is_loose : (in_it : Inside s) → IsLoose k s.states in_it.line → Ended s
    exits : Exits s → Ended s

  -- ---- numbers

  place_number : Place → ℕ
  place_number (Enter e i) = line_number k.tables e i
  place_number (Left e o) = 0

  number : Situation → ℕ
  number s = states_number k.tables s.states * input_count k.tables + place_number s.place

  place_is : (s : Situation) (in_it : Inside s)
      → place_number s.place ≡ line_number k.tables in_it.line.element in_it.line.line
  unfolding place_number
  place_is s in_it = ap place_number in_it.place

  place_low : (s : Situation) → Inside s → place_number s.place < input_count k.tables
  place_low s in_it =
      let low = line_low k.tables in_it.line.element in_it.line.line in_it.input in
      omega (arith, place_is s in_it)

  number_low : (s : Situation) → Inside s → number s < most_crossing k
  unfolding number
  number_low s in_it = paired_low (states_number k.tables s.states) (place_number s.place) (state_count k.tables)
      (input_count k.tables) (states_low k.tables s.states in_it.states) (place_low s in_it)

  number_apart : (s t : Situation) → Inside s → Inside t → number s ≡ number t → s ≡ t
  unfolding number
  number_apart s t in_s in_t same =
      let both = same_from_place (states_number k.tables s.states) (place_number s.place)
      (states_number k.tables t.states) (place_number t.place) (input_count k.tables) (place_low s in_s)
      (place_low t in_t) same in
      let states : s.states ≡ t.states = states_apart k.tables s.states t.states in_s.states in_t.states both.0 in
      let lines : line_number k.tables in_s.line.element in_s.line.line
      ≡ line_number k.tables in_t.line.element in_t.line.line = sym (place_is s in_s) ∙ both.1 ∙ place_is t in_t in
      let line = line_apart k.tables in_s.line.element in_t.line.element in_s.line.line in_t.line.line in_s.input
      in_t.input lines in
      let place : Enter in_s.line.element in_s.line.line ≡ Enter in_t.line.element in_t.line.line =
      λ i. Enter (line.0 i) (line.1 i) in
      same_situation s t states (in_s.place ∙ place ∙ sym in_t.place)

  -- ---- forward

  permuting : IsFinitePermuting Inside Inner (most_crossing k)
  permuting = record {
    number = number;
    below = number_low;
    apart = number_apart;
    stays = λ a b in_a g. g.inside;
    one_to_one = λ a b c in_a in_b g h. turns_back_once c a b g.turns h.turns;
  }

  by_place : (s t : Situation) (p : Place) → t.place ≡ p → Inside s → Turns k s t
      → ((u : Situation) × Inner s u) ⊎ Ended s
  by_place s t (Enter e i) is in_it g =
      let config = after_config s t in_it g in
      inl (
        t,
        record {
          turns = g;
          inside = record {
            states = config_states t 1 config;
            line = record { element = e; line = i };
            place = is;
            input = subst (IsPlace k) is config.place;
          };
        },
      )
  by_place s t (Left e o) is in_it g =
      let there : t ≡ leaving t.states (record { element = e; line = o }) =
      same_situation t (leaving t.states (record { element = e; line = o })) refl is in
      inr (exits (record {
        states = t.states;
        output = record { element = e; line = o };
        turns = subst (λ u. Turns k s u) there g;
      }))

  by_move : (s : Situation) (in_it : Inside s) (q : ℕ) → slice_get s.states in_it.line.element ≡ Some q
      → (m : Option (ℕ × ℕ)) → go_of k.tables in_it.line.element q in_it.line.line ≡ m
      → ((u : Situation) × Inner s u) ⊎ Ended s
  by_move s in_it q stands None is = inr (is_loose in_it (record { state = q; stands = stands; none = is }))
  by_move s in_it q stands (Some m) is =
      let t = crossed k s.states in_it.line.element m in
      by_place s t t.place refl in_it (record {
        element = in_it.line.element;
        input = in_it.line.line;
        output = m.1;
        before = q;
        after = m.0;
        enters = in_it.place;
        has_state = stands;
        moves = is;
        states = refl;
        place = refl;
      })

  -- an element with an input line is one of the circuit's
  known : (ts : List Table) (e i : ℕ) → i < inputs_of ts e → e < length ts
  known ts e i low = by (slice_get ts e) refl
    where
      by : (o : Option Table) → slice_get ts e ≡ o → e < length ts
      by (Some t) is = slice_get_within ts e t is
      by None is = let none : inputs_of ts e ≡ 0 = rw is refl in absurd (omega arith)

  some_state : (s : Situation) (in_it : Inside s) → (q : ℕ) × (slice_get s.states in_it.line.element ≡ Some q)
  some_state s in_it =
      let low = known k.tables in_it.line.element in_it.line.line in_it.input in
      let long = in_it.states.count in
      (get_or s.states in_it.line.element 0, slice_get-get_or s.states in_it.line.element 0 (omega arith))

  decides : (s : Situation) → Inside s → ((u : Situation) × Inner s u) ⊎ Ended s
  decides s in_it =
      let q = some_state s in_it in
      by_move s in_it q.0 q.1 (go_of k.tables in_it.line.element q.0 in_it.line.line) refl

  -- no step leads to a line without a wire
  not_here : (i from : Line) → source k.wires i ≡ None → (o : Option Line) → target k.wires from ≡ o
      → Enter i.element i.line ≡ place_at o from → ⊥
  not_here i from free None is place = absurd (cc)
  not_here i from free (Some to) is place =
      let element : to.element ≡ i.element = cc in
      let line : to.line ≡ i.line = cc in
      let same : to ≡ i = same_lines to i element line in
      let comes : source k.wires to ≡ Some from = (circuit.one_to_one from to).0 is in
      let comes_here : source k.wires i ≡ Some from = subst (λ l. source k.wires l ≡ Some from) same comes in
      absurd (cc)

  first_here : (q : List ℕ) (i : Line) → IsFreeInput k i → (s : Situation) → Turns k s (entering q i) → ⊥
  first_here q i free s g =
      let from : Line = record { element = g.element; line = g.output } in
      not_here i from free.free (target k.wires from) refl g.place

  inner_run : (n : ℕ) (s t : Situation) → Reaches Inner n s t → Reaches (Turns k) n s t
  inner_run n s t run = runs_mapped Inner (Turns k) (λ a b g. g.turns) n s t run

  module _ (q : List ℕ) (i : Line) (are : AreStates k.tables q) (free : IsFreeInput k i) where
    by_end : (e : EndsBelow Inside Inner Ended (most_crossing k) (entering q i)) → Ended e.last → Comes k q i
    by_end e (is_loose in_it loose) =
        let there : e.last ≡ entering e.last.states in_it.line = inside_is e.last in_it in
        hangs e.last.states in_it.line e.steps (record {
          states = are;
          input = free;
          comes = subst (λ s. Reaches (Turns k) e.steps (entering q i) s) there
              (inner_run e.steps (entering q i) e.last e.run);
          loose = loose;
        }) e.few
    by_end e (exits x) =
        let few = e.few in
        leaves x.states x.output (e.steps + 1) (record {
          states = are;
          input = free;
          crosses = runs_more (Turns k) e.steps (entering q i) e.last (leaving x.states x.output)
              (inner_run e.steps (entering q i) e.last e.run) x.turns;
        }) (omega arith)

    comes : Comes k q i
    comes =
        let e = ends_below Inside Inner Ended (most_crossing k) permuting decides (entering q i)
        (enters q i are free.input) (λ s in_it g. first_here q i free s g.turns) in
        by_end e e.ended

  -- ---- backward

  -- a step back from an admissible place that an output line leads to, where a move leads to each state and line
  record Back (s : Situation) : Type 0 where
    pub before : Situation
    pub turns : Turns k before s
    pub inside : Inside before

  back_by : (s : Situation) → IsConfig k (counted s 1) → (from : Line) → line_before k.wires s.place ≡ Some from
      → (r : ℕ) → slice_get s.states from.element ≡ Some r → (m : ℕ × ℕ)
      → back_of k.tables from.element r from.line ≡ Some m → Back s
  back_by s config from came r stands m moves =
      let g = parts-Goes k circuit (counted s 1) config 0 (omega arith) from r m.0 m.1 came stands moves in
      let before : Config = record {
        states = slice_set s.states from.element m.0;
        place = Enter from.element m.1;
        steps = 0;
      } in
      let there = previous-IsConfig k circuit before (counted s 1) config g in
      record {
        before = situation (slice_set s.states from.element m.0) (Enter from.element m.1);
        turns = g.crosses;
        inside = record {
          states = record { count = there.count; range = there.range };
          line = record { element = from.element; line = m.1 };
          place = refl;
          input = there.place;
        };
      }

  known_output : (ts : List Table) (l : Line) → IsOutputOf ts l → l.element < length ts
  known_output ts l low = by (slice_get ts l.element) refl
    where
      by : (o : Option Table) → slice_get ts l.element ≡ o → l.element < length ts
      by (Some t) is = slice_get_within ts l.element t is
      by None is = let none : outputs_of ts l.element ≡ 0 = rw is refl in absurd (omega arith)

  module _ (onto : AreOnto k.tables) where
    step_back : (s : Situation) → IsConfig k (counted s 1) → (from : Line) → line_before k.wires s.place ≡ Some from
        → IsOutputOf k.tables from → Back s
    step_back s config from came output =
        let low = known_output k.tables from output in
        let long = config.count in
        let r = get_or s.states from.element 0 in
        let stands : slice_get s.states from.element ≡ Some r = slice_get-get_or s.states from.element 0 (omega arith)
        in
        let m = onto.moves from.element r from.line (config.range from.element r stands) output in
        back_by s config from came r stands m.0 m.1

    record Outer (s t : Situation) : Type 0 where
      pub turns : Turns k t s
      pub inside : Inside t

    record Begins (s : Situation) : Type 0 where
      pub inside : Inside s
      pub free : IsFreeInput k inside.line

    permuting_back : IsFinitePermuting Inside Outer (most_crossing k)
    permuting_back = record {
      number = number;
      below = number_low;
      apart = number_apart;
      stays = λ a b in_a g. g.inside;
      one_to_one = λ a b c in_a in_b g h. turns_once k c a b g.turns h.turns;
    }

    by_source : (s : Situation) (in_it : Inside s) (o : Option Line) → source k.wires in_it.line ≡ o
        → ((t : Situation) × Outer s t) ⊎ Begins s
    by_source s in_it None is = inr (record { inside = in_it; free = record { input = in_it.input; free = is } })
    by_source s in_it (Some from) is =
        let config : IsConfig k (counted s 1) = record {
          count = in_it.states.count;
          range = in_it.states.range;
          place = subst (IsPlace k) (sym in_it.place) in_it.input;
          in_time = omega arith;
        } in
        let came : line_before k.wires s.place ≡ Some from = ap (line_before k.wires) in_it.place ∙ is in
        let wired : target k.wires from ≡ Some in_it.line = (circuit.one_to_one from in_it.line).1 is in
        let b = step_back s config from came (circuit.wired from in_it.line wired).0 in
        inl (b.before, record { turns = b.turns; inside = b.inside })

    outer_run : (n : ℕ) (s t : Situation) → Reaches Outer n s t → Reaches (λ c d. Turns k d c) n s t
    outer_run n s t run = runs_mapped Outer (λ c d. Turns k d c) (λ a b g. g.turns) n s t run

    origin : (r : List ℕ) (o : Line) → AreStates k.tables r → IsFreeOutput k o → Origin k r o
    origin r o are free =
        let config : IsConfig k (counted (leaving r o) 1) = record {
          count = are.count;
          range = are.range;
          place = (free.output, free.free);
          in_time = omega arith;
        } in
        let b = step_back (leaving r o) config o refl free.output in
        let e = ends_below Inside Outer Begins (most_crossing k) permuting_back
        (λ s in_it. by_source s in_it (source k.wires in_it.line) refl) b.before b.inside
        (λ s in_it g. (let same : leaving r o ≡ s = turns_once k b.before (leaving r o) s b.turns g.turns in
        let place : Left o.element o.line ≡ Enter in_it.line.element in_it.line.line =
        ap (λ (x : Situation). x.place) same ∙ in_it.place in
        absurd (cc))) in
        let begins = e.ended in
        let few = e.few in
        let there : e.last ≡ entering e.last.states begins.inside.line = inside_is e.last begins.inside in
        let run : Reaches (Turns k) e.steps e.last b.before =
        runs_turned (λ c d. Turns k d c) e.steps b.before e.last (outer_run e.steps b.before e.last e.run) in
        record {
          states = e.last.states;
          input = begins.inside.line;
          steps = e.steps + 1;
          behaves = record {
            states = begins.inside.states;
            input = begins.free;
            crosses = runs_more (Turns k) e.steps (entering e.last.states begins.inside.line) b.before (leaving r o)
                (subst (λ s. Reaches (Turns k) e.steps s b.before) there run) b.turns;
          };
          bounded = omega arith;
        }

-- ---- the laws

pub leave-or-hang : SignalsLeaveOrHang
leave-or-hang k circuit q i are free = comes k circuit q i are free

same_output : (r s : List ℕ) (o p : Line) → leaving r o ≡ leaving s p → (r ≡ s) × (o ≡ p)
same_output r s o p same =
    let place : Left o.element o.line ≡ Left p.element p.line = ap (λ (x : Situation). x.place) same in
    let element : o.element ≡ p.element = cc in
    let line : o.line ≡ p.line = cc in
    (ap (λ (x : Situation). x.states) same, same_lines o p element line)

same_input : (r s : List ℕ) (o p : Line) → entering r o ≡ entering s p → (r ≡ s) × (o ≡ p)
same_input r s o p same =
    let place : Enter o.element o.line ≡ Enter p.element p.line = ap (λ (x : Situation). x.place) same in
    let element : o.element ≡ p.element = cc in
    let line : o.line ≡ p.line = cc in
    (ap (λ (x : Situation). x.states) same, same_lines o p element line)

pub come-once : SignalsComeOnce
come-once = (
  λ k q i r s o p m n one two.
      (let both = runs_stop_once (Turns k) (turns_once k) m n (entering q i) (leaving r o) (leaving s p) one.crosses
      two.crosses (left_over k r o) (left_over k s p) in
      let same = same_output r s o p both.1 in
      (same.0, same.1, both.0)),
  λ k q i r s l p m n one two.
      (let both = runs_stop_once (Turns k) (turns_once k) m n (entering q i) (entering r l) (entering s p) one.comes
      two.comes (loose_stops k r l one.loose) (loose_stops k s p two.loose) in
      let same = same_input r s l p both.1 in
      (same.0, same.1, both.0)),
  λ k q i r s o l m n one two.
      (let both = runs_stop_once (Turns k) (turns_once k) m n (entering q i) (leaving r o) (entering s l) one.crosses
      two.comes (left_over k r o) (loose_stops k s l two.loose) in
      let place : Left o.element o.line ≡ Enter l.element l.line = ap (λ (x : Situation). x.place) both.1 in
      absurd (cc)),
)

-- ---- what a run keeps

at_zero : (k : Circuit) (s : Situation) (n : ℕ) → IsConfig k (counted s n) → IsConfig k (counted s 0)
at_zero k s n config =
    record { count = config.count; range = config.range; place = config.place; in_time = omega arith }

run_config : (k : Circuit) → IsCircuit k → (n : ℕ) (s t : Situation) → Reaches (Turns k) n s t
    → IsConfig k (counted s 0) → IsConfig k (counted t 0)
run_config k circuit zero s t run config = subst (λ u. IsConfig k (counted u 0)) run config
run_config k circuit (suc n) s t run config =
    run_config k circuit n run.0 t run.2 (at_zero k run.0 1 (next-IsConfig k circuit (counted s 0) (counted run.0 1)
    config (steps-counted.1 k s run.0 0 run.1 (omega arith))))

pub entering_config : (k : Circuit) (q : List ℕ) (i : Line) → AreStates k.tables q → IsInputOf k.tables i
    → IsConfig k (counted (entering q i) 0)
entering_config k q i are input =
    record { count = are.count; range = are.range; place = input; in_time = omega arith }

pub are-left : CircuitsAreLeft
are-left k circuit total q i are free = by (comes k circuit q i are free)
  where
    by : Comes k q i → Passage k q i
    by (leaves r o n b few) = record { states = r; output = o; steps = n; behaves = b; bounded = few }
    by (hangs r l n h few) =
        let loose = h.loose in
        let there = run_config k circuit n (entering q i) (entering r l) h.comes
        (entering_config k q i are free.input) in
        let m = total.moves l.element loose.state l.line (there.range l.element loose.state loose.stands) there.place in
        let some : go_of k.tables l.element loose.state l.line ≡ Some m.0 = m.1 in
        let none : go_of k.tables l.element loose.state l.line ≡ None = loose.none in
        absurd (cc)

some_steps : (k : Circuit) (q r : List ℕ) (i o : Line) (n : ℕ) → Reaches (Turns k) n (entering q i) (leaving r o)
    → 0 < n
some_steps k q r i o zero run =
    let place : Enter i.element i.line ≡ Left o.element o.line = ap (λ (x : Situation). x.place) run in absurd (cc)
some_steps k q r i o (suc n) run = omega arith

pub behaviours-stay : BehavioursStay
behaviours-stay k circuit q i r o n b =
    let there = run_config k circuit n (entering q i) (leaving r o) b.crosses
    (entering_config k q i b.states b.input.input) in (
      record { count = there.count; range = there.range },
      record { output = there.place.0; free = there.place.1 },
      some_steps k q r i o n b.crosses,
    )

pub one-to-one : BehavioursAreOneToOne
one-to-one k circuit p q i j r o m n one two =
    let both = runs_stop_once (λ c d. Turns k d c) (turns_back_once k circuit) m n (leaving r o) (entering p i)
    (entering q j) (runs_turned (Turns k) m (entering p i) (leaving r o) one.crosses)
    (runs_turned (Turns k) n (entering q j) (leaving r o) two.crosses) (first_here k circuit p i one.input)
    (first_here k circuit q j two.input) in
    let same = same_input p q i j both.1 in
    (same.0, same.1, both.0)

pub onto : BehavioursAreOnto
onto k circuit all r o are free = origin k circuit all r o are free

-- ---- with the clock

pub counted_run : (k : Circuit) (n : ℕ) (s t : Situation) (p q : ℕ) → q ≡ p + n → Reaches (Turns k) n s t → q ≤ clock
    → Reaches (Goes k) n (counted s p) (counted t q)
counted_run k zero s t p q sum run in_time =
    let count : p ≡ q = omega arith in
    ap (λ x. counted x p) run ∙ ap (counted t) count
counted_run k (suc n) s t p q sum run in_time =
    let more : q ≡ (p + 1) + n = omega arith in (
      counted run.0 (p + 1),
      steps-counted.1 k s run.0 p run.1 (omega arith),
      counted_run k n run.0 t (p + 1) q more run.2 in_time,
    )

pub are-runs : BehavioursAreRuns
are-runs k circuit q i r o n made t b room long =
    let path = counted_run k n (entering q i) (leaving r o) made (made + n) refl b.crosses room in
    let stuck : IsStuck k (counted (leaving r o) (made + n)) = λ d g. left_over k r o (situation_of d) g.crosses in (
      run_stops k n t (counted (entering q i) made) (counted (leaving r o) (made + n)) path long (λ fewer. stuck),
      Reaches-back k circuit n (counted (entering q i) made) (counted (leaving r o) (made + n)) path,
    )
