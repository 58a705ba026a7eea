-- What every circuit keeps: the step is a function forward and backward, and a run can be taken back.
use Rattle.std.specs.Prelude.{◌≡◌, ◌≢◌, ℕ, ◌+◌, ◌<◌, ◌≤◌, nat_le, true, List, [], ◌∷◌, length, Option, Some, None}
use Rattle.std.specs.Prelude.{slice_get, slice_set, option_and_then, refl}
use Rattle.std.proofs.Common.{zero, suc, arith, sym, ap, subst, ◌∙◌, inl, inr}
use Rattle.std.proofs.lemmas.Bool.{leb-true, le-leb}
use Rattle.std.proofs.lemmas.Bool.Decides.{eqb_tells}
use Rattle.std.proofs.lemmas.List.{length-set}
use Rattle.std.proofs.lemmas.Option.{option_and_then_some, cond_some, slice_get_within}
use Rattle.bn_element.specs.Tables.{Table}
use Rattle.bn_lists.specs.Runs.{IsFunction}
use Rattle.bn_circuits.specs.Circuits.{Circuit, clock, target, go_of, back_of, states_of, inputs_of, outputs_of}
use Rattle.bn_circuits.specs.Circuits.{place_after, place_at, IsCircuit, IsPlace, IsOutputOf, IsConfig, Goes}
use Rattle.bn_circuits.specs.Situations.{Situation, situation_of, counted, Turns, crossed, turn, turn_from}
use Rattle.bn_circuits.specs.Stepping.{next_by, next, line_before, moved_back, previous_by, previous}
use Rattle.bn_circuits.proofs.SituationLemmas.{turns-turn}
use Rattle.bn_circuits.specs.declared.line.Line.{Line}
use Rattle.bn_circuits.specs.declared.place.Place.{Place}
use Rattle.bn_circuits.specs.declared.place.Place.TheVariants.{Enter, Left}
use Rattle.bn_circuits.specs.declared.config.Config.{Config}

-- two configurations with the same parts are the same
pub same_config : (c d : Config) → c.states ≡ d.states → c.place ≡ d.place → c.steps ≡ d.steps → c ≡ d
same_config c d states place steps =
    let by_states : c ≡ record { states = d.states; place = c.place; steps = c.steps } =
    ap (λ (s : List ℕ). let r : Config = record { states = s; place = c.place; steps = c.steps } in r) states in
    let by_place : record { states = d.states; place = c.place; steps = c.steps }
    ≡ record { states = d.states; place = d.place; steps = c.steps } = ap
    (λ (p : Place). let r : Config = record { states = d.states; place = p; steps = c.steps } in r) place in
    let by_steps : record { states = d.states; place = d.place; steps = c.steps } ≡ d =
    ap (λ (n : ℕ). let r : Config = record { states = d.states; place = d.place; steps = n } in r) steps in
    by_states ∙ by_place ∙ by_steps

-- two lines with the same numbers are the same
pub same_lines : (a b : Line) → a.element ≡ b.element → a.line ≡ b.line → a ≡ b
same_lines a b element line =
    let by_element : a ≡ record { element = b.element; line = a.line } =
    ap (λ (e : ℕ). let r : Line = record { element = e; line = a.line } in r) element in
    let by_line : record { element = b.element; line = a.line } ≡ b =
    ap (λ (l : ℕ). let r : Line = record { element = b.element; line = l } in r) line in
    by_element ∙ by_line

-- a list after a write, at that place and at others
pub slice_get-set_same : {X : Type 0} (xs : List X) (i : ℕ) (v : X) → i < length xs
    → slice_get (slice_set xs i v) i ≡ Some v
slice_get-set_same [] i v h = absurd (omega arith)
slice_get-set_same (x ∷ xs) zero v h = refl
slice_get-set_same (x ∷ xs) (suc i) v h = slice_get-set_same xs i v (omega arith)

pub slice_get-set_other : {X : Type 0} (xs : List X) (i j : ℕ) (v : X) → j ≢ i
    → slice_get (slice_set xs i v) j ≡ slice_get xs j
slice_get-set_other [] i j v h = refl
slice_get-set_other (x ∷ xs) zero zero v h = absurd (h refl)
slice_get-set_other (x ∷ xs) zero (suc j) v h = refl
slice_get-set_other (x ∷ xs) (suc i) zero v h = refl
slice_get-set_other (x ∷ xs) (suc i) (suc j) v h = slice_get-set_other xs i j v (λ e. h (ap suc e))

-- what was there, written back, restores the list
pub set-set_back : {X : Type 0} (xs : List X) (i : ℕ) (v w : X) → slice_get xs i ≡ Some w
    → slice_set (slice_set xs i v) i w ≡ xs
set-set_back [] i v w h = refl
set-set_back (x ∷ xs) zero v w h = ap (λ y. y ∷ xs) (cc)
set-set_back (x ∷ xs) (suc i) v w h = ap (λ ys. x ∷ ys) (set-set_back xs i v w h)

module _ (k : Circuit) where
  crosses_by : (s t : Situation) (e i q : ℕ) (m : ℕ × ℕ) → s.place ≡ Enter e i → slice_get s.states e ≡ Some q
      → go_of k.tables e q i ≡ Some m → crossed k s.states e m ≡ t → Turns k s t
  crosses_by s t e i q m enters has_state moves is =
      record {
        element = e;
        input = i;
        output = m.1;
        before = q;
        after = m.0;
        enters = enters;
        has_state = has_state;
        moves = moves;
        states = sym (ap (λ (x : Situation). x.states) is);
        place = sym (ap (λ (x : Situation). x.place) is);
      }

  turn_from-Turns : (s t : Situation) (p : Place) → s.place ≡ p → turn_from k s.states p ≡ Some t → Turns k s t
  turn_from-Turns s t (Left e o) at_p h = absurd (cc)
  turn_from-Turns s t (Enter e i) at_p h =
      option_and_then_some (λ q. option_and_then (λ m. Some (crossed k s.states e m)) (go_of k.tables e q i))
      (slice_get s.states e) t h (λ q has_state h1.
      option_and_then_some (λ m. Some (crossed k s.states e m)) (go_of k.tables e q i) t h1 (λ m moves h2.
      let is : crossed k s.states e m ≡ t = cc in
      crosses_by s t e i q m at_p has_state moves is))

  -- what the function gives is a step
  pub next-Goes : (c d : Config) → next k c ≡ Some d → Goes k c d
  next-Goes c d h =
      option_and_then_some (next_by c.steps) (turn k (situation_of c)) d h (λ s turned h1.
      let both = cond_some (nat_le (c.steps + 1) clock) (counted s (c.steps + 1)) d h1 in
      subst (Goes k c) both.1 (record {
        crosses = turn_from-Turns (situation_of c) s c.place refl turned;
        steps = refl;
        in_time = leb-true (c.steps + 1) clock both.0;
      }))

  -- a step is what the function gives
  pub Goes-next : (c d : Config) → Goes k c d → next k c ≡ Some d
  Goes-next c d g =
      let in_time : nat_le (c.steps + 1) clock ≡ true = le-leb (c.steps + 1) clock g.in_time in
      let whole : counted (situation_of d) (c.steps + 1) ≡ d = same_config (counted (situation_of d) (c.steps + 1)) d
      refl refl (sym g.steps) in
      ap (option_and_then (next_by c.steps)) (turns-turn k (situation_of c) (situation_of d) g.crosses)
      ∙ rw in_time (ap Some whole)

  -- the step forward is a function
  pub forward_once : IsFunction (Goes k)
  forward_once c d e first second = let a = Goes-next c d first in let b = Goes-next c e second in cc

  -- the parts of a table in a circuit, where each table is reversible
  module _ (circuit : IsCircuit k) where
    go_back : (e q i r o : ℕ) → go_of k.tables e q i ≡ Some (r, o) → back_of k.tables e r o ≡ Some (q, i)
    go_back e q i r o h =
        option_and_then_some (λ (t : Table). t.go q i) (slice_get k.tables e) (r, o) h (λ t has goes.
        let undone = (circuit.reversible e t has).undone q i r o goes in
        rw has undone)

    -- the move back, turned round
    pub back_go : (e q i r o : ℕ) → back_of k.tables e r o ≡ Some (q, i) → go_of k.tables e q i ≡ Some (r, o)
    back_go e q i r o h =
        option_and_then_some (λ (t : Table). t.back r o) (slice_get k.tables e) (q, i) h (λ t has goes.
        let redone = (circuit.reversible e t has).redone q i r o goes in
        rw has redone)

    -- where a move comes from is in range
    pub go_departs : (e q i r o : ℕ) → go_of k.tables e q i ≡ Some (r, o)
        → (q < states_of k.tables e) × (i < inputs_of k.tables e)
    go_departs e q i r o h =
        option_and_then_some (λ (t : Table). t.go q i) (slice_get k.tables e) (r, o) h (λ t has goes.
        let departs = (circuit.reversible e t has).departs q i r o goes in
        rw has departs)

    -- where a move leads is in range
    pub go_arrives : (e q i r o : ℕ) → go_of k.tables e q i ≡ Some (r, o)
        → (r < states_of k.tables e) × (o < outputs_of k.tables e)
    go_arrives e q i r o h =
        option_and_then_some (λ (t : Table). t.go q i) (slice_get k.tables e) (r, o) h (λ t has goes.
        let arrives = (circuit.reversible e t has).arrives q i r o goes in
        rw has arrives)

    place_at-IsPlace : (from : Line) (t : Option Line) → target k.wires from ≡ t → IsOutputOf k.tables from
        → IsPlace k (place_at t from)
    place_at-IsPlace from None is output = (output, is)
    place_at-IsPlace from (Some to) is output = (circuit.wired from to is).1

    -- from an output line the signal comes to an admissible place
    pub place_after-IsPlace : (from : Line) → IsOutputOf k.tables from → IsPlace k (place_after k.wires from)
    place_after-IsPlace from output = place_at-IsPlace from (target k.wires from) refl output

    after_range : (c d : Config) → IsConfig k c → (g : Goes k c d) → (e q : ℕ) → slice_get d.states e ≡ Some q
        → q < states_of k.tables e
    after_range c d config g e q has =
        let has' : slice_get (slice_set c.states g.crosses.element g.crosses.after) e ≡ Some q =
        rw g.crosses.states at has in
        elim (eqb_tells e g.crosses.element) [
          | inl same ↦
              (let within : g.crosses.element < length c.states = slice_get_within c.states g.crosses.element
              g.crosses.before g.crosses.has_state in
              let written : slice_get (slice_set c.states g.crosses.element g.crosses.after) g.crosses.element
              ≡ Some g.crosses.after = slice_get-set_same c.states g.crosses.element g.crosses.after within in
              let at_e : slice_get (slice_set c.states g.crosses.element g.crosses.after) g.crosses.element ≡ Some q =
              subst (λ x. slice_get (slice_set c.states g.crosses.element g.crosses.after) x ≡ Some q) same.1 has'
              in
              let is : g.crosses.after ≡ q = cc in
              let arrives = (go_arrives g.crosses.element g.crosses.before g.crosses.input g.crosses.after
              g.crosses.output g.crosses.moves).0 in
              subst (λ x. x < states_of k.tables e) is (subst (λ x. g.crosses.after < states_of k.tables x) (sym same.1)
              arrives))
          | inr other ↦ config.range e q (sym (slice_get-set_other c.states g.crosses.element e g.crosses.after other.1)
              ∙ has')
        ]

    -- a step leads from a configuration to a configuration
    pub next-IsConfig : (c d : Config) → IsConfig k c → Goes k c d → IsConfig k d
    next-IsConfig c d config g =
        record {
          count = ap length g.crosses.states ∙ length-set c.states g.crosses.element g.crosses.after ∙ config.count;
          range = after_range c d config g;
          place = subst (IsPlace k) (sym g.crosses.place) (place_after-IsPlace
              (record { element = g.crosses.element; line = g.crosses.output })
              (go_arrives g.crosses.element g.crosses.before g.crosses.input g.crosses.after g.crosses.output
              g.crosses.moves).1);
          in_time = subst (λ n. n ≤ clock) (sym g.steps) g.in_time;
        }

    before_range : (c d : Config) → IsConfig k d → (g : Goes k c d) → (e q : ℕ) → slice_get c.states e ≡ Some q
        → q < states_of k.tables e
    before_range c d config g e q has =
        elim (eqb_tells e g.crosses.element) [
          | inl same ↦
              (let at_e : slice_get c.states g.crosses.element ≡ Some q = subst (λ x. slice_get c.states x ≡ Some q)
              same.1 has in
              let before : slice_get c.states g.crosses.element ≡ Some g.crosses.before = g.crosses.has_state in
              let is : g.crosses.before ≡ q = cc in
              let departs = (go_departs g.crosses.element g.crosses.before g.crosses.input g.crosses.after
              g.crosses.output g.crosses.moves).0 in
              subst (λ x. x < states_of k.tables e) is (subst (λ x. g.crosses.before < states_of k.tables x)
              (sym same.1) departs))
          | inr other ↦
              (let kept : slice_get d.states e ≡ slice_get c.states e = ap (λ xs. slice_get xs e) g.crosses.states
              ∙ slice_get-set_other c.states g.crosses.element e g.crosses.after other.1 in
              config.range e q (kept ∙ has))
        ]

    -- a step leads to a configuration from a configuration
    pub previous-IsConfig : (c d : Config) → IsConfig k d → Goes k c d → IsConfig k c
    previous-IsConfig c d config g =
        record {
          count = sym (length-set c.states g.crosses.element g.crosses.after) ∙ sym (ap length g.crosses.states)
              ∙ config.count;
          range = before_range c d config g;
          place = subst (IsPlace k) (sym g.crosses.enters) (go_departs g.crosses.element g.crosses.before
              g.crosses.input g.crosses.after g.crosses.output g.crosses.moves).1;
          in_time = let counted : d.steps ≡ c.steps + 1 = g.steps in let limit : d.steps ≤ clock =
              config.in_time in omega arith;
        }

    line_before-place_at : (from : Line) (t : Option Line) → target k.wires from ≡ t
        → line_before k.wires (place_at t from) ≡ Some from
    line_before-place_at from None is = refl
    line_before-place_at from (Some to) is = (circuit.one_to_one from to).0 is

    place_at-line_before : (p : Place) (from : Line) → IsPlace k p → line_before k.wires p ≡ Some from
        → p ≡ place_after k.wires from
    place_at-line_before (Left e o) from place is =
        let same : record { element = e; line = o } ≡ from = cc in
        let none : target k.wires (record { element = e; line = o }) ≡ None = place.1 in
        subst (λ f. Left e o ≡ place_after k.wires f) same (rw none refl)
    place_at-line_before (Enter e i) from place is =
        let wired : target k.wires from ≡ Some (record { element = e; line = i }) =
        (circuit.one_to_one from (record { element = e; line = i })).1 is in
        rw wired refl

    -- a step from what the parts of d tell: the output line by which the signal came, the state that was left there,
    -- and the move that leads to both
    pub parts-Goes : (d : Config) → IsConfig k d → (n : ℕ) → d.steps ≡ suc n → (o : Line) (r q i : ℕ)
        → line_before k.wires d.place ≡ Some o → slice_get d.states o.element ≡ Some r
        → back_of k.tables o.element r o.line ≡ Some (q, i) → Goes k (moved_back d n o.element (q, i)) d
    parts-Goes d config n counted o r q i came has moves =
        let within : o.element < length d.states = slice_get_within d.states o.element r has in
        record {
          crosses = record {
            element = o.element;
            input = i;
            output = o.line;
            before = q;
            after = r;
            enters = refl;
            has_state = slice_get-set_same d.states o.element q within;
            moves = back_go o.element q i r o.line moves;
            states = sym (set-set_back d.states o.element q r has);
            place = place_at-line_before d.place o config.place came;
          };
          steps = omega arith;
          in_time = let limit : d.steps ≤ clock = config.in_time in omega arith;
        }

    -- what the function back gives is where a step came from
    pub previous-Goes : (c d : Config) → IsConfig k d → previous k d ≡ Some c → Goes k c d
    previous-Goes c d config h = by_steps d.steps refl h
      where
        by_steps : (n : ℕ) → d.steps ≡ n → previous_by k d n ≡ Some c → Goes k c d
        by_steps zero counted h = absurd (cc)
        by_steps (suc n) counted h =
            option_and_then_some (λ (o : Line). option_and_then (λ r. option_and_then
            (λ m. Some (moved_back d n o.element m)) (back_of k.tables o.element r o.line))
            (slice_get d.states o.element)) (line_before k.wires d.place) c h (λ o came h1.
            option_and_then_some (λ r. option_and_then (λ m. Some (moved_back d n o.element m))
            (back_of k.tables o.element r o.line)) (slice_get d.states o.element) c h1 (λ r has h2.
            option_and_then_some (λ m. Some (moved_back d n o.element m)) (back_of k.tables o.element r o.line) c h2
            (λ m moves h3.
            let is : moved_back d n o.element m ≡ c = cc in
            subst (λ x. Goes k x d) is (parts-Goes d config n counted o r m.0 m.1 came has moves))))

    -- What a step to d leaves there: the output line by which the signal came, the state left at its element, and the
    -- move back from both.
    pub record Came (c d : Config) : Type 0 where
      pub from : Line
      pub before : ℕ
      pub after : ℕ
      pub input : ℕ
      pub counted : d.steps ≡ suc c.steps
      pub came : line_before k.wires d.place ≡ Some from
      pub has_state : slice_get d.states from.element ≡ Some after
      pub moves : back_of k.tables from.element after from.line ≡ Some (before, input)

    pub Goes-Came : (c d : Config) → Goes k c d → Came c d
    Goes-Came c d g =
        let within : g.crosses.element < length c.states = slice_get_within c.states g.crosses.element g.crosses.before
        g.crosses.has_state in
        record {
          from = record { element = g.crosses.element; line = g.crosses.output };
          before = g.crosses.before;
          after = g.crosses.after;
          input = g.crosses.input;
          counted = omega (arith, g.steps);
          came = ap (line_before k.wires) g.crosses.place ∙ line_before-place_at
              (record { element = g.crosses.element; line = g.crosses.output })
              (target k.wires (record { element = g.crosses.element; line = g.crosses.output })) refl;
          has_state = ap (λ xs. slice_get xs g.crosses.element) g.crosses.states
              ∙ slice_get-set_same c.states g.crosses.element g.crosses.after within;
          moves = go_back g.crosses.element g.crosses.before g.crosses.input g.crosses.after g.crosses.output
              g.crosses.moves;
        }

    -- where a step came from is what the function back gives
    pub Goes-previous : (c d : Config) → Goes k c d → previous k d ≡ Some c
    unfolding Goes-Came
    Goes-previous c d g =
        let back = Goes-Came c d g in
        let restored : slice_set d.states g.crosses.element g.crosses.before ≡ c.states =
        ap (λ xs. slice_set xs g.crosses.element g.crosses.before) g.crosses.states
        ∙ set-set_back c.states g.crosses.element g.crosses.after g.crosses.before g.crosses.has_state in
        let whole : moved_back d c.steps g.crosses.element (g.crosses.before, g.crosses.input) ≡ c =
        same_config (moved_back d c.steps g.crosses.element (g.crosses.before, g.crosses.input)) c restored
        (sym g.crosses.enters) refl in
        let by_count : previous k d ≡ previous_by k d (suc c.steps) = ap (previous_by k d) back.counted in
        by_count ∙ rw (back.came, back.has_state, back.moves) (ap Some whole)

    -- the step backward is a function
    pub backward_once : (c d e : Config) → Goes k c e → Goes k d e → c ≡ d
    backward_once c d e first second = let a = Goes-previous c e first in let b = Goes-previous d e second in cc
