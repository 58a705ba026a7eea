-- A crossing of an element is a step of the circuit, forward and backward.
use Rattle.std.specs.Prelude.{◌≡◌, ◌≢◌, ℕ, ◌+◌, ◌-◌, ◌<◌, ◌≤◌, ◌==◌, Bool, true, false, List, [], ◌∷◌, length, map}
use Rattle.std.specs.Prelude.{Option, Some, slice_get, slice_set, option_and_then, min, refl, ◌⊎◌}
use Rattle.std.proofs.Common.{zero, suc, arith, sym, ap, subst, ◌∙◌, inl, inr}
use Rattle.std.proofs.lemmas.Bool.Decides.{nat_tests, eqb_tells}
use Rattle.std.proofs.lemmas.Option.{option_and_then_some, slice_get_within}
use Rattle.std.specs.Bool.{OnTrue, OnFalse}
use Rattle.bn_element.specs.Tables.{Table}
use Rattle.bn_lists.specs.Runs.{Reaches}
use Rattle.bn_lists.proofs.RunsLemmas.{passes_join}
use Rattle.bn_circuits.specs.Circuits.{Circuit, IsCircuit, IsConfig, IsPlace, IsOutputOf, Goes, IsStuck, IsFirst, clock}
use Rattle.bn_circuits.specs.Circuits.{go_of, back_of, states_of, place_after}
use Rattle.bn_circuits.specs.Stepping.{line_before}
use Rattle.bn_circuits.proofs.RunLemmas.{run_stops, back_stops, Reaches-run, Reaches-back}
use Rattle.bn_circuits.proofs.StepLemmas.{same_config, next-IsConfig, previous-IsConfig}
use Rattle.bn_circuits.specs.declared.line.Line.{Line}
use Rattle.bn_circuits.specs.declared.place.Place.{Place}
use Rattle.bn_circuits.specs.declared.place.Place.TheVariants.{Enter, Left}
use Rattle.bn_circuits.specs.declared.config.Config.{Config}
use Rattle.bn_element.specs.Rotary.{rotary}
use Rattle.bn_element.specs.declared.rotary.Rotary.{Rotary}
use Rattle.bn_circuits.specs.Parts.{Parts}
use Rattle.bn_circuits.specs.Watching.{Hears}
use Rattle.bn_circuits.specs.Walking.{HasWalked, HasWalkedBack}
use Rattle.bn_circuits.proofs.WalkLemmas.{walk_starts, walk_goes, walk_ends, walk_back_starts, walk_goes_back}
use Rattle.bn_circuits.proofs.WalkLemmas.{walk_back_then, walk_back_ends}
use Rattle.bn_circuits.proofs.NetSteps.{enter-within, output-state, back-Goes, first_by_steps}
use Rattle.bn_circuits.specs.RotaryNets.{rotary_circuit}
use Rattle.bn_packed.specs.Bars.{AreBars, crossed, crossed_back}
use Rattle.bn_packed.specs.PackedNets.{PackedNet, config_at}
use Rattle.bn_packed.specs.Running.{GoesTo, LeadsTo, IsAtEnd, IsLongestRun, places_along}
use Rattle.bn_packed.specs.declared.direction.Direction.{Direction}
use Rattle.bn_packed.specs.declared.direction.Direction.TheVariants.{Forward, Backward}
use Rattle.bn_packed.specs.Stopping.{IsStoppedRun, PassesBy, passes_by, stops_at}
use Rattle.bn_packed.proofs.EndLemmas.{input_below, output_below}

-- an element's moves are those of the rotary element
go-rotary : (elements : List Rotary) (e q i : ℕ) → e < length elements
    → go_of (map (λ _. rotary) elements) e q i ≡ rotary.go q i
go-rotary [] e q i low = absurd (omega arith)
go-rotary (x ∷ elements) zero q i low = refl
go-rotary (x ∷ elements) (suc e) q i low = go-rotary elements e q i (omega arith)

back-rotary : (elements : List Rotary) (e r o : ℕ) → e < length elements
    → back_of (map (λ _. rotary) elements) e r o ≡ rotary.back r o
back-rotary [] e r o low = absurd (omega arith)
back-rotary (x ∷ elements) zero r o low = refl
back-rotary (x ∷ elements) (suc e) r o low = back-rotary elements e r o (omega arith)

-- the signal's element and line are there
pub entering_below : (net : Parts Rotary) (c : Config) (e i : ℕ) → IsConfig (rotary_circuit net) c → c.place ≡ Enter e i
    → (e < length c.states) × (i < 4)
entering_below net c e i config at_place =
    let place : IsPlace (rotary_circuit net) (Enter e i) = subst (IsPlace (rotary_circuit net)) at_place
    config.place in (
      enter-within (rotary_circuit net) c e i config at_place,
      (input_below net.elements (record { element = e; line = i }) place).line,
    )

pub leaving_below : (net : Parts Rotary) (c : Config) (from : Line) → IsConfig (rotary_circuit net) c
    → IsOutputOf (rotary_circuit net).tables from
    → (from.element < length c.states) × (from.line < 4)
leaving_below net c from config there = (
  output-state (rotary_circuit net) c from config there,
  (output_below net.elements from there).line,
)

-- What a crossing is: the bar before, and the move.
record IsMove (bars after : List ℕ) (e o : ℕ) (moves : ℕ → Option (ℕ × ℕ)) : Type 0 where
  state : ℕ
  next : ℕ
  has_state : slice_get bars e ≡ Some state
  goes : moves state ≡ Some (next, o)
  written : slice_set bars e next ≡ after

move_of : (bars after : List ℕ) (e o : ℕ) (moves : ℕ → Option (ℕ × ℕ))
    → option_and_then (λ q. option_and_then {U = List ℕ × ℕ} (λ (m : ℕ × ℕ). Some (slice_set bars e m.0, m.1))
    (moves q)) (slice_get bars e) ≡ Some (after, o)
    → IsMove bars after e o moves
move_of bars after e o moves is =
    option_and_then_some (λ q. option_and_then {U = List ℕ
    × ℕ} (λ (m : ℕ × ℕ). Some (slice_set bars e m.0, m.1)) (moves q)) (slice_get bars e) (after, o) is (λ q has h.
    option_and_then_some (λ (m : ℕ × ℕ). Some (slice_set bars e m.0, m.1)) (moves q) (after, o) h (λ m goes last.
    let both : ◌≡◌ {A = List ℕ × ℕ} (slice_set bars e m.0, m.1) (after, o) = cc in
    let states : slice_set bars e m.0 ≡ after = ap (λ (x : List ℕ × ℕ). x.0) both in
    let line : m.1 ≡ o = ap (λ (x : List ℕ × ℕ). x.1) both in
    record { state = q; next = m.0; has_state = has; goes = goes ∙ ap (λ x. Some (m.0, x)) line; written = states }))

-- a walk past these lines
pub record IsOnWay (k : Circuit) (stops : Line → Bool) (c d : Config) (made : ℕ) (old new : Option (List Place)) : Type
    0 where
  pub walked : HasWalked k c d made old new
  pub between : PassesBy k stops made c d

module _ (net : Parts Rotary) (circuit : IsCircuit (rotary_circuit net)) where
  module _ (bars after : List ℕ) (place : Place) (e i o n : ℕ)
      (config : IsConfig (rotary_circuit net) (config_at bars place n))
      (at_place : place ≡ Enter e i) (cross : crossed bars e i ≡ Some (after, o)) where
    element_there : e < length net.elements
    element_there = (input_below net.elements (record { element = e; line = i })
        (subst (IsPlace (rotary_circuit net)) at_place config.place)).element

    pub crossed-Goes : (then : Place) (p : ℕ) → then ≡ place_after net.wires (record { element = e; line = o })
        → p ≡ n + 1 → p ≤ clock
        → Goes (rotary_circuit net) (config_at bars place n) (config_at after then p)
    crossed-Goes then p leads counted in_time =
        let move = move_of bars after e o (λ q. rotary.go q i) cross in
        record {
          crosses = record {
            element = e;
            input = i;
            output = o;
            before = move.state;
            after = move.next;
            enters = at_place;
            has_state = move.has_state;
            moves = go-rotary net.elements e move.state i element_there ∙ move.goes;
            states = sym move.written;
            place = leads;
          };
          steps = counted;
          in_time = omega arith;
        }

  -- a step more of a walk
  pub walked_more : (first : Config) (bars after : List ℕ) (place then : Place) (e i o n made p q : ℕ)
      (old mid new : Option (List Place))
      → HasWalked (rotary_circuit net) first (config_at bars place (n + made)) made old mid → place ≡ Enter e i
      → crossed bars e i ≡ Some (after, o)
      → then ≡ place_after net.wires (record { element = e; line = o }) → n + made < clock → p ≡ n + made + 1
      → q ≡ made + 1 → Hears mid (then ∷ []) new
      → HasWalked (rotary_circuit net) first (config_at after then p) q old new
  walked_more first bars after place then e i o n made p q old mid new walked at_place cross leads room counted more
      hears =
      let goes = crossed-Goes bars after place e i o (n + made) walked.good at_place cross then p leads (omega arith)
      (omega arith) in
      subst (λ x. HasWalked (rotary_circuit net) first (config_at after then p) x old new) (sym more)
      (walk_goes (rotary_circuit net) first (config_at bars place (n + made)) (config_at after then p) made old mid new
      walked goes
      (next-IsConfig (rotary_circuit net) circuit (config_at bars place (n + made)) (config_at after then p) walked.good
      goes) hears)

  -- a step more on the way past these lines
  pub way_more : (stops : Line → Bool) (first : Config) (bars after : List ℕ) (place then : Place)
      (e i o n made p q : ℕ) (old mid new : Option (List Place))
      → IsOnWay (rotary_circuit net) stops first (config_at bars place (n + made)) made old mid
      → (0 < made → passes_by stops place ≡ true) → place ≡ Enter e i
      → crossed bars e i ≡ Some (after, o)
      → then ≡ place_after net.wires (record { element = e; line = o }) → n + made < clock → p ≡ n + made + 1
      → q ≡ made + 1 → Hears mid (then ∷ []) new
      → IsOnWay (rotary_circuit net) stops first (config_at after then p) q old new
  way_more stops first bars after place then e i o n made p q old mid new way calm at_place cross leads room counted
      more hears =
      let goes = crossed-Goes bars after place e i o (n + made) way.walked.good at_place cross then p leads
      (omega arith) (omega arith) in
      record {
        walked = walked_more first bars after place then e i o n made p q old mid new way.walked at_place cross leads
            room counted more hears;
        between = passes_join (Goes (rotary_circuit net)) (λ (x : Config). passes_by stops x.place) q made 1 first
            (config_at bars place (n + made)) (config_at after then p) (omega arith) (λ some _. calm some)
            way.between (config_at after then p, goes, tt, refl);
      }

  -- a crossing taken back is a step taken back
  crossed_back-Goes : (bars before : List ℕ) (place : Place) (from : Line) (i n p : ℕ)
      → IsConfig (rotary_circuit net) (config_at bars place n)
      → line_before net.wires place ≡ Some from → IsOutputOf (rotary_circuit net).tables from
      → crossed_back bars from.element from.line ≡ Some (before, i)
      → n ≡ p + 1
      → Goes (rotary_circuit net) (config_at before (Enter from.element i) p) (config_at bars place n)
  crossed_back-Goes bars before place from i n p config came there cross counted =
      let below = output_below net.elements from there in
      let move = move_of bars before from.element i (λ r. rotary.back r from.line) cross in
      back-Goes (rotary_circuit net) circuit (config_at before (Enter from.element i) p) (config_at bars place n) config
      from move.state move.next i came
      move.has_state
      (back-rotary net.elements from.element move.state from.line below.element ∙ move.goes)
      (same_config (config_at before (Enter from.element i) p) (config_at (slice_set bars from.element move.next)
      (Enter from.element i) (n - 1))
      (sym move.written) refl (omega arith))
      (λ none. absurd (omega arith))

  pub walked_back_more : (first : Config) (bars before : List ℕ) (place : Place) (from : Line) (i n made : ℕ)
      (old mid new : Option (List Place))
      → HasWalkedBack (rotary_circuit net) first (config_at bars place (n - made)) made old mid
      → line_before net.wires place ≡ Some from
      → IsOutputOf (rotary_circuit net).tables from → crossed_back bars from.element from.line ≡ Some (before, i)
      → made < n
      → Hears mid (Enter from.element i ∷ []) new
      → HasWalkedBack (rotary_circuit net) first (config_at before (Enter from.element i) (n - (made + 1))) (made + 1)
      old new
  walked_back_more first bars before place from i n made old mid new walked came there cross some hears =
      let goes = crossed_back-Goes bars before place from i (n - made) (n - (made + 1)) walked.good came there cross
      (omega arith) in
      walk_goes_back (rotary_circuit net) circuit first (config_at bars place (n - made))
      (config_at before (Enter from.element i) (n - (made + 1))) made
      old mid new walked goes
      (previous-IsConfig (rotary_circuit net) circuit (config_at before (Enter from.element i) (n - (made + 1)))
      (config_at bars place (n - made))
      walked.good goes) hears

  -- a step taken back from outside
  module _ (bars before : List ℕ) (place : Place) (e l i n : ℕ)
      (config : IsConfig (rotary_circuit net) (config_at bars place n))
      (at_place : place ≡ Left e l) where
    left-output : IsOutputOf (rotary_circuit net).tables (record { element = e; line = l })
    left-output = let there : IsPlace (rotary_circuit net) (Left e l) =
        subst (IsPlace (rotary_circuit net)) at_place config.place in there.0

    pub left_below : (e < length bars) × (l < 4)
    left_below = leaving_below net (config_at bars place n) (record { element = e; line = l }) config left-output

    left-Goes : crossed_back bars e l ≡ Some (before, i) → 0 < n
        → Goes (rotary_circuit net) (config_at before (Enter e i) (n - 1)) (config_at bars place n)
    left-Goes cross some =
        crossed_back-Goes bars before place (record { element = e; line = l }) i n (n - 1) config
        (ap (line_before net.wires) at_place) left-output cross
        (omega arith)

    pub left-IsConfig : crossed_back bars e l ≡ Some (before, i) → 0 < n
        → IsConfig (rotary_circuit net) (config_at before (Enter e i) (n - 1))
    left-IsConfig cross some =
        previous-IsConfig (rotary_circuit net) circuit (config_at before (Enter e i) (n - 1)) (config_at bars place n)
        config (left-Goes cross some)

    pub left_walked_back : (end : Config) (then : Place) (m made : ℕ) (old mid new : Option (List Place))
        → crossed_back bars e l ≡ Some (before, i) → 0 < n
        → then ≡ Enter e i → Hears old (then ∷ []) mid → HasWalkedBack (rotary_circuit net)
        (config_at before (Enter e i) (n - 1)) end made mid new
        → m ≡ made + 1
        → HasWalkedBack (rotary_circuit net) (config_at bars place n) end m old new
    left_walked_back end then m made old mid new cross some is hears walked sum =
        walk_back_then (rotary_circuit net) circuit (config_at bars place n) (config_at before (Enter e i) (n - 1)) end
        made m old mid new sum
        (left-Goes cross some)
        (subst (λ x. Hears old (x ∷ []) mid) is hears) walked

-- ---- ends of runs

-- What a walk of as many steps as were asked for comes to, or of as many as the clock has room for, and what a watch
-- has heard of it.
pub record IsToldRun (way : Direction) (k : Circuit) (c d : Config) (e made : ℕ) (old new : Option (List Place)) : Type
    0 where
  pub ran : IsLongestRun way k e made c d
  pub told : Hears old (places_along way k e c) new

pub walk-IsToldRun : (k : Circuit) → IsCircuit k → (c d : Config) (e count made : ℕ) (old new : Option (List Place))
    → HasWalked k c d made old new
    → c.steps ≤ clock
    → made ≤ count → count ≡ min e (clock - c.steps) → d.steps ≡ c.steps + made → (made < count → IsStuck k d)
    → IsToldRun Forward k c d e made old new
walk-IsToldRun k circuit c d e count made old new walked in_time within least counted stuck =
    record {
      ran = record {
        bound = below;
        made = walked.reaches;
        ended = ended;
        ends = sym (run_stops k made e c d walked.reaches below ended);
        undone = Reaches-back k circuit made c d walked.reaches;
        good = walked.good;
      };
      told = walk_ends k c d made e old new walked below ended;
    }
  where
    below : made ≤ e
    below = omega arith

    cases : (made < count) ⊎ (count ≤ made)
    cases = grind (arith, nat_tests)

    ended : made < e → IsStuck k d
    ended fewer =
        elim cases [
          | inl some ↦ stuck some
          | inr all ↦ (λ f goes. let in_time = goes.in_time in absurd (omega arith))
        ]

pub walk_back-IsToldRun : (k : Circuit) → IsCircuit k → (c d : Config) (e count made : ℕ)
    (old new : Option (List Place)) → HasWalkedBack k c d made old new
    → made ≤ count → count ≡ min e c.steps → c.steps ≡ d.steps + made → (made < count → IsFirst k d)
    → IsToldRun Backward k c d e made old new
walk_back-IsToldRun k circuit c d e count made old new walked within least counted first =
    record {
      ran = record {
        bound = below;
        made = walked.reaches;
        ended = ended;
        ends = sym (back_stops k circuit made e d c walked.good walked.reaches below ended);
        undone = Reaches-run k made d c walked.reaches;
        good = walked.good;
      };
      told = walk_back_ends k circuit c d made e old new walked below ended;
    }
  where
    below : made ≤ e
    below = omega arith

    cases : (made < count) ⊎ (count ≤ made)
    cases = grind (arith, nat_tests)

    ended : made < e → IsFirst k d
    ended fewer =
        elim cases [
          | inl some ↦ first some
          | inr all ↦ first_by_steps k circuit d (omega arith)
        ]

-- ---- a run of at most one step

one_step : (k : Circuit) (n : ℕ) (c d : Config) → n ≡ 1 → Reaches (Goes k) n c d → Goes k c d
one_step k zero c d one path = absurd (omega arith)
one_step k (suc zero) c d one path = subst (λ x. Goes k c x) path.2 path.1
one_step k (suc (suc n)) c d one path = absurd (omega arith)

no_step : (k : Circuit) (n : ℕ) (c d : Config) → n ≡ 0 → Reaches (Goes k) n c d → c ≡ d
no_step k zero c d none path = path
no_step k (suc n) c d none path = absurd (omega arith)

one_along : (way : Direction) (k : Circuit) (n : ℕ) (c d : Config) → n ≡ 1 → LeadsTo way k n c d → GoesTo way k c d
one_along Forward k n c d one path = one_step k n c d one path
one_along Backward k n c d one path = one_step k n d c one path

none_along : (way : Direction) (k : Circuit) (n : ℕ) (c d : Config) → n ≡ 0 → LeadsTo way k n c d → d ≡ c
none_along Forward k n c d none path = sym (no_step k n c d none path)
none_along Backward k n c d none path = no_step k n d c none path

-- whether it made one
module _ (way : Direction) (k : Circuit) (n : ℕ) (c d : Config) (ran : IsLongestRun way k 1 n c d) where
  stayed : n ≢ 1 → d ≡ c
  stayed other = let few = ran.bound in none_along way k n c d (omega arith) ran.made

  pub made_one : OnTrue (n == 1) (GoesTo way k c d)
  made_one =
      elim (eqb_tells n 1) [
        | inl one ↦ rw one.0 (one_along way k n c d one.1 ran.made)
        | inr other ↦ rw other.0 tt
      ]

  pub kept_none : OnFalse (n == 1) (d ≡ c)
  kept_none =
      elim (eqb_tells n 1) [
        | inl one ↦ rw one.0 tt
        | inr other ↦ rw other.0 (stayed other.1)
      ]

  pub ended_none : OnFalse (n == 1) (IsAtEnd way k c)
  ended_none =
      elim (eqb_tells n 1) [
        | inl one ↦ rw one.0 tt
        | inr other ↦ rw other.0 (subst (IsAtEnd way k) (stayed other.1)
            (ran.ended (let few = ran.bound in let apart = other.1 in omega arith)))
      ]

-- no step yet
pub walked_none : (k : Circuit) (bars : List ℕ) (from to : Place) (n m made : ℕ) (told : Option (List Place))
    → IsConfig k (config_at bars from n) → from ≡ to
    → n ≡ m
    → 0 ≡ made → HasWalked k (config_at bars from n) (config_at bars to m) made told told
walked_none k bars from to n m made told good here same none =
    subst (λ x. HasWalked k (config_at bars from n) (config_at bars to m) x told told) none
    (subst (λ x. HasWalked k (config_at bars from n) (config_at bars to x) 0 told told) same
    (subst (λ x. HasWalked k (config_at bars from n) (config_at bars x n) 0 told told) here
    (walk_starts k (config_at bars from n) told good)))

pub way_none : (k : Circuit) (stops : Line → Bool) (bars : List ℕ) (from to : Place) (n m made : ℕ)
    (told : Option (List Place)) → IsConfig k (config_at bars from n) → from ≡ to
    → n ≡ m
    → 0 ≡ made → IsOnWay k stops (config_at bars from n) (config_at bars to m) made told told
way_none k stops bars from to n m made told good here same none = record {
  walked = walked_none k bars from to n m made told good here same none;
  between = subst (λ x. PassesBy k stops x (config_at bars from n) (config_at bars to m)) none
      (λ i. config_at bars (here i) (same i));
}

pub walked_back_none : (k : Circuit) (bars : List ℕ) (from : Place) (n m made : ℕ) (told : Option (List Place))
    → IsConfig k (config_at bars from n) → n ≡ m
    → 0 ≡ made → HasWalkedBack k (config_at bars from n) (config_at bars from m) made told told
walked_back_none k bars from n m made told good same none =
    subst (λ x. HasWalkedBack k (config_at bars from n) (config_at bars from m) x told told) none
    (subst (λ x. HasWalkedBack k (config_at bars from n) (config_at bars from x) 0 told told) same
    (walk_back_starts k (config_at bars from n) told good))

-- what the walk in a packed netlist comes to
pub packed-IsToldRun : (now : PackedNet) (wiring : Parts Rotary) (bars after : List ℕ) (from to : Place)
    (n m e count : ℕ) (old new : Option (List Place))
    → record { net = wiring; config = config_at bars from n } ≡ now → IsCircuit (rotary_circuit wiring) → n ≤ clock
    → count ≡ min e (clock - n) → n ≤ m
    → m ≤ n + count
    → HasWalked (rotary_circuit wiring) (config_at bars from n) (config_at after to m) (m - n) old new
    → (m < n + count → IsStuck (rotary_circuit wiring) (config_at after to m))
    → IsToldRun Forward (rotary_circuit now.net) now.config (config_at after to m) e (m - n) old new
packed-IsToldRun now wiring bars after from to n m e count old new is circuit in_time least forward limit walked stuck =
    subst (λ (p : PackedNet). IsToldRun Forward (rotary_circuit p.net) p.config (config_at after to m) e (m - n) old
    new) is
    (walk-IsToldRun (rotary_circuit wiring) circuit (config_at bars from n) (config_at after to m) e count (m - n) old
    new walked in_time (omega arith) least
    (omega arith) (λ fewer. stuck (omega arith)))

pub packed_back-IsToldRun : (now : PackedNet) (wiring : Parts Rotary) (bars after : List ℕ) (from to : Place)
    (n m e count : ℕ) (old new : Option (List Place))
    → record { net = wiring; config = config_at bars from n } ≡ now → IsCircuit (rotary_circuit wiring)
    → count ≡ min e n → m ≤ n → n ≤ m + count
    → HasWalkedBack (rotary_circuit wiring) (config_at bars from n) (config_at after to m) (n - m) old new
    → (n < m + count → IsFirst (rotary_circuit wiring) (config_at after to m))
    → IsToldRun Backward (rotary_circuit now.net) now.config (config_at after to m) e (n - m) old new
packed_back-IsToldRun now wiring bars after from to n m e count old new is circuit least backward limit walked first =
    subst (λ (p : PackedNet). IsToldRun Backward (rotary_circuit p.net) p.config (config_at after to m) e (n - m) old
    new) is
    (walk_back-IsToldRun (rotary_circuit wiring) circuit (config_at bars from n) (config_at after to m) e count (n - m)
    old new walked (omega arith) least
    (omega arith) (λ fewer. first (omega arith)))

-- ---- what is packed

pub two_states : (elements : List Rotary) (e : ℕ) → e < length (map {B = Table} (λ _. rotary) elements)
    → states_of (map (λ _. rotary) elements) e ≡ 2
two_states [] e low = absurd (omega arith)
two_states (x ∷ elements) zero low = refl
two_states (x ∷ elements) (suc e) low = two_states elements e (omega arith)

pub config-AreBars : (net : Parts Rotary) (c : Config) (states : List ℕ) → IsConfig (rotary_circuit net) c
    → states ≡ c.states → AreBars states
config-AreBars net c states config is e q has =
    let there : slice_get c.states e ≡ Some q = subst (λ xs. slice_get xs e ≡ Some q) is has in
    let low : e < length (map {B = Table} (λ _. rotary) net.elements) =
    subst (λ n. e < n) config.count (slice_get_within c.states e q there) in
    subst (λ n. q < n) (two_states net.elements e low) (config.range e q there)

pub packed-IsConfig : (net wiring : Parts Rotary) (c : Config) (bars states : List ℕ) → IsConfig (rotary_circuit net) c
    → wiring ≡ net → bars ≡ states
    → states ≡ c.states
    → IsConfig (rotary_circuit wiring) (config_at bars c.place c.steps)
packed-IsConfig net wiring c bars states config same packed is =
    subst (λ n. IsConfig (rotary_circuit n) (config_at bars c.place c.steps)) (sym same)
    (subst (λ xs. IsConfig (rotary_circuit net) (config_at xs c.place c.steps)) (sym (packed ∙ is)) config)

-- ---- runs that stop on their way

-- no line is one where no run stops
pub no_stop : (p : Place) → stops_at (λ l. false) p ≡ true → ⊥
no_stop (Enter e l) h = cc
no_stop (Left e l) h = cc

-- what such a walk in a packed netlist comes to
module _ (now : PackedNet) (wiring : Parts Rotary) (stops : Line → Bool) (bars after : List ℕ) (from to : Place)
    (n m e room count : ℕ)
    (in_time : n ≤ clock) (room_is : room ≡ clock - n) (least : count ≡ min room e) (forward : n ≤ m)
    (limit : m ≤ n + count) where
  -- it made all steps that were asked for, or it ended early for a reason
  until_ended : (k : Circuit) (d : Config) (Reason : Type 0) → d.steps ≡ m → (m < n + count → IsStuck k d ⊎ Reason)
      → m - n < e → IsStuck k d ⊎ Reason
  until_ended k d Reason steps early fewer =
      elim cases [
        | inl some ↦ early some
        | inr all ↦ inl (λ f goes. let late = goes.in_time in absurd (omega arith))
      ]
    where
      cases : (m < n + count) ⊎ (n + count ≤ m)
      cases = grind (arith, nat_tests)

  -- where a step was asked for it made one, or none can be made
  until_moves : (k : Circuit) (c : Config) → c.steps ≡ n → (0 < count → (n < m) ⊎ IsStuck k c) → 0 < e
      → (0 < m - n) ⊎ IsStuck k c
  until_moves k c steps moves some =
      elim cases [
        | inl none ↦ inr (λ f goes. let late = goes.in_time in absurd (omega arith))
        | inr more ↦ elim (moves more) [ inl made ↦ inl (omega arith) | inr stuck ↦ inr stuck ]
      ]
    where
      cases : (count ≡ 0) ⊎ (0 < count)
      cases = grind (arith, nat_tests)

  pub packed-IsStoppedRun : (old new : Option (List Place)) → record { net = wiring; config = config_at bars from n }
      ≡ now
      → HasWalked (rotary_circuit wiring) (config_at bars from n) (config_at after to m) (m - n) old new
      → PassesBy (rotary_circuit wiring) stops (m - n) (config_at bars from n) (config_at after to m)
      → (m < n + count → IsStuck (rotary_circuit wiring) (config_at after to m) ⊎ (stops_at stops to ≡ true))
      → (0 < count → (n < m) ⊎ IsStuck (rotary_circuit wiring) (config_at bars from n))
      → IsStoppedRun (rotary_circuit now.net) stops e (m - n) now.config (config_at after to m)
  packed-IsStoppedRun old new is walked between ended moves =
      let at_wiring : IsStoppedRun (rotary_circuit wiring) stops e (m - n) (config_at bars from n)
      (config_at after to m) = record {
        bound = omega arith;
        made = walked.reaches;
        between = between;
        ended = until_ended (rotary_circuit wiring) (config_at after to m) (stops_at stops to ≡ true) refl ended;
        moves = until_moves (rotary_circuit wiring) (config_at bars from n) refl moves;
        good = walked.good;
      } in
      subst (λ (p : PackedNet). IsStoppedRun (rotary_circuit p.net) stops e (m - n) p.config (config_at after to m)) is
      at_wiring
