-- A step forward and backward, from what the code has read and written.
use Rattle.std.specs.Prelude.{◌≡◌, ℕ, ◌+◌, ◌-◌, ◌<◌, ◌≤◌, length, Some, None, slice_get, slice_set, refl}
use Rattle.std.proofs.Common.{zero, suc, arith, sym, ap, subst, ◌∙◌}
use Rattle.bn_circuits.specs.Circuits.{Circuit, IsCircuit, IsConfig, IsPlace, IsOutputOf, Goes, IsFirst, go_of, back_of}
use Rattle.bn_circuits.specs.Circuits.{place_after, clock}
use Rattle.bn_circuits.specs.Stepping.{line_before, previous_by, retreat, back}
use Rattle.bn_circuits.proofs.RunLemmas.{back-zero, back-first, back_composes}
use Rattle.bn_circuits.proofs.StepLemmas.{parts-Goes, Goes-Came}
use Rattle.bn_circuits.specs.declared.line.Line.{Line}
use Rattle.bn_circuits.specs.declared.place.Place.TheVariants.{Enter}
use Rattle.bn_circuits.specs.declared.config.Config.{Config}
use Rattle.bn_circuits.proofs.WireLemmas.{input-within, output-within}

-- the element that the signal enters has a state
pub enter-within : (k : Circuit) (c : Config) (e i : ℕ) → IsConfig k c → c.place ≡ Enter e i → e < length c.states
enter-within k c e i config at =
    let place : IsPlace k (Enter e i) = subst (IsPlace k) at config.place in
    let within : e < length k.tables = input-within k.tables e i place in
    omega (arith, config.count)

-- so has the element that the signal came from
pub output-state : (k : Circuit) (c : Config) (from : Line) → IsConfig k c → IsOutputOf k.tables from
    → from.element < length c.states
output-state k c from config output =
    let within : from.element < length k.tables = output-within k.tables from.element from.line output in
    omega (arith, config.count)

pub step-Goes : (k : Circuit) (c d : Config) (e i q r o : ℕ) → c.place ≡ Enter e i → slice_get c.states e ≡ Some q
    → Some (r, o) ≡ go_of k.tables e q i → d.states ≡ slice_set c.states e r
    → d.place ≡ place_after k.wires (record { element = e; line = o }) → d.steps ≡ c.steps + 1 → c.steps + 1 ≤ clock
    → Goes k c d
step-Goes k c d e i q r o at has moves states place steps in_time =
    record {
      crosses = record {
        element = e;
        input = i;
        output = o;
        before = q;
        after = r;
        enters = at;
        has_state = has;
        moves = sym moves;
        states = states;
        place = place;
      };
      steps = steps;
      in_time = in_time;
    }

pub back-Goes : (k : Circuit) → IsCircuit k → (c d : Config) → IsConfig k d → (from : Line) (r q i : ℕ)
    → line_before k.wires d.place ≡ Some from → slice_get d.states from.element ≡ Some r
    → back_of k.tables from.element r from.line ≡ Some (q, i) → c
    ≡ record { states = slice_set d.states from.element q; place = Enter from.element i; steps = d.steps - 1 }
    → (d.steps ≡ 0 → ⊥) → Goes k c d
back-Goes k circuit c d config from r q i came has moves c_is some =
    let counted : d.steps ≡ suc (d.steps - 1) = grind arith in
    subst (λ x. Goes k x d) (sym c_is) (parts-Goes k circuit d config (d.steps - 1) counted from r q i came has moves)

-- no step led here: no step is counted
pub first_by_steps : (k : Circuit) → IsCircuit k → (d : Config) → d.steps ≡ 0 → IsFirst k d
first_by_steps k circuit d zero_steps c g = let came = Goes-Came k circuit c d g in let counted : d.steps
    ≡ suc c.steps = came.counted in absurd (omega arith)

-- no step led here: no output line leads to the place
pub first_by_line : (k : Circuit) → IsCircuit k → (d : Config) → line_before k.wires d.place ≡ None → IsFirst k d
first_by_line k circuit d none c g = let came = Goes-Came k circuit c d g in let line = came.came in cc

-- no step led here: no move leads to the state and the line
pub first_by_move : (k : Circuit) → IsCircuit k → (d : Config) → (from : Line) (r : ℕ)
    → line_before k.wires d.place ≡ Some from → slice_get d.states from.element ≡ Some r
    → None ≡ back_of k.tables from.element r from.line → IsFirst k d
first_by_move k circuit d from r at has none c g =
    let came = Goes-Came k circuit c d g in
    let line : line_before k.wires d.place ≡ Some came.from = came.came in
    let same : from ≡ came.from = cc in
    let has' : slice_get d.states came.from.element ≡ Some r =
    subst (λ l. slice_get d.states l.element ≡ Some r) same has in
    let known : slice_get d.states came.from.element ≡ Some came.after = came.has_state in
    let state : r ≡ came.after = cc in
    let none' : back_of k.tables came.from.element came.after came.from.line ≡ None =
    subst (λ x. back_of k.tables came.from.element x came.from.line ≡ None) state
    (subst (λ l. back_of k.tables l.element r l.line ≡ None) same (sym none)) in
    let moves : back_of k.tables came.from.element came.after came.from.line ≡ Some (came.before, came.input) =
    came.moves in
    cc

-- one step back, by the function
back_once : (k : Circuit) (d : Config) → back k d 1 ≡ retreat k d
unfolding back
back_once k d = refl

-- where no step is counted, a step back stays there
pub stays_by_steps : (k : Circuit) (d : Config) → d.steps ≡ 0 → d ≡ back k d 1
stays_by_steps k d zero_steps =
    let none : previous_by k d d.steps ≡ None = ap (previous_by k d) zero_steps in
    sym (back_once k d ∙ rw none refl)

-- so it does where no step led
pub stays_by_first : (k : Circuit) → IsCircuit k → (d : Config) → IsConfig k d → IsFirst k d → d ≡ back k d 1
stays_by_first k circuit d config first = sym (back-first k circuit d config first 1)

-- and where it does, so do more
back_stays : (k : Circuit) (d : Config) → d ≡ back k d 1 → (t : ℕ) → d ≡ back k d t
back_stays k d stays zero = sym (back-zero k d)
back_stays k d stays (suc t) =
    back_stays k d stays t ∙ ap (λ x. back k x t) stays ∙ sym (back_composes k d 1 t (suc t) (omega arith))

-- a run back that comes to such a place is there after each greater number of steps
pub back_rests : (k : Circuit) (c d : Config) (n t : ℕ) → d ≡ back k c n → d ≡ back k d 1 → n ≤ t → d ≡ back k c t
back_rests k c d n t came stays within =
    let sum : t ≡ n + (t - n) = omega arith in
    back_stays k d stays (t - n) ∙ ap (λ x. back k x (t - n)) came ∙ sym (back_composes k c n (t - n) t sum)
