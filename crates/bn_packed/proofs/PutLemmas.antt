-- A bar that is given a state.
use Rattle.std.specs.Prelude.{◌≡◌, ◌≢◌, ℕ, ◌-◌, ◌<◌, List, [], ◌∷◌, length, Some, slice_get, slice_set, refl}
use Rattle.std.proofs.Common.{zero, suc, arith, sym, ap, subst, ◌∙◌}
use Rattle.bn_element.specs.declared.rotary.Rotary.{Rotary}
use Rattle.bn_circuits.specs.Circuits.{IsConfig, states_of}
use Rattle.bn_circuits.specs.declared.config.Config.{Config}
use Rattle.bn_circuits.proofs.StepLemmas.{slice_get-set_same, slice_get-set_other}
use Rattle.std.proofs.lemmas.List.{length-set}
use Rattle.std.proofs.lemmas.Bool.Decides.{eqb_tells}
use Rattle.std.proofs.Common.{inl, inr}
use Rattle.bn_circuits.specs.Parts.{Parts}
use Rattle.bn_circuits.specs.RotaryNets.{rotary_circuit}
use Rattle.bn_packed.specs.Bars.{turned}
use Rattle.bn_packed.specs.PackedNets.{IsPacked, config_at}
use Rattle.bn_packed.proofs.StepLemmas.{two_states}

-- it has it already
pub put_same : (bars : List ℕ) (e state : ℕ) → slice_get bars e ≡ Some state → bars ≡ slice_set bars e state
put_same [] e state h = refl
put_same (x ∷ bars) zero state h = let same : x ≡ state = cc in ap (λ y. y ∷ bars) same
put_same (x ∷ bars) (suc e) state h = ap (λ ys. x ∷ ys) (put_same bars e state h)

-- it is turned
pub put_turned : (bars after : List ℕ) (e q state : ℕ) → turned bars e ≡ Some after → slice_get bars e ≡ Some q → q < 2
    → state < 2 → q ≢ state
    → after ≡ slice_set bars e state
put_turned bars after e q state is has low within apart =
    let other : 1 - q ≡ state = by_numbers q state low within apart in
    let whole : turned bars e ≡ Some (slice_set bars e (1 - q)) = rw has refl in
    let same : after ≡ slice_set bars e (1 - q) = cc in
    same ∙ ap (slice_set bars e) other
  where
    by_numbers : (a b : ℕ) → a < 2 → b < 2 → a ≢ b → 1 - a ≡ b
    by_numbers zero zero low within apart = absurd (apart refl)
    by_numbers zero (suc b) low within apart = omega arith
    by_numbers (suc a) zero low within apart = omega arith
    by_numbers (suc a) (suc b) low within apart = absurd (apart (omega arith))

-- a configuration with another state of one bar is one
pub put-IsConfig : (net : Parts Rotary) (c : Config) (e state : ℕ) → IsConfig (rotary_circuit net) c
    → e < length c.states → state < 2
    → IsConfig (rotary_circuit net) (config_at (slice_set c.states e state) c.place c.steps)
put-IsConfig net c e state good low within = record {
  count = length-set c.states e state ∙ good.count;
  range = λ x q h. elim (eqb_tells x e) [
    | inl same ↦
        (let there : slice_get (slice_set c.states e state) e ≡ Some q =
        subst (λ y. slice_get (slice_set c.states e state) y ≡ Some q) same.1 h in
        let put = slice_get-set_same c.states e state low in
        let is : q ≡ state = cc in
        let count = good.count in
        let two = two_states net.elements e (omega arith) in
        subst (λ y. q < states_of (rotary_circuit net).tables y) (sym same.1) (omega arith))
    | inr apart ↦ good.range x q (sym (slice_get-set_other c.states e x state apart.1) ∙ h)
  ];
  place = good.place;
  in_time = good.in_time;
}

-- and a packed netlist keeps so what it keeps
pub put-IsPacked : (net : Parts Rotary) (c : Config) (e state : ℕ) → IsPacked net c → e < length c.states → state < 2
    → IsPacked net (config_at (slice_set c.states e state) c.place c.steps)
put-IsPacked net c e state kept low within =
    record { circuit = kept.circuit; good = put-IsConfig net c e state kept.good low within }
