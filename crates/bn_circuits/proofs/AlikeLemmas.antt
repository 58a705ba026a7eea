-- Circuits with the same tables and the same wires, listed in whatever order, run alike.
use Rattle.std.specs.Prelude.{◌≡◌, ℕ, List, ◌∷◌, Option, Some, None, slice_get, unwrap_or, option_and_then, slice_set}
use Rattle.std.specs.Prelude.{refl}
use Rattle.std.proofs.Common.{zero, suc, sym, ap, ◌∙◌}
use Rattle.bn_element.specs.Tables.{Table}
use Rattle.bn_circuits.specs.Circuits.{Circuit, IsOneToOne, target, source, go_of, back_of, place_at}
use Rattle.bn_circuits.specs.Situations.{situation, crossed, turn_from}
use Rattle.bn_circuits.specs.Stepping.{next, next_by, moved_back, previous, previous_by, line_before, run, back, placed}
use Rattle.bn_circuits.specs.Stepping.{places, places_back}
use Rattle.bn_circuits.specs.declared.line.Line.{Line}
use Rattle.bn_circuits.specs.declared.line.Wire.{Wire}
use Rattle.bn_circuits.specs.declared.place.Place.{Place}
use Rattle.bn_circuits.specs.declared.place.Place.TheVariants.{Enter, Left}
use Rattle.bn_circuits.specs.declared.config.Config.{Config}
use Rattle.bn_circuits.specs.Alike.{AreAlike, AlikeRunAlike}

-- options with the same entry are one
pub options_one : {X : Type 0} (o x : Option X) → ((y : X) → o ≡ Some y → x ≡ Some y)
    → ((y : X) → x ≡ Some y → o ≡ Some y) → o ≡ x
options_one None None h k = refl
options_one None (Some y) h k = k y refl
options_one (Some y) x h k = sym (h y refl)

-- wires that are one to one and have the same targets have the same sources
pub sources_one : (ws vs : List Wire) → IsOneToOne ws → IsOneToOne vs
    → ((from : Line) → target ws from ≡ target vs from) → (to : Line) → source ws to ≡ source vs to
sources_one ws vs one also same to = options_one (source ws to) (source vs to)
    (λ y h. (also y to).0 (sym (same y) ∙ (one y to).1 h)) (λ y h. (one y to).0 (same y ∙ (also y to).1 h))

module _ (k m : Circuit) (alike : AreAlike k m) where
  crossed-alike : (states : List ℕ) (e : ℕ) (r : ℕ × ℕ) → crossed k states e r ≡ crossed m states e r
  crossed-alike states e r = ap (λ (t : Option Line). situation (slice_set states e r.0)
      (place_at t (record { element = e; line = r.1 }))) (alike.targets (record { element = e; line = r.1 }))

  moves-alike : (states : List ℕ) (e : ℕ) (o : Option (ℕ × ℕ))
      → option_and_then (λ r. Some (crossed k states e r)) o ≡ option_and_then (λ r. Some (crossed m states e r)) o
  moves-alike states e None = refl
  moves-alike states e (Some r) = ap Some (crossed-alike states e r)

  states-alike : (states : List ℕ) (e i : ℕ) (o : Option ℕ) → option_and_then
      (λ q. option_and_then (λ r. Some (crossed k states e r)) (go_of k.tables e q i)) o
      ≡ option_and_then (λ q. option_and_then (λ r. Some (crossed m states e r)) (go_of m.tables e q i)) o
  states-alike states e i None = refl
  states-alike states e i (Some q) =
      ap (λ ts. option_and_then (λ r. Some (crossed k states e r)) (go_of ts e q i)) alike.tables
      ∙ moves-alike states e (go_of m.tables e q i)

  turn_from-alike : (states : List ℕ) (p : Place) → turn_from k states p ≡ turn_from m states p
  turn_from-alike states (Left e o) = refl
  turn_from-alike states (Enter e i) = states-alike states e i (slice_get states e)

  next-alike : (c : Config) → next k c ≡ next m c
  next-alike c = ap (option_and_then (next_by c.steps)) (turn_from-alike c.states c.place)

  line_before-alike : (p : Place) → line_before k.wires p ≡ line_before m.wires p
  line_before-alike (Left e o) = refl
  line_before-alike (Enter e i) = alike.sources (record { element = e; line = i })

  previous_by-alike : (d : Config) (n : ℕ) → previous_by k d n ≡ previous_by m d n
  previous_by-alike d zero = refl
  previous_by-alike d (suc n) =
      let found : List Table → Option Line → Option Config = λ ts l. option_and_then
      (λ o. option_and_then (λ r. option_and_then (λ x. Some (moved_back d n o.element x))
      (back_of ts o.element r o.line)) (slice_get d.states o.element)) l in
      ap (λ ts. found ts (line_before k.wires d.place)) alike.tables ∙ ap (found m.tables) (line_before-alike d.place)

  previous-alike : (d : Config) → previous k d ≡ previous m d
  previous-alike d = previous_by-alike d d.steps

  -- the same run forward
  pub run-alike : (c : Config) (t : ℕ) → run k c t ≡ run m c t
  unfolding run
  run-alike c zero = refl
  run-alike c (suc t) = ap (λ x. unwrap_or (next k x) x) (run-alike c t)
      ∙ ap (λ o. unwrap_or o (run m c t)) (next-alike (run m c t))

  -- the same run back
  pub back-alike : (c : Config) (t : ℕ) → back k c t ≡ back m c t
  unfolding back
  back-alike c zero = refl
  back-alike c (suc t) = ap (λ x. unwrap_or (previous k x) x) (back-alike c t)
      ∙ ap (λ o. unwrap_or o (back m c t)) (previous-alike (back m c t))

  placed-alike : (f g : Config → List Place) → ((c : Config) → f c ≡ g c) → (o : Option Config)
      → placed o f ≡ placed o g
  placed-alike f g same None = refl
  placed-alike f g same (Some d) = ap (λ ps. d.place ∷ ps) (same d)

  -- the same places on the way
  pub places-alike : (t : ℕ) (c : Config) → places k t c ≡ places m t c
  unfolding places
  places-alike zero c = refl
  places-alike (suc t) c = placed-alike (places k t) (places m t) (places-alike t) (next k c)
      ∙ ap (λ o. placed o (places m t)) (next-alike c)

  pub places_back-alike : (t : ℕ) (c : Config) → places_back k t c ≡ places_back m t c
  unfolding places_back
  places_back-alike zero c = refl
  places_back-alike (suc t) c = placed-alike (places_back k t) (places_back m t) (places_back-alike t) (previous k c)
      ∙ ap (λ o. placed o (places_back m t)) (previous-alike c)

pub alike-run : AlikeRunAlike
alike-run k m alike c t = record {
  forward = run-alike k m alike c t;
  backward = back-alike k m alike c t;
  places_forward = places-alike k m alike t c;
  places_backward = places_back-alike k m alike t c;
}
