-- What nets of rotary elements keep: their tables and their configurations.
use Rattle.std.specs.Prelude.{◌≡◌, slice_set, ℕ, ◌<◌, ◌≤◌, List, [], ◌∷◌, length, map, replicate, Some, slice_get, refl}
use Rattle.std.proofs.Common.{zero, suc, arith, sym, ap, subst, ◌∙◌}
use Rattle.std.proofs.lemmas.Option.{slice_get_within}
use Rattle.bn_element.specs.Tables.{Table}
use Rattle.bn_circuits.specs.Circuits.{clock, IsPlace, IsConfig}
use Rattle.bn_circuits.specs.declared.config.Config.{Config}
use Rattle.bn_element.specs.Rotary.{rotary}
use Rattle.bn_element.specs.declared.rotary.Rotary.{Rotary}
use Rattle.bn_circuits.specs.Parts.{Parts}
use Rattle.bn_circuits.specs.RotaryNets.{rotary_circuit}

-- the tables of a net of rotary elements
pub rotary-tables : {X : Type 0} (xs : List X) → map (λ _. rotary) xs ≡ replicate (length xs) rotary
rotary-tables [] = refl
rotary-tables (x ∷ xs) = ap (λ (ts : List Table). rotary ∷ ts) (rotary-tables xs)

pub rotary-table_at : {X : Type 0} (xs : List X) (e : ℕ) → e < length xs
    → slice_get (map (λ _. rotary) xs) e ≡ Some rotary
rotary-table_at [] e within = absurd (omega arith)
rotary-table_at (x ∷ xs) zero within = refl
rotary-table_at (x ∷ xs) (suc e) within = rotary-table_at xs e (omega arith)

pub length-tables : {X : Type 0} (xs : List X) → length (map (λ _. rotary) xs) ≡ length xs
length-tables [] = refl
length-tables (x ∷ xs) = ap suc (length-tables xs)

-- bars that are horizontal or vertical, one an element, make a configuration
pub bars-IsConfig : (net : Parts Rotary) (c : Config) → length c.states ≡ length net.elements
    → ((e q : ℕ) → slice_get c.states e ≡ Some q → q < 2) → IsPlace (rotary_circuit net) c.place → c.steps ≤ clock
    → IsConfig (rotary_circuit net) c
bars-IsConfig net c count bars place in_time =
    record {
      count = count ∙ sym (length-tables net.elements);
      range = λ e q has.
          let within : e < length net.elements = subst (λ n. e < n) count (slice_get_within c.states e q has) in
          let table = rotary-table_at net.elements e within in
          rw table (bars e q has);
      place = place;
      in_time = in_time;
    }

-- a value written where it stands already changes nothing
pub set_same : (s : List ℕ) (e v : ℕ) → slice_get s e ≡ Some v → slice_set s e v ≡ s
set_same [] e v h = refl
set_same (x ∷ s) zero v h = ap (λ y. y ∷ s) (cc)
set_same (x ∷ s) (suc e) v h = ap (λ t. x ∷ t) (set_same s e v h)
