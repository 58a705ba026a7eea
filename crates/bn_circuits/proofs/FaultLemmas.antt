-- Faults of wires, one after another.
use Rattle.std.specs.Prelude.{◌≡◌, ℕ, ◌+◌, ◌-◌, ◌<◌, ◌≤◌, List, [], ◌∷◌, ◌++◌, length, take, Option, Some, None, Ok}
use Rattle.std.specs.Prelude.{Err, slice_get, if◌then◌else◌, refl, ◌⊎◌}
use Rattle.std.proofs.Common.{arith, sym, ap, subst, ◌∙◌, get_or, inl, inr}
use Rattle.std.proofs.lemmas.List.{take_more, take_all}
use Rattle.std.proofs.lemmas.Option.{slice_get-get_or}
use Rattle.std.proofs.lemmas.Bool.Decides.{nat_tests}
use Rattle.bn_element.specs.Tables.{Table}
use Rattle.bn_circuits.specs.Circuits.{target, source, same_line}
use Rattle.bn_circuits.specs.declared.line.Line.{Line}
use Rattle.bn_circuits.specs.declared.line.Wire.{Wire}
use Rattle.bn_circuits.specs.Faults.{WireFault, out_of_range, second_target, second_source, fault_of, checked}
use Rattle.bn_circuits.specs.Faults.{IsFaultless}
use Rattle.bn_circuits.specs.Faults.{AreFaultless, IsFirstFault, IsRefusal}
use Rattle.bn_circuits.specs.declared.refusal.NetRefusal.{NetRefusal}
use Rattle.bn_circuits.specs.declared.refusal.NetRefusal.TheVariants.{Range, TwoTargets, TwoSources}
use Rattle.bn_circuits.proofs.WireListLemmas.{target-push, source-push}
use Rattle.bn_circuits.proofs.WireLemmas.{free_of}

-- The net has the wires of the list up to place n, and none of these has a fault.
pub record IsBuilt (tables : List Table) (wires built : List Wire) (n : ℕ) : Type 0 where
  pub targets : (from : Line) → target built from ≡ target (take n wires) from
  pub sources : (to : Line) → source built to ≡ source (take n wires) to
  pub faultless : (j : ℕ) → j < n → IsFaultless tables wires j

pub nothing_built : (tables : List Table) (wires built : List Wire) → built ≡ [] → IsBuilt tables wires built 0
nothing_built tables wires built is =
    record {
      targets = λ from. ap (λ ws. target ws from) is;
      sources = λ to. ap (λ ws. source ws to) is;
      faultless = λ j h. absurd (omega arith);
    }

-- the test against the net is the test against the list
pub fault-built : (tables : List Table) (wires built : List Wire) (n : ℕ) (w : Wire) → IsBuilt tables wires built n
    → fault_of tables built w ≡ fault_of tables (take n wires) w
fault-built tables wires built n w is = let t = is.targets w.from in let s = is.sources w.to in rw (t, s) refl

pub checked-Ok : (o : Option WireFault) (i : ℕ) (u : Unit {0}) → checked o i ≡ Ok u → o ≡ None
checked-Ok None i u h = refl
checked-Ok (Some out_of_range) i u h = absurd (cc)
checked-Ok (Some second_target) i u h = absurd (cc)
checked-Ok (Some second_source) i u h = absurd (cc)

-- the next wire of a list without a fault has none against the net
pub next_faultless : (tables : List Table) (wires built : List Wire) (n : ℕ) (w : Wire) → IsBuilt tables wires built n
    → n < length wires → slice_get wires n ≡ Some w → AreFaultless tables wires → fault_of tables built w ≡ None
next_faultless tables wires built n w is within has all = fault-built tables wires built n w is ∙ all n within w has

-- one wire more
pub more_built : (tables : List Table) (wires built after : List Wire) (n : ℕ) (w : Wire) → IsBuilt tables wires built n
    → n < length wires → slice_get wires n ≡ Some w → fault_of tables built w ≡ None
    → ((from : Line) → target after from ≡ (if same_line w.from from then Some w.to else target built from))
    → ((to : Line) → source after to ≡ (if same_line w.to to then Some w.from else source built to))
    → IsBuilt tables wires after (n + 1)
more_built tables wires built after n w is within has none targets sources =
    let here : fault_of tables (take n wires) w ≡ None = sym (fault-built tables wires built n w is) ∙ none in
    let free = free_of tables (take n wires) w here in
    let is_w : get_or wires n w ≡ w = let read = slice_get-get_or wires n w within in cc in
    let more : take (n + 1) wires ≡ take n wires ++ w ∷ [] = take_more wires n w within
    ∙ ap (λ x. take n wires ++ x ∷ []) is_w in
    record {
      targets = λ from. targets from ∙ ap (λ o. if same_line w.from from then Some w.to else o) (is.targets from)
          ∙ sym (target-push (take n wires) w from free.no_target) ∙ ap (λ ws. target ws from) (sym more);
      sources = λ to. sources to ∙ ap (λ o. if same_line w.to to then Some w.from else o) (is.sources to)
          ∙ sym (source-push (take n wires) w to free.no_source) ∙ ap (λ ws. source ws to) (sym more);
      faultless = λ j h v has_v. before_or_here j v (cases j h) has_v;
    }
  where
    cases : (j : ℕ) → j < n + 1 → (j < n) ⊎ (j ≡ n)
    cases j h = grind (arith, nat_tests)

    before_or_here : (j : ℕ) (v : Wire) → (j < n) ⊎ (j ≡ n) → slice_get wires j ≡ Some v
        → fault_of tables (take j wires) v ≡ None
    before_or_here j v (inl h) has_v = is.faultless j h v has_v
    before_or_here j v (inr e) has_v =
        let here : fault_of tables (take n wires) w ≡ None = sym (fault-built tables wires built n w is) ∙ none in
        let at_n : slice_get wires n ≡ Some v = subst (λ x. slice_get wires x ≡ Some v) e has_v in
        let same : w ≡ v = cc in
        subst (λ x. fault_of tables (take x wires) v ≡ None) (sym e)
        (subst (λ x. fault_of tables (take n wires) x ≡ None) same here)

-- once every wire is built, the net has the list's wires
pub built_targets : {tables : List Table} {wires built : List Wire} {n : ℕ} → IsBuilt tables wires built n
    → length wires ≤ n → (from : Line) → target built from ≡ target wires from
built_targets {wires = wires} {n = n} is past from = is.targets from ∙ ap (λ ws. target ws from) (take_all n wires past)

pub built_sources : {tables : List Table} {wires built : List Wire} {n : ℕ} → IsBuilt tables wires built n
    → length wires ≤ n → (to : Line) → source built to ≡ source wires to
built_sources {wires = wires} {n = n} is past to = is.sources to ∙ ap (λ ws. source ws to) (take_all n wires past)

-- a fault that the test finds is the first of the list
pub refused_at : (tables : List Table) (wires built : List Wire) (n : ℕ) (w : Wire) → IsBuilt tables wires built n
    → slice_get wires n ≡ Some w → (refusal : NetRefusal) → checked (fault_of tables built w) (n + 1) ≡ Err refusal
    → IsRefusal tables wires refusal
refused_at tables wires built n w is has refusal h = by_fault (fault_of tables built w) refl h
  where
    first : (fault : WireFault) → fault_of tables built w ≡ Some fault → IsFirstFault tables wires (n + 1) fault
    first fault found =
        let e : (n + 1) - 1 ≡ n = omega arith in
        record {
          wire = w;
          counted = omega arith;
          has_wire = rw e has;
          here = rw e (sym (fault-built tables wires built n w is) ∙ found);
          before = λ j below. is.faultless j (omega arith);
        }

    by_fault : (o : Option WireFault) → fault_of tables built w ≡ o → checked o (n + 1) ≡ Err refusal
        → IsRefusal tables wires refusal
    by_fault None found h = absurd (cc)
    by_fault (Some out_of_range) found h = let same : Range (n + 1) ≡ refusal =
        cc in subst (IsRefusal tables wires) same (first out_of_range found)
    by_fault (Some second_target) found h = let same : TwoTargets (n + 1) ≡ refusal =
        cc in subst (IsRefusal tables wires) same (first second_target found)
    by_fault (Some second_source) found h = let same : TwoSources (n + 1) ≡ refusal =
        cc in subst (IsRefusal tables wires) same (first second_source found)
