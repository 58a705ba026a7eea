-- The tests of a column, row by row.
use Rattle.std.specs.Prelude.{◌≡◌, ◌≢◌, ℕ, ◌+◌, ◌-◌, ◌<◌, ◌&&◌, nat_lt, Bool, true, false, List, [], ◌∷◌, ◌++◌, Option}
use Rattle.std.specs.Prelude.{Some, None, slice_get, MatchOption, refl}
use Rattle.std.proofs.Common.{zero, suc, arith, sym, ap, subst, ◌∙◌, inl, inr}
use Rattle.std.proofs.lemmas.Bool.{and_from, and_left, and_right}
use Rattle.std.proofs.lemmas.Bool.Decides.{nat_tests, eqb_tells}
use Rattle.bn_circuits.specs.Circuits.{target}
use Rattle.bn_circuits.specs.declared.line.Wire.{Wire}
use Rattle.bn_element.specs.Rotary.{vertical, north, south}
use Rattle.bn_circuits.specs.Circuits.{line_at}
use Rattle.bn_netlist_laws.specs.Columns.{IsColumnAt, rotary_elements, rungs, inner_wires, leads_to, lead_all}
use Rattle.bn_netlist_laws.specs.Columns.{is_vertical, are_upright, is_loose, is_column_at, column_at}
use Rattle.bn_netlist_laws.proofs.ColumnLemmas.{columns-are-found}

and_true : (a : Bool) → (a && true) ≡ a
and_true true = refl
and_true false = refl

and_assoc : (a b c : Bool) → ((a && b) && c) ≡ (a && (b && c))
and_assoc true b c = refl
and_assoc false b c = refl

lead_all-append : (ws xs ys : List Wire) → lead_all ws (xs ++ ys) ≡ (lead_all ws xs && lead_all ws ys)
lead_all-append ws [] ys = refl
lead_all-append ws (x ∷ xs) ys =
    ap (λ (b : Bool). leads_to (target ws x.from) x.to && b) (lead_all-append ws xs ys)
    ∙ sym (and_assoc (leads_to (target ws x.from) x.to) (lead_all ws xs) (lead_all ws ys))

lead_all-more : (ws xs : List Wire) (w : Wire) → lead_all ws (xs ++ w ∷ [])
    ≡ (lead_all ws xs && leads_to (target ws w.from) w.to)
lead_all-more ws xs w = lead_all-append ws xs (w ∷ []) ∙ ap (λ (b : Bool). lead_all ws xs && b)
    (and_true (leads_to (target ws w.from) w.to))

-- whether a row leads down and up
abbrev pub rung_leads : List Wire → ℕ → Bool
rung_leads ws x =
    leads_to (target ws (line_at x 2)) (line_at (x + 1) 0) && leads_to (target ws (line_at (x + 1) 0)) (line_at x 2)

rungs-step : (ws : List Wire) (b r : ℕ) → lead_all ws (rungs b (suc r))
    ≡ (lead_all ws (rungs b r) && rung_leads ws (b + r))
rungs-step ws b r =
    let down : Wire = record { from = line_at (b + r) south; to = line_at (b + r + 1) north } in
    let up : Wire = record { from = line_at (b + r + 1) north; to = line_at (b + r) south } in
    lead_all-more ws (rungs b r ++ down ∷ []) up
    ∙ ap (λ (x : Bool). x && leads_to (target ws up.from) up.to) (lead_all-more ws (rungs b r) down)
    ∙ and_assoc (lead_all ws (rungs b r)) (leads_to (target ws down.from) down.to) (leads_to (target ws up.from) up.to)

pub rungs_more : (ws : List Wire) (b r : ℕ) (test : Bool) → lead_all ws (rungs b r) ≡ true
    → test ≡ rung_leads ws (b + r) → test ≡ true → lead_all ws (rungs b (r + 1)) ≡ true
rungs_more ws b r test before is yes_ =
    let next : suc r ≡ r + 1 = omega arith in
    subst (λ (n : ℕ). lead_all ws (rungs b n) ≡ true) next (rungs-step ws b r
    ∙ and_from (lead_all ws (rungs b r)) (rung_leads ws (b + r)) before (sym is ∙ yes_))

rungs_false-more : (ws : List Wire) (b n d : ℕ) → lead_all ws (rungs b n) ≡ false → (k : ℕ) → k ≡ n + d
    → lead_all ws (rungs b k) ≡ false
rungs_false-more ws b n zero no_ k is = let same : n ≡ k = omega arith in subst
    (λ (m : ℕ). lead_all ws (rungs b m) ≡ false) same no_
rungs_false-more ws b n (suc d) no_ zero is = absurd (omega arith)
rungs_false-more ws b n (suc d) no_ (suc k) is = rungs-step ws b k
    ∙ and_left (lead_all ws (rungs b k)) (rung_leads ws (b + k)) (rungs_false-more ws b n d no_ k (omega arith))

pub rungs_fail : (ws : List Wire) (b r k : ℕ) (test : Bool) → r < k → test ≡ rung_leads ws (b + r) → test ≡ false
    → false ≡ lead_all ws (rungs b k)
rungs_fail ws b r k test below is no_ =
    let here : lead_all ws (rungs b (suc r)) ≡ false = rungs-step ws b r
    ∙ and_right (lead_all ws (rungs b r)) (rung_leads ws (b + r)) (sym is ∙ no_) in
    sym (rungs_false-more ws b (suc r) (k - suc r) here k (omega arith))

-- ---- bars

upright_false-more : (states : List ℕ) (e n d : ℕ) → are_upright states e n ≡ false → (k : ℕ) → k ≡ n + d
    → are_upright states e k ≡ false
upright_false-more states e n zero no_ k is = let same : n ≡ k =
    omega arith in subst (λ (m : ℕ). are_upright states e m ≡ false) same no_
upright_false-more states e n (suc d) no_ zero is = absurd (omega arith)
upright_false-more states e n (suc d) no_ (suc k) is = and_left (are_upright states e k)
    (is_vertical (slice_get states (e + k))) (upright_false-more states e n d no_ k (omega arith))

pub upright_fail : (states : List ℕ) (e r k q : ℕ) → r < k → slice_get states (e + r) ≡ Some q → q ≢ 1
    → false ≡ are_upright states e k
upright_fail states e r k q below has apart =
    let here : is_vertical (slice_get states (e + r)) ≡ false = elim (eqb_tells q vertical) [
      | inl same ↦ absurd (apart same.1)
      | inr other ↦ rw has other.0
    ] in
    sym (upright_false-more states e (suc r) (k - suc r) (and_right (are_upright states e r)
    (is_vertical (slice_get states (e + r))) here) k (omega arith))

-- ---- the whole test

-- the parts of the test, as they are found
pub column_test : (count : ℕ) (ws : List Wire) (states : List ℕ) (e k : ℕ) (rungs_lead ends_lead free standing : Bool)
    → e + k < count
    → rungs_lead ≡ lead_all ws (rungs e k)
    → ends_lead ≡ ((leads_to (target ws (line_at (e + k) 2)) (line_at (e + k) 2)
    && leads_to (target ws (line_at (e + k) 3)) (line_at e 0))
    && leads_to (target ws (line_at e 0)) (line_at (e + k) 1))
    → free ≡ is_loose (target ws (line_at (e + k) 1))
    → standing ≡ are_upright states e k
    → (((rungs_lead && ends_lead) && free) && standing) ≡ is_column_at count ws states e k
column_test count ws states e k rungs_lead ends_lead free standing within r n f t =
    let inside : nat_lt (e + k) count ≡ true = grind (arith, nat_tests) in
    let under : Wire = record { from = line_at (e + k) 2; to = line_at (e + k) 2 } in
    let over : Wire = record { from = line_at (e + k) 3; to = line_at e 0 } in
    let top : Wire = record { from = line_at e 0; to = line_at (e + k) 1 } in
    let one : Bool = leads_to (target ws under.from) under.to in
    let two : Bool = leads_to (target ws over.from) over.to in
    let three : Bool = leads_to (target ws top.from) top.to in
    let list : lead_all ws (inner_wires e k) ≡ (((lead_all ws (rungs e k) && one) && two) && three) =
    lead_all-more ws ((rungs e k ++ under ∷ []) ++ over ∷ []) top
    ∙ ap (λ (b : Bool). b && three) (lead_all-more ws (rungs e k ++ under ∷ []) over)
    ∙ ap (λ (b : Bool). (b && two) && three) (lead_all-more ws (rungs e k) under)
    in
    let grouped : (((lead_all ws (rungs e k) && one) && two) && three)
    ≡ (lead_all ws (rungs e k) && ((one && two) && three)) =
    ap (λ (b : Bool). b && three) (and_assoc (lead_all ws (rungs e k)) one two)
    ∙ and_assoc (lead_all ws (rungs e k)) (one && two) three
    in
    let whole : lead_all ws (inner_wires e k) ≡ (rungs_lead && ends_lead) =
    list ∙ grouped ∙ (λ i. sym r i && sym n i) in
    (λ i. ((sym whole i) && f i) && t i)
    ∙ ap (λ (b : Bool). ((b && lead_all ws (inner_wires e k)) && is_loose (target ws (line_at (e + k) 1)))
    && are_upright states e k) (sym inside)

-- ---- the answer

pub column_answer : (count : ℕ) (ws : List Wire) (states : List ℕ) (e : ℕ) (o : Option ℕ)
    → o ≡ column_at count ws states e → MatchOption o ((k : ℕ) → IsColumnAt (rotary_elements count ws) states e k → ⊥)
    (IsColumnAt (rotary_elements count ws) states e)
column_answer count ws states e None is = λ k column. none_some k
    (is ∙ (columns-are-found count ws states e k).1 column)
  where
    none_some : (k : ℕ) → ◌≡◌ {A = Option ℕ} None (Some k) → ⊥
    none_some k e = cc
column_answer count ws states e (Some k) is = (columns-are-found count ws states e k).0 (sym is)
