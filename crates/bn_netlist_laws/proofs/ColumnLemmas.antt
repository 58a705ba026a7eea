-- Columns of a configuration: their number of rows is one, and it is found.
use Rattle.std.specs.Prelude.{◌≡◌, ℕ, ◌+◌, ◌-◌, ◌<◌, ◌&&◌, nat_lt, true, List, [], ◌∷◌, replicate, Option, Some, None}
use Rattle.std.specs.Prelude.{slice_get, refl}
use Rattle.std.proofs.Common.{zero, suc, arith, sym, ap, subst, ◌∙◌, inl, inr, ◌⊎◌}
use Rattle.std.proofs.lemmas.Bool.{cases_lt, and_parts, and_from}
use Rattle.std.proofs.lemmas.Bool.Decides.{nat_tests, eqb_tells}
use Rattle.std.proofs.lemmas.List.{length-replicate}
use Rattle.std.proofs.lemmas.Option.{same_Some, cond_some, option_and_then_some, slice_get_within}
use Rattle.bn_circuits.specs.Circuits.{target}
use Rattle.bn_circuits.specs.declared.line.Line.{Line}
use Rattle.bn_circuits.specs.declared.line.Wire.{Wire}
use Rattle.bn_element.specs.Tables.{Table}
use Rattle.bn_circuits.proofs.WireListLemmas.{line_tells}
use Rattle.bn_element.specs.Rotary.{rotary, vertical, north, east}
use Rattle.bn_column.specs.Columns.{IsInner, top}
use Rattle.bn_circuits.specs.Circuits.{line_at}
use Rattle.bn_circuits.specs.Wirings.{AreApart, AreWiresOf}
use Rattle.bn_column.proofs.LadderLemmas.{IsLadder, no_rung, ladder_more, ladder_closed}
use Rattle.bn_netlist_laws.specs.Columns.{IsColumnAt, HasColumnAt, rotary_elements, rungs, inner_wires, leads_to}
use Rattle.bn_netlist_laws.specs.Columns.{lead_all, is_vertical, are_upright, is_loose, is_column_at, rows_told}
use Rattle.bn_netlist_laws.specs.Columns.{checked_rows, column_at, RowsAgree, ColumnsAreFound}

-- the north output of the top row tells the bottom
pub rows-agree : RowsAgree
rows-agree c states b k m one other =
    let first : target c.wires (line_at b north) ≡ Some (line_at (b + k) east) =
    one.column.wired (line_at b north) (line_at (b + k) east) (top refl refl) in
    let second : target c.wires (line_at b north) ≡ Some (line_at (b + m) east) =
    other.column.wired (line_at b north) (line_at (b + m) east) (top refl refl) in
    let same : line_at (b + k) east ≡ line_at (b + m) east = same_Some (line_at (b + k) east) (line_at (b + m) east)
    (sym first ∙ second) in
    let elements : b + k ≡ b + m = ap (λ (l : Line). l.element) same in
    omega arith

-- a column's own wires are those of the list
rungs-are : (b r : ℕ) → IsLadder b r (rungs b r)
rungs-are b zero = record { wires = no_rung b; count = refl }
rungs-are b (suc r) =
    let same : r + 1 ≡ suc r = omega arith in
    subst (λ n. IsLadder b n (rungs b (suc r))) same (ladder_more b r (b + r) (rungs b r) (rungs b (suc r)) refl
    (rungs-are b r) refl)

pub inner-are : (b k : ℕ) → 0 < k → AreWiresOf (IsInner b k) (inner_wires b k)
inner-are b k some = ladder_closed b k k (rungs b k) _ _ _ _ _ _ some refl (rungs-are b k) refl refl refl refl refl refl

-- ---- the test of all wires

leads_to-true : (o : Option Line) (to : Line) → leads_to o to ≡ true → o ≡ Some to
leads_to-true None to h = absurd (cc)
leads_to-true (Some l) to h =
    elim (line_tells l to) [
      | inl same ↦ ap (λ (x : Line). Some x) same.1
      | inr other ↦ absurd (let found = rw other.0 at h in cc)
    ]

true-leads_to : (o : Option Line) (to : Line) → o ≡ Some to → leads_to o to ≡ true
true-leads_to None to h = absurd (cc)
true-leads_to (Some l) to h =
    elim (line_tells l to) [
      | inl same ↦ same.0
      | inr other ↦ absurd (other.1 (same_Some l to h))
    ]

pub lead_all-target : (ws vs : List Wire) → lead_all ws vs ≡ true → (from to : Line) → target vs from ≡ Some to
    → target ws from ≡ Some to
lead_all-target ws [] h from to leads = absurd (cc)
lead_all-target ws (v ∷ vs) h from to leads =
    let both = and_parts (leads_to (target ws v.from) v.to) (lead_all ws vs) h in
    elim (line_tells v.from from) [
      | inl same ↦
          (let found : ◌≡◌ {A = Option Line} (Some v.to) (Some to) = rw same.0 at leads in
          let here : target ws v.from ≡ Some v.to = leads_to-true (target ws v.from) v.to both.0 in
          subst (λ (l : Line). target ws l ≡ Some to) same.1 (here ∙ found))
      | inr other ↦ lead_all-target ws vs both.1 from to (rw other.0 at leads)
    ]

pub target-lead_all : (ws vs : List Wire) → AreApart vs → ((from to : Line) → target vs from ≡ Some to
    → target ws from ≡ Some to) → lead_all ws vs ≡ true
target-lead_all ws [] apart all = refl
target-lead_all ws (v ∷ vs) apart all =
    let first : target (v ∷ vs) v.from ≡ Some v.to = elim (line_tells v.from v.from)
    [ inl same ↦ rw same.0 refl | inr other ↦ absurd (other.1 refl) ] in
    and_from (leads_to (target ws v.from) v.to) (lead_all ws vs)
    (true-leads_to (target ws v.from) v.to (all v.from v.to first))
    (target-lead_all ws vs apart.2 (λ from to leads. all from to (behind from to leads)))
  where
    behind : (from to : Line) → target vs from ≡ Some to → target (v ∷ vs) from ≡ Some to
    behind from to leads =
        elim (line_tells v.from from) [
          | inl same ↦ absurd (let none : target vs from ≡ None = subst (λ (l : Line). target vs l ≡ None) same.1
              apart.0 in cc)
          | inr other ↦ rw other.0 leads
        ]

-- ---- the test of the bars

is_vertical-true : (o : Option ℕ) → is_vertical o ≡ true → o ≡ Some vertical
is_vertical-true None h = absurd (cc)
is_vertical-true (Some q) h =
    elim (eqb_tells q vertical) [
      | inl same ↦ ap (λ (n : ℕ). Some n) same.1
      | inr other ↦ absurd (let found = rw other.0 at h in cc)
    ]

are_upright-true : (states : List ℕ) (e k : ℕ) → are_upright states e k ≡ true → (r : ℕ) → r < k
    → slice_get states (e + r) ≡ Some vertical
are_upright-true states e zero h r below = absurd (omega arith)
are_upright-true states e (suc k) h r below =
    let both = and_parts (are_upright states e k) (is_vertical (slice_get states (e + k))) h in
    elim (cases_lt r k) [
      | inl earlier ↦ are_upright-true states e k both.0 r earlier
      | inr last ↦
          (let same : k ≡ r = omega arith in
          subst (λ (n : ℕ). slice_get states (e + n) ≡ Some vertical) same
          (is_vertical-true (slice_get states (e + k)) both.1))
    ]

true-are_upright : (states : List ℕ) (e k : ℕ) → ((r : ℕ) → r < k → slice_get states (e + r) ≡ Some vertical)
    → are_upright states e k ≡ true
true-are_upright states e zero all = refl
true-are_upright states e (suc k) all =
    let last : slice_get states (e + k) ≡ Some vertical = all k (omega arith) in
    and_from (are_upright states e k) (is_vertical (slice_get states (e + k)))
    (true-are_upright states e k (λ r below. all r (omega arith))) (rw last refl)

-- ---- the whole test

is_loose-true : (o : Option Line) → is_loose o ≡ true → o ≡ None
is_loose-true None h = refl
is_loose-true (Some l) h = absurd (cc)

pub rotary_at : (count n : ℕ) → n < count → slice_get (replicate count rotary) n ≡ Some rotary
rotary_at zero n h = absurd (omega arith)
rotary_at (suc count) zero h = refl
rotary_at (suc count) (suc n) h = rotary_at count n (omega arith)

pub rotary_within : (count n : ℕ) (t : Table) → slice_get (replicate count rotary) n ≡ Some t → n < count
rotary_within count n t h = let below = slice_get_within (replicate count rotary) n t h in omega
    (arith, length-replicate count rotary)

passes-column : (count : ℕ) (ws : List Wire) (states : List ℕ) (e k : ℕ) → 0 < k
    → is_column_at count ws states e k ≡ true → IsColumnAt (rotary_elements count ws) states e k
passes-column count ws states e k some h =
    let one = and_parts (nat_lt (e + k) count && lead_all ws (inner_wires e k)
    && is_loose (target ws (line_at (e + k) east))) (are_upright states e k) h in
    let two = and_parts (nat_lt (e + k) count && lead_all ws (inner_wires e k))
    (is_loose (target ws (line_at (e + k) east))) one.0 in
    let three = and_parts (nat_lt (e + k) count) (lead_all ws (inner_wires e k)) two.0 in
    let test = three.0 in
    let within : e + k < count = grind (arith, nat_tests) in
    let are = inner-are e k some in
    record {
      some = some;
      column = record {
        rotaries = λ r low. rotary_at count (e + r) (omega arith);
        wired = λ from to inner. lead_all-target ws (inner_wires e k) three.1 from to (are.complete from to inner);
      };
      loose = is_loose-true (target ws (line_at (e + k) east)) two.1;
      upright = are_upright-true states e k one.1;
    }

column-passes : (count : ℕ) (ws : List Wire) (states : List ℕ) (e k : ℕ)
    → IsColumnAt (rotary_elements count ws) states e k → is_column_at count ws states e k ≡ true
column-passes count ws states e k is =
    let within : e + k < count = rotary_within count (e + k) rotary (is.column.rotaries k (omega arith)) in
    let test : nat_lt (e + k) count ≡ true = grind (arith, nat_tests) in
    let are = inner-are e k is.some in
    let all = target-lead_all ws (inner_wires e k) are.apart (λ from to leads. is.column.wired from to
    (are.sound from to leads)) in
    let none = is.loose in
    and_from (nat_lt (e + k) count && lead_all ws (inner_wires e k) && is_loose (target ws (line_at (e + k) east)))
    (are_upright states e k)
    (and_from (nat_lt (e + k) count && lead_all ws (inner_wires e k)) (is_loose (target ws (line_at (e + k) east)))
    (and_from (nat_lt (e + k) count) (lead_all ws (inner_wires e k)) test all)
    (rw none refl))
    (true-are_upright states e k is.upright)

told-some : (o : Option Line) (e k : ℕ) → rows_told o e ≡ Some k → 0 < k
told-some None e k h = absurd (cc)
told-some (Some to) e k h =
    let both = cond_some (nat_lt e to.element) (to.element - e) k h in
    let test = both.0 in
    let below : e < to.element = grind (arith, nat_tests) in
    let rows : to.element - e ≡ k = both.1 in
    omega arith

found-column : (count : ℕ) (ws : List Wire) (states : List ℕ) (e k : ℕ) → column_at count ws states e ≡ Some k
    → IsColumnAt (rotary_elements count ws) states e k
found-column count ws states e k h =
    option_and_then_some (checked_rows count ws states e) (rows_told (target ws (line_at e north)) e) k h (λ m told h1.
    let both = cond_some (is_column_at count ws states e m) m k h1 in
    let some = told-some (target ws (line_at e north)) e m told in
    subst (λ (n : ℕ). IsColumnAt (rotary_elements count ws) states e n) both.1
    (passes-column count ws states e m some both.0))

column-found : (count : ℕ) (ws : List Wire) (states : List ℕ) (e k : ℕ)
    → IsColumnAt (rotary_elements count ws) states e k → column_at count ws states e ≡ Some k
column-found count ws states e k is =
    let some : 0 < k = is.some in
    let first : target ws (line_at e north) ≡ Some (line_at (e + k) east) =
    is.column.wired (line_at e north) (line_at (e + k) east) (top refl refl) in
    let test : nat_lt e (e + k) ≡ true = grind (arith, nat_tests) in
    let rows : e + k - e ≡ k = omega arith in
    let passes = column-passes count ws states e k is in
    rw (first, test, rows, passes) refl

pub columns-are-found : ColumnsAreFound
columns-are-found count ws states e k = (found-column count ws states e k, column-found count ws states e k)

-- a column begins, or none does
pub column_or_none : (count : ℕ) (ws : List Wire) (states : List ℕ) (e : ℕ)
    → HasColumnAt (rotary_elements count ws) states e ⊎ ((k : ℕ) → IsColumnAt (rotary_elements count ws) states e k → ⊥)
column_or_none count ws states e = by_found (column_at count ws states e) refl
  where
    none_some : (k : ℕ) → ◌≡◌ {A = Option ℕ} None (Some k) → ⊥
    none_some k e = cc

    by_found : (o : Option ℕ) → column_at count ws states e ≡ o
        → HasColumnAt (rotary_elements count ws) states e ⊎ ((k : ℕ) → IsColumnAt (rotary_elements count ws) states e k
        → ⊥)
    by_found None is = inr (λ k column. none_some k (sym is ∙ column-found count ws states e k column))
    by_found (Some k) is = inl (k, found-column count ws states e k is)
