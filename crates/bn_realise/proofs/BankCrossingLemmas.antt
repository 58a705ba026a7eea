-- One move of a bank in any circuit, column by column.
use Rattle.std.specs.Prelude.{◌≡◌, ◌≢◌, ℕ, ◌+◌, ◌-◌, ◌*◌, ◌<◌, ◌≤◌, ◌==◌, Bool, true, false, List, [], ◌∷◌, Option}
use Rattle.std.specs.Prelude.{Some, None, slice_get, slice_set, refl, ◌⊎◌}
use Rattle.std.proofs.Common.{zero, suc, arith, sym, ap, subst, ◌∙◌, inl, inr}
use Rattle.std.proofs.lemmas.Bool.Decides.{eqb_tells, nat_tests}
use Rattle.std.proofs.lemmas.Option.{slice_get_within}
use Rattle.std.proofs.Math.Nat.{mul-le-mul_right}
use Rattle.bn_lists.specs.Runs.{Passes}
use Rattle.bn_lists.proofs.RunsLemmas.{passes_join}
use Rattle.bn_element.specs.Tables.{Table, IsReversible}
use Rattle.bn_circuits.specs.Circuits.{Circuit, clock, place_after, Goes}
use Rattle.bn_circuits.proofs.StepLemmas.{slice_get-set_same, slice_get-set_other}
use Rattle.bn_circuits.specs.declared.line.Line.{Line}
use Rattle.bn_circuits.specs.declared.place.Place.{Place}
use Rattle.bn_circuits.specs.declared.place.Place.TheVariants.{Enter}
use Rattle.bn_circuits.specs.declared.config.Config.{Config}
use Rattle.bn_element.specs.Rotary.{horizontal, vertical, east, west}
use Rattle.bn_column.specs.Columns.{IsColumn, bar, IsAtRest, entry_side, exit_side, crossing_cost, IsEntering, IsBeside}
use Rattle.bn_column.specs.Columns.{IsWithin}
use Rattle.bn_circuits.specs.Circuits.{line_at}
use Rattle.bn_column.proofs.CrossingLemmas.{column_crosses}
use Rattle.bn_rsm.specs.Costs.{pass_cost, move_cost, loose_cost, cost_by, table_cost}
use Rattle.bn_realise.specs.Banks.{column_at, bottom_at, IsBankWire, inner, along, across, IsBank, is_marked, IsResting}
use Rattle.bn_realise.specs.Banks.{bank_output_line, turning_line, IsBankEntering, mark_after, states_after, exit_after}
use Rattle.bn_realise.specs.Banks.{moved, IsBesideBank, AreMarked, IsWithinBank}

abbrev at_place : List ℕ → Place → ℕ → Config
at_place s p n = record { states = s; place = p; steps = n }

pub set_same : (s : List ℕ) (e v : ℕ) → slice_get s e ≡ Some v → slice_set s e v ≡ s
set_same [] e v h = refl
set_same (x ∷ s) zero v h = ap (λ y. y ∷ s) (cc)
set_same (x ∷ s) (suc e) v h = ap (λ r. x ∷ r) (set_same s e v h)

pub later_column : (b k j m : ℕ) → j < m → column_at b k j + (k + 1) ≤ column_at b k m
later_column b k j m before =
    let h : (j + 1) * (k + 1) ≤ m * (k + 1) = mul-le-mul_right (k + 1) (omega arith) in
    omega arith

below_or_above : (j m : ℕ) → j ≢ m → (j < m) ⊎ (m < j)
below_or_above j m apart = grind (arith, nat_tests)

pub other_column : (b k j m x y : ℕ) → j ≢ m → x ≤ k → y ≤ k → column_at b k j + x ≢ column_at b k m + y
other_column b k j m x y apart first second same =
    elim (below_or_above j m apart) [
      | inl before ↦ (let h = later_column b k j m before in absurd (omega arith))
      | inr after ↦ (let h = later_column b k m j after in absurd (omega arith))
    ]

-- an element of one column stands beside every other
column-beside : (b k j m x : ℕ) → m ≢ j → x ≤ k → IsBeside (column_at b k j) k (column_at b k m + x)
column-beside b k j m x apart within =
    elim (below_or_above m j apart) [
      | inl before ↦ (let h = later_column b k m j before in inl (omega arith))
      | inr after ↦ (let h = later_column b k j m after in inr (omega arith))
    ]

bank-beside : (b : ℕ) (t : Table) (j e : ℕ) → j < t.states → IsBesideBank b t e
    → IsBeside (column_at b t.inputs j) t.inputs e
bank-beside b t j e within (inl low) = inl (omega arith)
bank-beside b t j e within (inr high) = (let h = later_column b t.inputs j t.states within in inr (omega arith))

pub bank-apart : (b : ℕ) (t : Table) (j x e : ℕ) → j < t.states → x ≤ t.inputs → IsBesideBank b t e
    → e ≢ column_at b t.inputs j + x
bank-apart b t j x e within low (inl below) same = absurd (omega arith)
bank-apart b t j x e within low (inr above) same = (let h = later_column b t.inputs j t.states within in absurd
    (omega arith))

-- the mark of column j becomes this, and no other changes
record Switches (before : Option ℕ) (j : ℕ) (marked : Bool) (after : Option ℕ) : Type 0 where
  here : is_marked after j ≡ marked
  others : (m : ℕ) → m ≢ j → is_marked after m ≡ is_marked before m

pub eqb_same : (q : ℕ) → (q == q) ≡ true
eqb_same q = elim (eqb_tells q q) [ inl same ↦ same.0 | inr apart ↦ absurd (apart.1 refl) ]

eqb_other : (q m : ℕ) → m ≢ q → (q == m) ≡ false
eqb_other q m apart = elim (eqb_tells q m) [ inl same ↦ absurd (apart (sym same.1)) | inr other ↦ other.0 ]

wiped : (q : ℕ) → Switches (Some q) q false None
wiped q = record { here = refl; others = λ m apart. sym (eqb_other q m apart) }

set : (r : ℕ) → Switches None r true (Some r)
set r = record { here = eqb_same r; others = λ m apart. eqb_other r m apart }

module _ (c : Circuit) (b : ℕ) (t : Table) (bank : IsBank c b t) where
  column : (j : ℕ) → j < t.states → IsColumn c (column_at b t.inputs j) t.inputs
  column j within = record {
    rotaries = λ x low. bank.rotaries j x within low;
    wired = λ from to is. bank.wired from to (inner j within is);
  }

  led : (from to : Line) → IsBankWire b t from to → place_after c.wires from ≡ Enter to.element to.line
  led from to own = rw (bank.wired from to own) refl

  -- where a row of a column leads on to the next
  onward : (j i : ℕ) → j + 1 < t.states → i < t.inputs → IsBankWire b t (line_at (column_at b t.inputs j + i) east)
      (line_at (column_at b t.inputs (j + 1) + i) west)
  onward j i next row = along j i next row refl refl

  module _ (q i : ℕ) (start : List ℕ) (test : Config → Bool) (holds : (d : Config) → IsWithinBank b t q i start d
      → test d ≡ true) where
    abbrev Among : Option ℕ → Type 0
    Among mark = ((mark ≡ Some q) ⊎ (mark ≡ None)) ⊎ (mark ≡ mark_after (t.go q i))

    -- bars with which the bank may stand within the move
    record Stands (s : List ℕ) (mark : Option ℕ) : Type 0 where
      resting : IsResting s b t.states t.inputs mark
      beside : (e : ℕ) → IsBesideBank b t e → slice_get s e ≡ slice_get start e
      among : Among mark

    at_wire : (s : List ℕ) (mark : Option ℕ) → Stands s mark → (from to : Line) → IsBankWire b t from to → (m : ℕ)
        → test (at_place s (Enter to.element to.line) m) ≡ true
    at_wire s mark stands from to own m =
        holds (at_place s (Enter to.element to.line) m) (record {
          from = from;
          to = to;
          own = own;
          enters = refl;
          beside = stands.beside;
          mark = mark;
          among = stands.among;
          marked = record { bottoms = λ j within. (stands.resting.columns j within).bottom };
        })

    -- within the crossing of a column, from one mark to the next
    module _ (s : List ℕ) (before after : Option ℕ) (stands : Stands s before) (j : ℕ) (there : j < t.states)
        (from_east : Bool) (switches : Switches before j from_east after) (among : Among after) where
      bottoms : (d : Config) → IsWithin (column_at b t.inputs j) t.inputs (is_marked before j) from_east s d
          → (mark : Option ℕ) → slice_get d.states (bottom_at b t.inputs j) ≡ Some (bar (is_marked mark j))
          → ((m : ℕ) → m ≢ j → is_marked mark m ≡ is_marked before m) → AreMarked d.states b t.states t.inputs mark
      bottoms d within mark here others = record { bottoms = by_column }
        where
          by_column : (m : ℕ) → m < t.states → slice_get d.states (bottom_at b t.inputs m)
              ≡ Some (bar (is_marked mark m))
          by_column m low =
              elim (eqb_tells m j) [
                | inl same ↦ subst (λ x. slice_get d.states (bottom_at b t.inputs x) ≡ Some (bar (is_marked mark x)))
                    (sym same.1) here
                | inr apart ↦ within.beside (bottom_at b t.inputs m)
                    (column-beside b t.inputs j m t.inputs apart.1 (omega arith))
                    ∙ (stands.resting.columns m low).bottom ∙ ap (λ x. Some (bar x)) (sym (others m apart.1))
              ]

      inside : (d : Config) → IsWithin (column_at b t.inputs j) t.inputs (is_marked before j) from_east s d
          → test d ≡ true
      inside d within =
          elim within.bottom [
            | inl old ↦ holds d (with_mark before stands.among (bottoms d within before old (λ m apart. refl)))
            | inr new ↦ holds d (with_mark after among (bottoms d within after
                (new ∙ ap (λ x. Some (bar x)) (sym switches.here)) switches.others))
          ]
        where
          with_mark : (mark : Option ℕ) → Among mark → AreMarked d.states b t.states t.inputs mark
              → IsWithinBank b t q i start d
          with_mark mark is marked =
              record {
                from = within.from;
                to = within.to;
                own = inner j there within.inner;
                enters = within.enters;
                beside = λ e beside. within.beside e (bank-beside b t j e there beside) ∙ stands.beside e beside;
                mark = mark;
                among = is;
                marked = marked;
              }

      -- the bars after the crossing
      switched : Stands (slice_set s (bottom_at b t.inputs j) (bar from_east)) after
      switched =
          record {
            resting = record { columns = by_column };
            beside = λ e beside. slice_get-set_other s (bottom_at b t.inputs j) e (bar from_east)
                (bank-apart b t j t.inputs e there (omega arith) beside) ∙ stands.beside e beside;
            among = among;
          }
        where
          row : (m : ℕ) → m < t.states → (x : ℕ) → x < t.inputs → column_at b t.inputs m + x ≢ bottom_at b t.inputs j
          row m low x above same =
              elim (eqb_tells m j) [
                | inl here ↦ (let e : column_at b t.inputs m ≡ column_at b t.inputs j = ap (column_at b t.inputs) here.1
                    in absurd (omega arith))
                | inr apart ↦ other_column b t.inputs m j x t.inputs apart.1 (omega arith) (omega arith) same
              ]

          bottom : (m : ℕ) → m < t.states → slice_get (slice_set s (bottom_at b t.inputs j) (bar from_east))
              (bottom_at b t.inputs m) ≡ Some (bar (is_marked after m))
          bottom m low =
              elim (eqb_tells m j) [
                | inl here ↦
                    (let old = (stands.resting.columns j there).bottom in
                    let new = slice_get-set_same s (bottom_at b t.inputs j) (bar from_east)
                    (slice_get_within s (bottom_at b t.inputs j) (bar (is_marked before j)) old) in
                    let at_j : slice_get (slice_set s (bottom_at b t.inputs j) (bar from_east)) (bottom_at b t.inputs j)
                    ≡ Some (bar (is_marked after j)) = new ∙ ap (λ x. Some (bar x)) (sym switches.here) in
                    subst (λ x. slice_get (slice_set s (bottom_at b t.inputs j) (bar from_east))
                    (bottom_at b t.inputs x) ≡ Some (bar (is_marked after x))) (sym here.1) at_j)
                | inr apart ↦
                    (let kept = slice_get-set_other s (bottom_at b t.inputs j) (bottom_at b t.inputs m) (bar from_east)
                    (other_column b t.inputs m j t.inputs t.inputs apart.1 (omega arith) (omega arith)) in
                    kept ∙ (stands.resting.columns m low).bottom ∙ ap (λ x. Some (bar x))
                    (sym (switches.others m apart.1)))
              ]

          by_column : (m : ℕ) → m < t.states → IsAtRest (slice_set s (bottom_at b t.inputs j) (bar from_east))
              (column_at b t.inputs m) t.inputs (is_marked after m)
          by_column m low =
              record {
                rows = λ x above. slice_get-set_other s (bottom_at b t.inputs j) (column_at b t.inputs m + x)
                    (bar from_east) (row m low x above) ∙ (stands.resting.columns m low).rows x above;
                bottom = bottom m low;
              }

      -- the crossing itself
      crosses : (marked : Bool) → is_marked before j ≡ marked → (row p z : ℕ) → row < t.inputs
          → z ≡ p + crossing_cost t.inputs (row + 1) marked from_east → z ≤ clock
          → Passes (Goes c) test (crossing_cost t.inputs (row + 1) marked from_east)
          (at_place s (Enter (column_at b t.inputs j + row) (entry_side from_east)) p)
          (at_place (slice_set s (bottom_at b t.inputs j) (bar from_east))
          (place_after c.wires (line_at (column_at b t.inputs j + row) (exit_side marked))) z)
      crosses marked is row p z low count in_time =
          let x = at_place s (Enter (column_at b t.inputs j + row) (entry_side from_east)) p in
          let rest : IsAtRest s (column_at b t.inputs j) t.inputs marked =
          subst (λ m. IsAtRest s (column_at b t.inputs j) t.inputs m) is (stands.resting.columns j there) in
          let entering : IsEntering (column_at b t.inputs j) t.inputs row marked from_east x =
          record { row = low; at_rest = rest; enters = refl } in
          let path = column_crosses c (column_at b t.inputs j) t.inputs row marked from_east x test (column j there)
          entering (subst (λ n. n ≤ clock) count in_time) (λ d within. inside d
          (subst (λ m. IsWithin (column_at b t.inputs j) t.inputs m from_east s d) (sym is) within)) in
          subst (λ n. Passes (Goes c) test (crossing_cost t.inputs (row + 1) marked from_east) x
          (at_place (slice_set s (bottom_at b t.inputs j) (bar from_east))
          (place_after c.wires (line_at (column_at b t.inputs j + row) (exit_side marked))) n)) (sym count) path

    -- along row `row`, past columns that aren't marked
    module _ (s : List ℕ) (mark : Option ℕ) (stands : Stands s mark) (row : ℕ) (low : row < t.inputs) where
      pass : (j p z : ℕ) → j < t.states → is_marked mark j ≡ false → z ≡ p + pass_cost t.inputs row → z ≤ clock
          → Passes (Goes c) test (pass_cost t.inputs row) (at_place s (Enter (column_at b t.inputs j + row) west) p)
          (at_place s (place_after c.wires (line_at (column_at b t.inputs j + row) east)) z)
      pass j p z there unmarked count in_time =
          let same : Switches mark j false mark = record { here = unmarked; others = λ m apart. refl } in
          let bottom = (stands.resting.columns j there).bottom ∙ ap (λ x. Some (bar x)) unmarked in
          let kept : slice_set s (bottom_at b t.inputs j) vertical ≡ s =
          set_same s (bottom_at b t.inputs j) vertical bottom in
          let path = crosses s mark mark stands j there false same stands.among false unmarked row p z low count in_time
          in
          subst (λ r. Passes (Goes c) test (pass_cost t.inputs row)
          (at_place s (Enter (column_at b t.inputs j + row) west) p)
          (at_place r (place_after c.wires (line_at (column_at b t.inputs j + row) east)) z)) kept path

      -- the signal comes from one column's row to the next one's
      next : (j p : ℕ) → j + 1 < t.states → at_place s (place_after c.wires
          (line_at (column_at b t.inputs j + row) east)) p ≡ at_place s
          (Enter (column_at b t.inputs (j + 1) + row) west) p
      next j p there = ap (λ x. at_place s x p) (led (line_at (column_at b t.inputs j + row) east)
          (line_at (column_at b t.inputs (j + 1) + row) west) (onward j row there low))

      passes_next : (j p : ℕ) → j + 1 < t.states → test (at_place s
          (place_after c.wires (line_at (column_at b t.inputs j + row) east)) p) ≡ true
      passes_next j p there = ap test (next j p there) ∙ at_wire s mark stands
          (line_at (column_at b t.inputs j + row) east) (line_at (column_at b t.inputs (j + 1) + row) west)
          (onward j row there low) p

      same_entry : (j m p z : ℕ) → j ≡ m → p ≡ z → at_place s (Enter (column_at b t.inputs j + row) west) p
          ≡ at_place s (Enter (column_at b t.inputs m + row) west) z
      same_entry j m p z h1 h2 = rw (h1, h2) refl

      -- from before column j to before column m
      walks_in : (d j m p z cost : ℕ) → m ≡ j + d → m < t.states → cost ≡ d * pass_cost t.inputs row → z ≡ p + cost
          → z ≤ clock → ((x : ℕ) → j ≤ x → x < m → is_marked mark x ≡ false)
          → Passes (Goes c) test cost (at_place s (Enter (column_at b t.inputs j + row) west) p)
          (at_place s (Enter (column_at b t.inputs m + row) west) z)
      walks_in zero j m p z cost last there sum count in_time unmarked =
          let none : zero ≡ cost = omega arith in
          subst (λ n. Passes (Goes c) test n (at_place s (Enter (column_at b t.inputs j + row) west) p)
          (at_place s (Enter (column_at b t.inputs m + row) west) z)) none
          (same_entry j m p z (omega arith) (omega arith))
      walks_in (suc d) j m p z cost last there sum count in_time unmarked =
          let y : ℕ = p + pass_cost t.inputs row in
          let more : ℕ = d * pass_cost t.inputs row in
          let sums : cost ≡ pass_cost t.inputs row + more = omega arith in
          let first = pass j p y (omega arith) (unmarked j (omega arith) (omega arith)) refl (omega arith) in
          let rest = walks_in d (j + 1) m y z more (omega arith) there refl (omega arith) in_time
          (λ x after before. unmarked x (omega arith) before) in
          passes_join (Goes c) test cost (pass_cost t.inputs row) more
          (at_place s (Enter (column_at b t.inputs j + row) west) p)
          (at_place s (place_after c.wires (line_at (column_at b t.inputs j + row) east)) y)
          (at_place s (Enter (column_at b t.inputs m + row) west) z) sums
          (λ _ _. passes_next j y (omega arith))
          first
          (subst (λ x. Passes (Goes c) test more x (at_place s (Enter (column_at b t.inputs m + row) west) z))
          (sym (next j y (omega arith))) rest)

      same_exit : (j m p z : ℕ) → j ≡ m → p ≡ z → at_place s (place_after c.wires
          (line_at (column_at b t.inputs j + row) east)) p ≡ at_place s
          (place_after c.wires (line_at (column_at b t.inputs m + row) east)) z
      same_exit j m p z h1 h2 = rw (h1, h2) refl

      -- from behind column j to behind column m
      walks_out : (d j m p z cost : ℕ) → m ≡ j + d → m < t.states → cost ≡ d * pass_cost t.inputs row → z ≡ p + cost
          → z ≤ clock → ((x : ℕ) → j < x → x ≤ m → is_marked mark x ≡ false)
          → Passes (Goes c) test cost (at_place s (place_after c.wires (line_at (column_at b t.inputs j + row) east)) p)
          (at_place s (place_after c.wires (line_at (column_at b t.inputs m + row) east)) z)
      walks_out zero j m p z cost last there sum count in_time unmarked =
          let none : zero ≡ cost = omega arith in
          subst (λ n. Passes (Goes c) test n (at_place s (place_after c.wires
          (line_at (column_at b t.inputs j + row) east)) p) (at_place s
          (place_after c.wires (line_at (column_at b t.inputs m + row) east)) z)) none
          (same_exit j m p z (omega arith) (omega arith))
      walks_out (suc d) j m p z cost last there sum count in_time unmarked =
          let y : ℕ = p + pass_cost t.inputs row in
          let more : ℕ = d * pass_cost t.inputs row in
          let sums : cost ≡ pass_cost t.inputs row + more = omega arith in
          let first = pass (j + 1) p y (omega arith) (unmarked (j + 1) (omega arith) (omega arith)) refl (omega arith)
          in
          let rest = walks_out d (j + 1) m y z more (omega arith) there refl (omega arith) in_time
          (λ x after before. unmarked x (omega arith) before) in
          passes_join (Goes c) test cost (pass_cost t.inputs row) more
          (at_place s (place_after c.wires (line_at (column_at b t.inputs j + row) east)) p)
          (at_place s (place_after c.wires (line_at (column_at b t.inputs (j + 1) + row) east)) y)
          (at_place s (place_after c.wires (line_at (column_at b t.inputs m + row) east)) z) sums
          (λ _ some. passes_next (j + 1) y (let far = further d some in omega arith))
          (subst (λ x. Passes (Goes c) test (pass_cost t.inputs row) x
          (at_place s (place_after c.wires (line_at (column_at b t.inputs (j + 1) + row) east)) y))
          (sym (next j p (omega arith))) first)
          rest
        where
          further : (d : ℕ) → 0 < d * pass_cost t.inputs row → 0 < d
          further zero h = absurd (omega arith)
          further (suc d) h = omega arith

      -- a column behind the first is entered from the one before it
      passes_entry : (j p : ℕ) → 0 < j → j < t.states → test (at_place s (Enter (column_at b t.inputs j + row) west) p)
          ≡ true
      passes_entry j p some there =
          let same : (j - 1) + 1 ≡ j = omega arith in
          subst (λ x. test (at_place s (Enter (column_at b t.inputs x + row) west) p) ≡ true) same
          (at_wire s mark stands (line_at (column_at b t.inputs (j - 1) + row) east)
          (line_at (column_at b t.inputs ((j - 1) + 1) + row) west) (onward (j - 1) row (omega arith) low) p)

    counted : (j cost : ℕ) → 0 < j * cost → 0 < j
    counted zero cost h = absurd (omega arith)
    counted (suc j) cost h = omega arith

    module _ (state : q < t.states) (line : i < t.inputs) (resting : IsResting start b t.states t.inputs (Some q)) where
      begins : Stands start (Some q)
      begins = record { resting = resting; beside = λ e beside. refl; among = inl (inl refl) }

      abbrev unmarked : List ℕ
      unmarked = slice_set start (bottom_at b t.inputs q) vertical

      wipes : Stands unmarked None
      wipes = switched start (Some q) None begins q state false (wiped q) (inl (inr refl))

      not_yet : (x : ℕ) → 0 ≤ x → x < q → is_marked (Some q) x ≡ false
      not_yet x low below = eqb_other q x (omega arith)

      -- up to the marked column, and back out of its west
      turns_back : (p z cost : ℕ) → cost ≡ loose_cost t.inputs q i → z ≡ p + cost → z ≤ clock
          → Passes (Goes c) test cost (at_place start (Enter (b + i) west) p)
          (at_place unmarked (place_after c.wires (turning_line b t q i)) z)
      turns_back p z cost is count in_time =
          let in_front : ℕ = q * pass_cost t.inputs i in
          let y : ℕ = p + in_front in
          let first_column : column_at b t.inputs 0 + i ≡ b + i = omega arith in
          let walk = walks_in start (Some q) begins i line q 0 q p y in_front (omega arith) state refl refl
          (omega arith) not_yet in
          let turn = crosses start (Some q) None begins q state false (wiped q) (inl (inr refl)) true (eqb_same q) i y z
          line (omega arith) in_time in
          passes_join (Goes c) test cost in_front (t.inputs + 2) (at_place start (Enter (b + i) west) p)
          (at_place start (Enter (column_at b t.inputs q + i) west) y)
          (at_place unmarked (place_after c.wires (turning_line b t q i)) z) is
          (λ some _. passes_entry start (Some q) begins i line q y (counted q (pass_cost t.inputs i) some) state)
          (subst (λ e. Passes (Goes c) test in_front (at_place start (Enter e west) p)
          (at_place start (Enter (column_at b t.inputs q + i) west) y)) first_column walk)
          turn

      module _ (r o : ℕ) (goes : t.go q i ≡ Some (r, o)) (next_state : r < t.states) (out : o < t.inputs) where
        abbrev remarked : List ℕ
        remarked = slice_set unmarked (bottom_at b t.inputs r) horizontal

        new_among : Among (Some r)
        new_among = inr (sym (ap mark_after goes))

        ends : Stands remarked (Some r)
        ends = switched unmarked None (Some r) wipes r next_state true (set r) new_among

        crossing_wire : IsBankWire b t (turning_line b t q i) (line_at (column_at b t.inputs r + o) east)
        crossing_wire = across q i r o goes refl refl

        beyond : (x : ℕ) → r < x → x ≤ t.states - 1 → is_marked (Some r) x ≡ false
        beyond x above last = eqb_other r x (omega arith)

        -- into the new column from behind, and out past those after it
        goes_out : (p z cost : ℕ) → cost ≡ t.inputs + 2 + (t.states - (r + 1)) * pass_cost t.inputs o → z ≡ p + cost
            → z ≤ clock → Passes (Goes c) test cost (at_place unmarked (place_after c.wires (turning_line b t q i)) p)
            (at_place remarked (place_after c.wires (bank_output_line b t o)) z)
        goes_out p z cost is count in_time =
            let behind : ℕ = (t.states - (r + 1)) * pass_cost t.inputs o in
            let y : ℕ = p + (t.inputs + 2) in
            let led_in = led (turning_line b t q i) (line_at (column_at b t.inputs r + o) east) crossing_wire in
            let mark_it = crosses unmarked None (Some r) wipes r next_state true (set r) new_among false refl o p y out
            refl (omega arith) in
            let walk = walks_out remarked (Some r) ends o out (t.states - (r + 1)) r (t.states - 1) y z behind
            (omega arith) (omega arith) refl (omega arith) in_time beyond in
            passes_join (Goes c) test cost (t.inputs + 2) behind (at_place unmarked
            (place_after c.wires (turning_line b t q i)) p) (at_place remarked
            (place_after c.wires (line_at (column_at b t.inputs r + o) east)) y)
            (at_place remarked (place_after c.wires (bank_output_line b t o)) z) is
            (λ _ some. passes_next remarked (Some r) ends o out r y
            (let more = counted (t.states - (r + 1)) (pass_cost t.inputs o) some in omega arith))
            (subst (λ x. Passes (Goes c) test (t.inputs + 2) (at_place unmarked x p)
            (at_place remarked (place_after c.wires (line_at (column_at b t.inputs r + o) east)) y)) (sym led_in)
            mark_it)
            walk

        goes_all : (p z cost : ℕ) → cost ≡ move_cost t.states t.inputs q i r o → z ≡ p + cost → z ≤ clock
            → Passes (Goes c) test cost (at_place start (Enter (b + i) west) p)
            (at_place remarked (place_after c.wires (bank_output_line b t o)) z)
        goes_all p z cost is count in_time =
            let first : ℕ = loose_cost t.inputs q i in
            let second : ℕ = t.inputs + 2 + (t.states - (r + 1)) * pass_cost t.inputs o in
            let y : ℕ = p + first in
            let led_in = led (turning_line b t q i) (line_at (column_at b t.inputs r + o) east) crossing_wire in
            passes_join (Goes c) test cost first second (at_place start (Enter (b + i) west) p)
            (at_place unmarked (place_after c.wires (turning_line b t q i)) y)
            (at_place remarked (place_after c.wires (bank_output_line b t o)) z) (omega arith)
            (λ _ _. ap (λ x. test (at_place unmarked x y)) led_in ∙ at_wire unmarked None wipes (turning_line b t q i)
            (line_at (column_at b t.inputs r + o) east) crossing_wire y)
            (turns_back p y first refl refl (omega arith))
            (goes_out y z second refl (omega arith) in_time)

-- A signal that enters a bank at rest is moved on, in exactly the cost of the move, and strictly between every test
-- holds that holds within the move.
pub bank_crosses : (c : Circuit) (b : ℕ) (t : Table) (q i : ℕ) (x : Config) (test : Config → Bool) → IsReversible t
    → t.outputs ≡ t.inputs → IsBank c b t → IsBankEntering b t q i x → x.steps + table_cost t q i ≤ clock
    → ((d : Config) → IsWithinBank b t q i x.states d → test d ≡ true)
    → Passes (Goes c) test (table_cost t q i) x (moved c b t q i x)
bank_crosses c b t q i x test reversible square bank entering in_time holds =
    subst (λ p. Passes (Goes c) test (table_cost t q i) (at_place x.states p x.steps) (moved c b t q i x))
    (sym entering.enters) (by_move (t.go q i) refl in_time)
  where
    by_move : (m : Option (ℕ × ℕ)) → t.go q i ≡ m → x.steps + cost_by t.states t.inputs q i m ≤ clock
        → Passes (Goes c) test (cost_by t.states t.inputs q i m) (at_place x.states (Enter (b + i) west) x.steps)
        (at_place (states_after x.states b t.inputs q m) (place_after c.wires (exit_after b t q i m))
        (x.steps + cost_by t.states t.inputs q i m))
    by_move None goes in_time =
        turns_back c b t bank q i x.states test holds entering.state entering.line entering.resting x.steps
        (x.steps + loose_cost t.inputs q i) (loose_cost t.inputs q i) refl refl in_time
    by_move (Some m) goes in_time =
        let arrives = reversible.arrives q i m.0 m.1 goes in
        let out : m.1 < t.inputs = subst (λ n. m.1 < n) square arrives.1 in
        goes_all c b t bank q i x.states test holds entering.state entering.line entering.resting m.0 m.1 goes arrives.0
        out x.steps (x.steps + move_cost t.states t.inputs q i m.0 m.1) (move_cost t.states t.inputs q i m.0 m.1)
        refl refl in_time

-- the bars with which a move ends
module _ (c : Circuit) (b : ℕ) (t : Table) (q i : ℕ) (x : Config) (reversible : IsReversible t)
    (square : t.outputs ≡ t.inputs) (bank : IsBank c b t) (entering : IsBankEntering b t q i x) where
  ended : (m : Option (ℕ × ℕ)) → t.go q i ≡ m → Stands c b t bank q i x.states (λ _. true) (λ d within. refl)
      (states_after x.states b t.inputs q m) (mark_after m)
  ended None goes = wipes c b t bank q i x.states (λ _. true) (λ d within. refl) entering.state entering.line
      entering.resting
  ended (Some m) goes =
      let arrives = reversible.arrives q i m.0 m.1 goes in
      ends c b t bank q i x.states (λ _. true) (λ d within. refl) entering.state entering.line entering.resting m.0 m.1
      goes arrives.0 (subst (λ n. m.1 < n) square arrives.1)

  pub moved-IsResting : IsResting (moved c b t q i x).states b t.states t.inputs (mark_after (t.go q i))
  moved-IsResting = (ended (t.go q i) refl).resting

  pub moved-beside : (e : ℕ) → IsBesideBank b t e → slice_get (moved c b t q i x).states e ≡ slice_get x.states e
  moved-beside e beside = (ended (t.go q i) refl).beside e beside

-- within a move at most one column is marked
pub marked-once : (s : List ℕ) (b n k : ℕ) (mark : Option ℕ) → AreMarked s b n k mark → (j m : ℕ) → j < n → m < n
    → slice_get s (bottom_at b k j) ≡ Some horizontal → slice_get s (bottom_at b k m) ≡ Some horizontal → j ≡ m
marked-once s b n k None marked j m first second here there = (let at_j = marked.bottoms j first in absurd (cc))
marked-once s b n k (Some q) marked j m first second here there = sym (is_it j first here) ∙ is_it m second there
  where
    is_it : (x : ℕ) → x < n → slice_get s (bottom_at b k x) ≡ Some horizontal → q ≡ x
    is_it x within at_x =
        elim (eqb_tells q x) [
          | inl same ↦ same.1
          | inr apart ↦ (let kept : slice_get s (bottom_at b k x)
              ≡ Some (bar (q == x)) = marked.bottoms x within in let off : slice_get s (bottom_at b k x)
              ≡ Some vertical = kept ∙ ap (λ v. Some (bar v)) apart.0 in absurd (cc))
        ]
