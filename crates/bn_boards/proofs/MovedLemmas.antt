-- One move of a network is one crossing of a bank on its board.
use Rattle.std.specs.Prelude.{◌≡◌, ◌≢◌, ℕ, ◌+◌, ◌-◌, ◌<◌, ◌≤◌, Bool, true, List, [], ◌∷◌, length, Option, Some, None}
use Rattle.std.specs.Prelude.{slice_get, ◌⊎◌, refl}
use Rattle.std.proofs.Common.{zero, suc, arith, sym, ap, subst, ◌∙◌, inl, inr}
use Rattle.std.proofs.lemmas.Bool.{cases_lt}
use Rattle.std.proofs.lemmas.Bool.Decides.{eqb_tells}
use Rattle.std.proofs.lemmas.List.{length-set}
use Rattle.std.proofs.lemmas.Option.{option_and_then_some, slice_get_within, slice_get-get_or}
use Rattle.bn_element.specs.Tables.{Table, IsReversible}
use Rattle.bn_lists.specs.Runs.{Passes}
use Rattle.bn_circuits.specs.Circuits.{Circuit, clock, target, place_at, place_after, Goes, IsPlace}
use Rattle.bn_circuits.proofs.StepLemmas.{same_lines, slice_get-set_same, slice_get-set_other, place_after-IsPlace}
use Rattle.bn_circuits.specs.declared.line.Line.{Line}
use Rattle.bn_circuits.specs.declared.config.Config.{Config}
use Rattle.bn_circuits.specs.Circuits.{line_at}
use Rattle.bn_rsm.specs.Costs.{table_cost}
use Rattle.bn_realise.specs.Banks.{IsBank, IsBankWire, IsBankEntering, IsBesideBank, IsResting, IsWithinBank, AreMarked}
use Rattle.bn_realise.specs.Banks.{bottom_at, column_at, bank_input_line, bank_output_line, moved, mark_after}
use Rattle.bn_realise.specs.Banks.{states_after, exit_after}
use Rattle.bn_realise.proofs.BankCrossingLemmas.{later_column, bank_crosses, moved-IsResting, moved-beside}
use Rattle.bn_realise.proofs.BankWiresLemmas.{bank_wire-IsWithinLines, output-no_wire}
use Rattle.bn_circuits.specs.Situations.{Situation, Turns}
use Rattle.bn_rsm.specs.RunCosts.{step_cost, entry_cost}
use Rattle.bn_boards.specs.Boards.{AreModules, IsBoard, IsBoardWire, own, between, base, size_of, on_board}
use Rattle.bn_boards.specs.Boards.{output_at, StandsFor, IsAmid}
use Rattle.bn_boards.specs.BoardLaws.{OneMove}
use Rattle.bn_boards.proofs.BankedLemmas.{modules-banks}

-- ---- where banks lie

before-later : (ts : List Table) (m e : ℕ) (t : Table) → slice_get ts m ≡ Some t → m < e
    → base ts m + size_of t ≤ base ts e
before-later [] m e t h low = absurd (cc)
before-later (u ∷ ts) m zero t h low = absurd (omega arith)
before-later (u ∷ ts) zero (suc e) t h low =
    let same : u ≡ t = cc in
    let sizes : size_of u ≡ size_of t = ap size_of same in
    omega arith
before-later (u ∷ ts) (suc m) (suc e) t h low =
    let rest = before-later ts m e t h (omega arith) in
    omega arith

-- an element of one bank is beside another
pub other_bank : (ts : List Table) (m e : ℕ) (t u : Table) (x : ℕ) → slice_get ts m ≡ Some t → slice_get ts e ≡ Some u
    → m ≢ e → base ts m ≤ x
    → x < base ts m + size_of t → IsBesideBank (base ts e) u x
other_bank ts m e t u x has other apart low high =
    elim (cases_lt m e) [
      | inl before ↦ (let h = before-later ts m e t has before in inl (omega arith))
      | inr after ↦ (let less : e < m = by_apart apart after in let h = before-later ts e m u other less in inr
          (omega arith))
    ]
  where
    by_apart : m ≢ e → e ≤ m → e < m
    by_apart ne le = elim (cases_lt e m) [ inl less ↦ less | inr more ↦ absurd (ne (omega arith)) ]

-- an element of a column is one of the bank
pub in_bank : (b : ℕ) (t : Table) (j x : ℕ) → j < t.states → x ≤ t.inputs
    → (b ≤ column_at b t.inputs j + x) × (column_at b t.inputs j + x < b + size_of t)
in_bank b t j x there row = let last = later_column b t.inputs j t.states there in (omega arith, omega arith)

module _ (n k : Circuit) (modules : AreModules n) (board : IsBoard n k) where
  -- a bank beside those that changed rests as before
  pub kept : (e m : ℕ) (t u : Table) (q : ℕ) (old new : List ℕ) → slice_get n.tables e ≡ Some t
      → slice_get n.tables m ≡ Some u → m ≢ e
      → ((x : ℕ) → IsBesideBank (base n.tables e) t x → slice_get new x ≡ slice_get old x)
      → IsResting old (base n.tables m) u.states u.inputs (Some q)
      → IsResting new (base n.tables m) u.states u.inputs (Some q)
  kept e m t u q old new has other apart same rests = record {
    columns = λ j there. record {
      rows = λ r row. let place = in_bank (base n.tables m) u j r there (omega arith) in same
          (column_at (base n.tables m) u.inputs j + r) (other_bank n.tables m e u t _ other has apart place.0 place.1)
          ∙ (rests.columns j there).rows r row;
      bottom = let place = in_bank (base n.tables m) u j u.inputs there (omega arith) in same
          (bottom_at (base n.tables m) u.inputs j) (other_bank n.tables m e u t _ other has apart place.0 place.1)
          ∙ (rests.columns j there).bottom;
    };
  }

  pub marks : (m : ℕ) (u : Table) (q : ℕ) (states : List ℕ) → IsResting states (base n.tables m) u.states u.inputs
      (Some q)
      → AreMarked states (base n.tables m) u.states u.inputs (Some q)
  marks m u q states rests = record { bottoms = λ j there. (rests.columns j there).bottom }

  -- no wire of the board leaves an output line that no wire of the network leaves
  no_wire : (e o : ℕ) (t : Table) (to : Line) → slice_get n.tables e ≡ Some t → o < t.inputs
      → target n.wires (line_at e o) ≡ None
      → IsBoardWire n (bank_output_line (base n.tables e) t o) to → ⊥
  no_wire e o t to has row none (own m u is wire) =
      elim (eqb_tells m e) [
        | inl same ↦ (let one : u ≡ t = (let h = subst (λ x. slice_get n.tables x ≡ Some u) same.1 is in cc) in
            let wire' = subst (λ (v : Table). IsBankWire (base n.tables e) v (bank_output_line (base n.tables e) t o)
            to) one (subst (λ x. IsBankWire (base n.tables x) u (bank_output_line (base n.tables e) t o) to) same.1
            wire) in
            output-no_wire (base n.tables e) t (modules.circuit.reversible e t has) (modules.square e t has) o to row
            wire')
        | inr apart ↦ (let lines = bank_wire-IsWithinLines (base n.tables m) u (modules.circuit.reversible m u is)
            (modules.square m u is) (bank_output_line (base n.tables e) t o) to wire in
            let some = modules.some_states e t has in
            let place = in_bank (base n.tables e) t (t.states - 1) o (omega arith) (omega arith) in
            let low = lines.from_low in
            let high = lines.from_high in
            elim (other_bank n.tables m e u t (column_at (base n.tables e) t.inputs (t.states - 1) + o) is has apart.1
            low (omega arith)) [ inl before ↦ omega arith | inr after ↦ omega arith ])
      ]
  no_wire e o t to has row none (between out into u wired is leaves ends) =
      let some = modules.some_states e t has in
      let some' = modules.some_states out.element u is in
      let output = (modules.circuit.wired out into wired).0 in
      let rows : out.line < u.outputs = rw is at output in
      let row' : out.line < u.inputs = rw (modules.square out.element u is) at rows in
      let element : column_at (base n.tables e) t.inputs (t.states - 1) + o
      ≡ column_at (base n.tables out.element) u.inputs (u.states - 1)
      + out.line = ap (λ (l : Line). l.element) leaves in
      let place = in_bank (base n.tables e) t (t.states - 1) o (omega arith) (omega arith) in
      let place' = in_bank (base n.tables out.element) u (u.states - 1) out.line (omega arith) (omega arith) in
      elim (eqb_tells out.element e) [
        | inl same ↦ (let one : u ≡ t = (let h = subst (λ x. slice_get n.tables x ≡ Some u) same.1 is in cc) in
            let bases : base n.tables out.element ≡ base n.tables e = ap (base n.tables) same.1 in
            let columns : column_at (base n.tables out.element) u.inputs (u.states - 1)
            ≡ column_at (base n.tables e) t.inputs (t.states - 1) = rw (one, bases) refl in
            let line : out.line ≡ o = omega arith in
            let there : out ≡ line_at e o = same_lines out (line_at e o) same.1 line in
            let found = subst (λ (l : Line). target n.wires l ≡ Some into) there wired in
            cc)
        | inr apart ↦ elim (other_bank n.tables out.element e u t
            (column_at (base n.tables e) t.inputs (t.states - 1) + o) is has apart.1 (omega arith) (omega arith))
            [ inl before ↦ omega arith | inr after ↦ omega arith ]
      ]

  -- the signal goes on from a bank's output as from the module's
  led : (e o : ℕ) (t : Table) → slice_get n.tables e ≡ Some t → o < t.inputs
      → place_after k.wires (bank_output_line (base n.tables e) t o)
      ≡ on_board n.tables (place_after n.wires (line_at e o))
  led e o t has row = by_wire (target n.wires (line_at e o)) refl
    where
      loose : (v : Option Line) → target k.wires (bank_output_line (base n.tables e) t o) ≡ v
          → target n.wires (line_at e o) ≡ None
          → place_at v (bank_output_line (base n.tables e) t o) ≡ output_at n.tables e (slice_get n.tables e) o
      loose None is none = rw has refl
      loose (Some to) is none = absurd (no_wire e o t to has row none
          ((board.wires (bank_output_line (base n.tables e) t o) to).0 is))

      by_wire : (v : Option Line) → target n.wires (line_at e o) ≡ v
          → place_after k.wires (bank_output_line (base n.tables e) t o) ≡ on_board n.tables (place_at v (line_at e o))
      by_wire None is = loose (target k.wires (bank_output_line (base n.tables e) t o)) refl is
      by_wire (Some into) is = (let wire = (board.wires (bank_output_line (base n.tables e) t o)
          (bank_input_line (base n.tables into.element) into.line)).1 (between (line_at e o) into t is has refl refl) in
          rw wire refl)

  module _ (s t : Situation) (c : Config) (test : Config
      → Bool) (stands : StandsFor n s c) (g : Turns n s t) (room : c.steps + step_cost n s ≤ clock)
      (holds : (d : Config) → IsAmid n s t d → test d ≡ true)
      (u : Table) (has : slice_get n.tables g.element ≡ Some u)
      (goes : u.go g.before g.input ≡ Some (g.after, g.output)) where
    abbrev b : ℕ
    b = base n.tables g.element

    reversible : IsReversible u
    reversible = modules.circuit.reversible g.element u has

    square : u.outputs ≡ u.inputs
    square = modules.square g.element u has

    departs : (g.before < u.states) × (g.input < u.inputs)
    departs = reversible.departs g.before g.input g.after g.output goes

    arrives : (g.after < u.states) × (g.output < u.outputs)
    arrives = reversible.arrives g.before g.input g.after g.output goes

    out : g.output < u.inputs
    out = subst (λ x. g.output < x) square arrives.1

    bank : IsBank k b u
    bank = modules-banks n k g.element u modules board has

    entering : IsBankEntering b u g.before g.input c
    entering =
        let rests = stands.rests g.element u g.before has g.has_state in
        record {
          state = rests.0;
          line = departs.1;
          resting = rests.1;
          enters = stands.place ∙ ap (on_board n.tables) g.enters;
        }

    cost : step_cost n s ≡ table_cost u g.before g.input
    cost = ap (entry_cost n s.states) g.enters ∙ rw (g.has_state, has) refl

    abbrev new : Config
    new = moved k b u g.before g.input c

    state_at : slice_get t.states g.element ≡ Some g.after
    state_at = ap (λ (xs : List ℕ). slice_get xs g.element) g.states
        ∙ slice_get-set_same s.states g.element g.after (slice_get_within s.states g.element g.before g.has_state)

    state_beside : (m : ℕ) → m ≢ g.element → slice_get t.states m ≡ slice_get s.states m
    state_beside m apart = ap (λ (xs : List ℕ). slice_get xs m) g.states
        ∙ slice_get-set_other s.states g.element m g.after apart

    same_table : (m : ℕ) (v : Table) → m ≡ g.element → slice_get n.tables m ≡ Some v → v ≡ u
    same_table m v same is = let h = subst (λ x. slice_get n.tables x ≡ Some v) same is in cc

    amid : (d : Config) → IsWithinBank b u g.before g.input c.states d → IsAmid n s t d
    amid d w = record {
      at_module = g.element;
      table = u;
      has_table = has;
      from = w.from;
      to = w.to;
      own = w.own;
      enters = w.enters;
      mark = mark;
    }
      where
        among : ((w.mark ≡ Some g.before) ⊎ (w.mark ≡ None)) ⊎ (w.mark ≡ mark_after (u.go g.before g.input))
            → ((w.mark ≡ slice_get s.states g.element) ⊎ (w.mark ≡ slice_get t.states g.element)) ⊎ (w.mark ≡ None)
        among (inl (inl old)) = inl (inl (old ∙ sym g.has_state))
        among (inl (inr none)) = inr none
        among (inr next) = inl (inr (next ∙ ap mark_after goes ∙ sym state_at))

        mark : (m : ℕ) (v : Table) → slice_get n.tables m ≡ Some v
            → (q : Option ℕ) × AreMarked d.states (base n.tables m) v.states v.inputs q
            × (((q ≡ slice_get s.states m) ⊎ (q ≡ slice_get t.states m)) ⊎ (q ≡ None))
        mark m v is = elim (eqb_tells m g.element) [
          | inl same ↦ (let one = same_table m v same.1 is in rw (same.1, one) (w.mark, w.marked, among w.among))
          | inr apart ↦ (let low : m < length s.states = (let h = slice_get_within n.tables m v is in let
              k = stands.count in omega arith) in
              let state = slice_get-get_or s.states m 0 low in
              let rests = stands.rests m v _ is state in (
                Some _,
                marks m v _ d.states (kept g.element m u v _ c.states d.states has is apart.1 w.beside rests.1),
                inl (inl (sym state)),
              ))
        ]

    stands_new : StandsFor n t new
    stands_new = record {
      count = ap length g.states ∙ length-set s.states g.element g.after ∙ stands.count;
      bars = ap (λ m. length (states_after c.states b u.inputs g.before m)) goes ∙ length-set _ _ _ ∙ length-set _ _ _
          ∙ stands.bars;
      rests = λ m v q is state. elim (eqb_tells m g.element) [
        | inl same ↦ (let one = same_table m v same.1 is in
            let there : slice_get t.states g.element ≡ Some q = subst (λ x. slice_get t.states x ≡ Some q) same.1 state
            in
            let number : q ≡ g.after = (let h = state_at in cc) in
            let rests = moved-IsResting k b u g.before g.input c reversible square bank entering in
            let marked = subst (λ m. IsResting new.states b u.states u.inputs m) (ap mark_after goes) rests in
            rw (same.1, one, number) (arrives.0, marked))
        | inr apart ↦ (let rests = stands.rests m v q is (sym (state_beside m apart.1) ∙ state) in (
          rests.0,
          kept g.element m u v q c.states new.states has is apart.1
              (λ x beside. moved-beside k b u g.before g.input c reversible square bank entering x beside) rests.1,
        ))
      ];
      admissible = subst (IsPlace n) (sym g.place) (place_after-IsPlace n modules.circuit (line_at g.element g.output)
          (rw has arrives.1));
      place = ap (λ m. place_after k.wires (exit_after b u g.before g.input m)) goes ∙ led g.element g.output u has out
          ∙ ap (on_board n.tables) (sym g.place);
    }

    made : (d : Config) × Passes (Goes k) test (step_cost n s) c d × StandsFor n t d
        × (d.steps ≡ c.steps + step_cost n s)
    made =
        let in_time = subst (λ x. c.steps + x ≤ clock) cost room in
        let path = bank_crosses k b u g.before g.input c test reversible square bank entering in_time
        (λ d w. holds d (amid d w)) in
        (new, subst (λ x. Passes (Goes k) test x c new) (sym cost) path, stands_new, ap (λ x. c.steps + x) (sym cost))

pub one-move : OneMove
one-move n k s t c test modules board stands g room holds =
    option_and_then_some (λ (u : Table). u.go g.before g.input) (slice_get n.tables g.element) (g.after, g.output)
    g.moves
    (λ u has goes. made n k modules board s t c test stands g room holds u has goes)
