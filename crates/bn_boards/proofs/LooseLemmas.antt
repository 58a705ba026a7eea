-- Where a module has no move, the signal leaves its bank by the loose line.
use Rattle.std.specs.Prelude.{◌≡◌, ℕ, ◌+◌, ◌<◌, ◌≤◌, Bool, true, List, length, Option, Some, None, slice_get, slice_set}
use Rattle.std.specs.Prelude.{◌⊎◌, refl}
use Rattle.std.specs.Option.{option_map_or}
use Rattle.std.proofs.Common.{arith, sym, ap, subst, ◌∙◌, inl, inr}
use Rattle.std.proofs.lemmas.Bool.Decides.{eqb_tells}
use Rattle.std.proofs.lemmas.Option.{slice_get_within, slice_get-get_or}
use Rattle.bn_element.specs.Tables.{Table, IsReversible}
use Rattle.bn_lists.specs.Runs.{Passes}
use Rattle.bn_circuits.specs.Circuits.{Circuit, clock, target, place_at, place_after, Goes, IsPlace, inputs_of}
use Rattle.bn_circuits.specs.declared.line.Line.{Line}
use Rattle.bn_circuits.specs.declared.place.Place.TheVariants.{Enter, Left}
use Rattle.bn_circuits.specs.declared.config.Config.{Config}
use Rattle.bn_element.specs.Rotary.{east, west}
use Rattle.bn_circuits.specs.Circuits.{line_at}
use Rattle.bn_rsm.specs.Costs.{table_cost}
use Rattle.bn_realise.specs.Banks.{IsBank, IsBankWire, IsBankEntering, IsResting, IsWithinBank, AreMarked, column_at}
use Rattle.bn_realise.specs.Banks.{turning_line, moved, mark_after, exit_after}
use Rattle.bn_realise.proofs.BankCrossingLemmas.{bank_crosses, moved-IsResting, moved-beside}
use Rattle.bn_realise.proofs.BankWiresLemmas.{bank_wire-IsWithinLines, turning-wire}
use Rattle.bn_circuits.specs.Situations.{Situation, situation, IsAtEnd}
use Rattle.bn_rsm.specs.RunCosts.{step_cost, entry_cost}
use Rattle.bn_boards.specs.Boards.{AreModules, IsBoard, IsBoardWire, own, between, base, on_board, StandsFor}
use Rattle.bn_boards.specs.Boards.{IsAmid, IsLoose}
use Rattle.bn_boards.specs.BoardLaws.{LooseMove}
use Rattle.bn_boards.proofs.BankedLemmas.{modules-banks}
use Rattle.bn_boards.proofs.MovedLemmas.{in_bank, other_bank, kept, marks}

module _ (n k : Circuit) (modules : AreModules n) (board : IsBoard n k) where
  pub no_turning_wire : (e q i : ℕ) (t : Table) (to : Line) → slice_get n.tables e ≡ Some t → q < t.states
      → i < t.inputs
      → t.go q i ≡ None
      → IsBoardWire n (turning_line (base n.tables e) t q i) to → ⊥
  no_turning_wire e q i t to has state row none (own m u is wire) =
      elim (eqb_tells m e) [
        | inl same ↦ (let one : u ≡ t = (let h = subst (λ x. slice_get n.tables x ≡ Some u) same.1 is in cc) in
            let wire' = subst (λ (v : Table). IsBankWire (base n.tables e) v (turning_line (base n.tables e) t q i) to)
            one (subst (λ x. IsBankWire (base n.tables x) u (turning_line (base n.tables e) t q i) to) same.1 wire)
            in
            let turned = turning-wire (base n.tables e) t (modules.circuit.reversible e t has) (modules.square e t has)
            q i to row wire' in
            let goes = turned.goes in cc)
        | inr apart ↦ (let lines = bank_wire-IsWithinLines (base n.tables m) u (modules.circuit.reversible m u is)
            (modules.square m u is) (turning_line (base n.tables e) t q i) to wire in
            let place = in_bank (base n.tables e) t q i state (omega arith) in
            let low = lines.from_low in
            let high = lines.from_high in
            elim (other_bank n.tables m e u t (column_at (base n.tables e) t.inputs q + i) is has apart.1 low
            (omega arith)) [ inl before ↦ omega arith | inr after ↦ omega arith ])
      ]
  no_turning_wire e q i t to has state row none (between out into u wired is leaves ends) = let sides : west ≡ east =
      ap (λ (l : Line). l.line) leaves in omega arith

  module _ (s : Situation) (e i : ℕ) (c : Config) (test : Config
      → Bool) (stands : StandsFor n s c) (ended : IsAtEnd n s) (enters : s.place ≡ Enter e i)
      (room : c.steps + step_cost n s ≤ clock) (holds : (d : Config)
      → IsAmid n s s d → test d ≡ true)
      (u : Table) (has : slice_get n.tables e ≡ Some u) (row : i < u.inputs) (q : ℕ)
      (state : slice_get s.states e ≡ Some q) where
    abbrev b : ℕ
    b = base n.tables e

    moves-not : (m : Option (ℕ × ℕ)) → u.go q i ≡ m → u.go q i ≡ None
    moves-not None is = is
    moves-not (Some m) is = absurd (ended (situation (slice_set s.states e m.0) (place_after n.wires (line_at e m.1)))
        (record {
          element = e;
          input = i;
          output = m.1;
          before = q;
          after = m.0;
          enters = enters;
          has_state = state;
          moves = rw has is;
          states = refl;
          place = refl;
        }))

    none : u.go q i ≡ None
    none = moves-not (u.go q i) refl

    reversible : IsReversible u
    reversible = modules.circuit.reversible e u has

    square : u.outputs ≡ u.inputs
    square = modules.square e u has

    bank : IsBank k b u
    bank = modules-banks n k e u modules board has

    rests : (q < u.states) × IsResting c.states b u.states u.inputs (Some q)
    rests = stands.rests e u q has state

    entering : IsBankEntering b u q i c
    entering = record {
      state = rests.0;
      line = row;
      resting = rests.1;
      enters = stands.place ∙ ap (on_board n.tables) enters;
    }

    cost : step_cost n s ≡ table_cost u q i
    cost = ap (entry_cost n s.states) enters ∙ rw (state, has) refl

    abbrev new : Config
    new = moved k b u q i c

    amid : (d : Config) → IsWithinBank b u q i c.states d → IsAmid n s s d
    amid d w = record {
      at_module = e;
      table = u;
      has_table = has;
      from = w.from;
      to = w.to;
      own = w.own;
      enters = w.enters;
      mark = mark;
    }
      where
        among : ((w.mark ≡ Some q) ⊎ (w.mark ≡ None)) ⊎ (w.mark ≡ mark_after (u.go q i))
            → ((w.mark ≡ slice_get s.states e) ⊎ (w.mark ≡ slice_get s.states e)) ⊎ (w.mark ≡ None)
        among (inl (inl old)) = inl (inl (old ∙ sym state))
        among (inl (inr gone)) = inr gone
        among (inr next) = inr (next ∙ ap mark_after none)

        mark : (m : ℕ) (v : Table) → slice_get n.tables m ≡ Some v
            → (p : Option ℕ) × AreMarked d.states (base n.tables m) v.states v.inputs p
            × (((p ≡ slice_get s.states m) ⊎ (p ≡ slice_get s.states m)) ⊎ (p ≡ None))
        mark m v is = elim (eqb_tells m e) [
          | inl same ↦ (let one : v ≡ u = (let h = subst (λ x. slice_get n.tables x ≡ Some v) same.1 is in cc) in rw
              (same.1, one) (w.mark, w.marked, among w.among))
          | inr apart ↦ (let low : m < length s.states = (let h = slice_get_within n.tables m v is in let
              count = stands.count in omega arith) in
              let at_m = slice_get-get_or s.states m 0 low in
              let others = stands.rests m v _ is at_m in (
                Some _,
                marks n k modules board m v _ d.states (kept n k modules board e m u v _ c.states d.states has is
                    apart.1 w.beside others.1),
                inl (inl (sym at_m)),
              ))
        ]

    leaves : (v : Option Line) → target k.wires (turning_line b u q i) ≡ v
        → place_at v (turning_line b u q i) ≡ Left (turning_line b u q i).element west
    leaves None is = refl
    leaves (Some to) is = absurd (no_turning_wire e q i u to has rests.0 row none
        ((board.wires (turning_line b u q i) to).0 is))

    made : (d : Config) × Passes (Goes k) test (step_cost n s) c d × IsLoose n s d
    made =
        let in_time = subst (λ x. c.steps + x ≤ clock) cost room in
        let path = bank_crosses k b u q i c test reversible square bank entering in_time (λ d w. holds d (amid d w)) in
        let resting = subst (λ m. IsResting new.states b u.states u.inputs m) (ap mark_after none)
        (moved-IsResting k b u q i c reversible square bank entering) in (
          new,
          subst (λ x. Passes (Goes k) test x c new) (sym cost) path,
          record {
            at_module = e;
            line = i;
            table = u;
            state = q;
            enters = enters;
            has_table = has;
            has_state = state;
            no_move = none;
            left = ap (λ m. place_after k.wires (exit_after b u q i m)) none
                ∙ leaves (target k.wires (turning_line b u q i)) refl;
            unmarked = record { bottoms = λ j there. (resting.columns j there).bottom };
            rests = λ m v p apart is at.
                let others = stands.rests m v p is at in (
                  others.0,
                  kept n k modules board e m u v p c.states new.states has is apart
                      (λ x beside. moved-beside k b u q i c reversible square bank entering x beside) others.1,
                );
            mark = after (record { bottoms = λ j there. (resting.columns j there).bottom });
          },
        )
      where
        after : AreMarked new.states b u.states u.inputs None → (m : ℕ) (v : Table) → slice_get n.tables m ≡ Some v
            → (p : Option ℕ)
            × AreMarked new.states (base n.tables m) v.states v.inputs p × ((p ≡ slice_get s.states m) ⊎ (p ≡ None))
        after gone m v is = elim (eqb_tells m e) [
          | inl same ↦ (let one : v ≡ u = (let h = subst (λ x. slice_get n.tables x ≡ Some v) same.1 is in cc) in rw
              (same.1, one) (None, gone, inr refl))
          | inr apart ↦ (let low : m < length s.states = (let h = slice_get_within n.tables m v is in let
              count = stands.count in omega arith) in
              let at_m = slice_get-get_or s.states m 0 low in
              let others = stands.rests m v _ is at_m in (
                Some _,
                marks n k modules board m v _ new.states (kept n k modules board e m u v _ c.states new.states
                    has is apart.1 (λ x beside. moved-beside k b u q i c reversible square bank entering x beside)
                    others.1),
                inl (sym at_m),
              ))
        ]

has_lines : (ts : List Table) (e i : ℕ) (o : Option Table) → slice_get ts e ≡ o
    → i < option_map_or (λ (t : Table). t.inputs) o 0 → (u : Table)
    × (slice_get ts e ≡ Some u) × (i < u.inputs)
has_lines ts e i None is low = absurd (omega arith)
has_lines ts e i (Some u) is low = (u, is, low)

pub loose-move : LooseMove
loose-move n k s e i c test modules board stands ended enters room holds =
    let there : i < inputs_of n.tables e = subst (IsPlace n) enters stands.admissible in
    let found = has_lines n.tables e i (slice_get n.tables e) refl there in
    let low : e < length s.states = (let h = slice_get_within n.tables e found.0 found.1 in let count = stands.count in
    omega arith) in
    made n k modules board s e i c test stands ended enters room holds found.0 found.1 found.2 _
    (slice_get-get_or s.states e 0 low)
