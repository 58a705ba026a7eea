-- Commands one after the other.
use Rattle.std.specs.Prelude.{◌≡◌, ℕ, ◌+◌, ◌*◌, ◌<◌, ◌≤◌, Bool, false, List, [], ◌∷◌, length, Some, slice_get}
use Rattle.std.specs.Prelude.{slice_set, refl}
use Rattle.std.proofs.Common.{zero, suc, arith, sym, ap, subst, ◌∙◌, inl}
use Rattle.std.proofs.lemmas.Option.{slice_get_within}
use Rattle.bn_circuits.specs.Circuits.{Circuit, place_after}
use Rattle.bn_circuits.proofs.StepLemmas.{slice_get-set_same, slice_get-set_other}
use Rattle.bn_circuits.specs.declared.place.Place.TheVariants.{Enter}
use Rattle.bn_rsm.specs.Costs.{table_cost, cost_by, move_cost}
use Rattle.bn_rsm.specs.Laws.{CostsAreBounded}
use Rattle.bn_machine.specs.Tape.{Tape, moved}
use Rattle.bn_machine.specs.Window.{IsBeyond}
use Rattle.bn_machine.specs.declared.quint.Side.{Side}
use Rattle.bn_machine.specs.declared.quint.Side.TheVariants as side
use Rattle.bn_machine.specs.Outcome.{Limits}
use Rattle.bn_quad.specs.Quadruples.{Configuration, Quadruples}
use Rattle.bn_network.specs.declared.cell_line.CellLine.{CellLine}
use Rattle.bn_circuits.specs.Situations.{Situation, situation, Turns}
use Rattle.bn_rsm.specs.RunCosts.{step_cost, entry_cost}
use Rattle.bn_network.specs.Cells.{IsLineOf, line_number}
use Rattle.bn_network.specs.Controls.{ControlState, ControlMove, ControlLine, ControlGoes, Occurs, Tape as to_tape}
use Rattle.bn_network.specs.Controls.{symbol_count, in_number, out_number, control_lines, IsNumbering, shift_line}
use Rattle.bn_network.specs.Networks.{IsNetwork, IsCommand, IsTape, first_cell, cells_in, IsControlAt, ShowsTapes}
use Rattle.bn_network.specs.Networks.{elements_by, bank_size, cell_size, left_of}
use Rattle.bn_circuits.specs.Circuits.{line_at}
use Rattle.bn_network.specs.Moments.{Travels, TellsMoments}
use Rattle.bn_network_laws.specs.Commands.{Does, does_read, does_write, does_right, does_left, Commands, Parted}
use Rattle.bn_network_laws.specs.Commands.{tape_elements, right_of, way_to}
use Rattle.bn_network_laws.proofs.PathLemmas.{stays, steps, travels_join}
use Rattle.bn_network_laws.proofs.PlaceLemmas.{after_control, command_place, cells_calm, taken_calm, middle_calm}
use Rattle.bn_network.proofs.OrderLemmas.{IsMiddle}
use Rattle.bn_network_laws.specs.Ends.{tape_of, put_tape}
use Rattle.bn_network_laws.proofs.ShownLemmas.{shown_at, shown_with, shown_beside}

-- a command that the control awaits the answer of, in this state
pub record Stop : Type 0 where
  pub state : ControlState
  pub tape : ℕ
  pub command : CellLine
  pub answer : CellLine

-- the first of these commands, or what comes after them
abbrev pub lead : ControlMove → List Stop → ControlMove
lead e [] = e
lead e (x ∷ xs) = (x.state, to_tape x.tape x.command)

-- the first of these commands is no state's first
abbrev pub IsLater : Quadruples → List Stop → Type 0
IsLater m [] = Unit {0}
IsLater m (x ∷ xs) = IsMiddle m x.state

-- the control goes from each to the next, and only the first one can be a state's first command
abbrev pub AreStops : Quadruples → ControlMove → List Stop → Type 0
AreStops m e [] = Unit {0}
AreStops m e (x ∷ xs) = ControlGoes m x.state (to_tape x.tape x.answer) (lead e xs) × Occurs m (lead e xs).0
    × IsLater m xs × AreStops m e xs

-- the tapes obey the commands, from c to d, in n moves
abbrev pub AllDo : Quadruples → Limits → List Stop → Configuration ℕ → Configuration ℕ → ℕ → Type 0
AllDo m l [] c d n = (c ≡ d) × (n ≡ 0)
AllDo m l (x ∷ xs) c d n = (after : Tape) × (i : ℕ) × (j : ℕ) × IsTape x.tape
    × Does m l x.tape (tape_of c x.tape) x.command x.answer after i
    × (n ≡ (i + 1) + j) × AllDo m l xs (put_tape c x.tape after) d j

-- the control has sent this command, and the cells show these tapes
pub record Stands (m : Quadruples) (l : Limits) (names : List ControlState) (k : Circuit) (s : Situation)
    (e : ControlMove) (c : Configuration ℕ) : Type 0 where
  pub waits : IsControlAt names s.states e.0
  pub place : s.place ≡ place_after k.wires (line_at 0 (out_number m e.1))
  pub shows : ShowsTapes m l s.states c

-- what a tape obeys is a command in range
pub is_command : (m : Quadruples) (l : Limits) (t : ℕ) (x : Tape) (c a : CellLine) (y : Tape) (n : ℕ)
    → Does m l t x c a y n → IsCommand c
    × IsLineOf (symbol_count m t) c
is_command m l t x c a y n (does_read command answer after count) =
    subst (λ (v : CellLine). IsCommand v × IsLineOf (symbol_count m t) v) (sym command) (tt, tt)
is_command m l t x c a y n (does_write u small blank command answer after count) = subst (λ (v : CellLine). IsCommand v
    × IsLineOf (symbol_count m t) v) (sym command) (tt, small)
is_command m l t x c a y n (does_right room command answer after count) = subst (λ (v : CellLine). IsCommand v
    × IsLineOf (symbol_count m t) v) (sym command) (tt, tt)
is_command m l t x c a y n (does_left room command answer after count) = subst (λ (v : CellLine). IsCommand v
    × IsLineOf (symbol_count m t) v) (sym command) (tt, tt)

-- a shift is a command
pub shift_command : (to : Side) → IsCommand (shift_line to)
shift_command side.Left = tt
shift_command side.Right = tt

-- and has no symbol out of range
pub shift_is_line : (z : ℕ) (to : Side) → IsLineOf z (shift_line to)
shift_is_line z side.Left = tt
shift_is_line z side.Right = tt

-- a tape's elements and the control's are among all
pub few_elements : (m : Quadruples) (l : Limits) (states t : ℕ) → IsTape t
    → 8 * tape_elements m l t + 4 * bank_size states (control_lines m) ≤ 8 * elements_by m l states
few_elements m l states t is = by_tape t is (cells_in l 1 * cell_size (symbol_count m 1))
    (cells_in l 2 * cell_size (symbol_count m 2)) (cells_in l 3 * cell_size (symbol_count m 3))
    (bank_size states (control_lines m)) refl refl refl
  where
    by_tape : (t : ℕ) → IsTape t → (a b c d : ℕ) → a ≡ tape_elements m l 1 → b ≡ tape_elements m l 2
        → c ≡ tape_elements m l 3
        → 8 * tape_elements m l t + 4 * d ≤ 8 * (d + a + b + c)
    by_tape zero is a b c d ea eb ec = absurd (let low = is.low in omega arith)
    by_tape (suc zero) is a b c d ea eb ec = subst (λ v. 8 * v + 4 * d ≤ 8 * (d + a + b + c)) ea (omega arith)
    by_tape (suc (suc zero)) is a b c d ea eb ec = subst (λ v. 8 * v + 4 * d ≤ 8 * (d + a + b + c)) eb (omega arith)
    by_tape (suc (suc (suc zero))) is a b c d ea eb ec = subst (λ v. 8 * v + 4 * d ≤ 8 * (d + a + b + c)) ec
        (omega arith)
    by_tape (suc (suc (suc (suc t)))) is a b c d ea eb ec = absurd (let high = is.high in omega arith)

module _ (costs : CostsAreBounded) (m : Quadruples) (l : Limits) (names : List ControlState) (k : Circuit)
    (numbering : IsNumbering m names) (net : IsNetwork m l names k) (test : Situation → Bool) where
  -- the control's move
  pub control_turns : (s : Situation) (q : ControlState) (i : ControlLine) (e : ControlMove) (c : Configuration ℕ)
      → IsControlAt names s.states q
      → s.place ≡ Enter 0 (in_number m i) → ShowsTapes m l s.states c
      → ControlGoes m q i e → Occurs m e.0 → (t : Situation) × Travels k test 1
      (4 * bank_size (length names) (control_lines m)) s t
      × Stands m l names k t e c
  control_turns s q i e c waits here shows goes occurs =
      let to = numbering.each e.0 occurs in
      let move : net.control.go waits.number (in_number m i) ≡ Some (to.0, out_number m e.1) =
      (net.is_control.goes waits.number (in_number m i) to.0 (out_number m e.1)).1
      (record {
        state = q;
        line = i;
        move = e;
        goes = goes;
        from = waits.named;
        enters = refl;
        to = to.1;
        exits = refl;
      }) in
      let t = situation (slice_set s.states 0 to.0) (place_after k.wires (line_at 0 (out_number m e.1))) in
      let turns : Turns k s t = record {
        element = 0;
        input = in_number m i;
        output = out_number m e.1;
        before = waits.number;
        after = to.0;
        enters = here;
        has_state = waits.is;
        moves = rw net.tables move;
        states = refl;
        place = refl;
      } in (
        t,
        steps k test s t (4 * bank_size (length names) (control_lines m)) turns
            (cost waits.number to.0 move here waits.is),
        record {
          waits = record {
            number = to.0;
            is = slice_get-set_same s.states 0 to.0 (slice_get_within s.states 0 waits.number waits.is);
            named = to.1;
          };
          place = refl;
          shows = shown_beside m l s.states (slice_set s.states 0 to.0) c shows
              (λ f some. slice_get-set_other s.states 0 f to.0 (omega arith));
        },
      )
    where
      bound : (states inputs n r j o lines : ℕ) → states ≡ length names → inputs ≡ control_lines m → n < states
          → j < inputs → r < states → o < inputs
          → move_cost states inputs n j r o ≤ 4 * bank_size (length names) (control_lines m)
      bound states inputs n r j o lines es ei a b c d = subst (λ x. move_cost states inputs n j r o
          ≤ 4 * bank_size x (control_lines m)) es (subst (λ y. move_cost states inputs n j r o ≤ 4 * bank_size states y)
          ei (costs states inputs n j r o a b c d).0)

      cost : (n r : ℕ) → net.control.go n (in_number m i) ≡ Some (r, out_number m e.1)
          → s.place ≡ Enter 0 (in_number m i) → slice_get s.states 0 ≡ Some n
          → step_cost k s ≤ 4 * bank_size (length names) (control_lines m)
      cost n r move here is =
          let there : step_cost k s ≡ table_cost net.control n (in_number m i) =
          ap (entry_cost k s.states) here ∙ rw (net.tables, is) refl in
          let moved : table_cost net.control n (in_number m i) ≡ move_cost net.control.states net.control.inputs n
          (in_number m i) r (out_number m e.1) = ap (cost_by net.control.states net.control.inputs n
          (in_number m i)) move in
          let departs = net.is_control.reversible.departs n (in_number m i) r (out_number m e.1) move in
          let arrives = net.is_control.reversible.arrives n (in_number m i) r (out_number m e.1) move in
          let high : out_number m e.1 < net.control.inputs = rw (net.is_control.inputs, ← net.is_control.outputs)
          arrives.1 in
          let small = bound net.control.states net.control.inputs n r (in_number m i) (out_number m e.1) 0
          net.is_control.states net.is_control.inputs departs.0 departs.1 arrives.0 high in
          omega arith

  module _ (tells : TellsMoments m names k test) (command_law : Commands) where
    -- a command, its answer, and the control's next one
    pub stop : (s : Situation) (x : Stop) (e : ControlMove) (c : Configuration ℕ) (after : Tape) (i : ℕ) → IsTape x.tape
        → Does m l x.tape (tape_of c x.tape) x.command x.answer after i
        → ControlGoes m x.state (to_tape x.tape x.answer) e → Occurs m e.0
        → Stands m l names k s (x.state, to_tape x.tape x.command) c
        → (t : Situation) × Travels k test (i + 1) (8 * elements_by m l (length names)) s t
        × Stands m l names k t e (put_tape c x.tape after)
    stop s x e c after i is does goes occurs at =
        let line = is_command m l x.tape (tape_of c x.tape) x.command x.answer after i does in
        let start : s.place ≡ Enter (first_cell l x.tape) (line_number (symbol_count m x.tape) x.command) =
        at.place ∙ command_place m l names k net x.tape x.command is line.0 line.1 in
        let done = (command_law m l names k test x.tape s (tape_of c x.tape) net is
        (cells_calm m l names k net test tells x.tape is) (shown_at m l s.states c x.tape is at.shows)).0 x.command
        x.answer after i does start in
        let low = after_control l x.tape is in
        let waits : IsControlAt names done.last.states x.state =
        record { number = at.waits.number; is = done.others 0 (inl low) ∙ at.waits.is; named = at.waits.named } in
        let shows = shown_with m l s.states done.last.states c x.tape after is at.shows done.shows done.others in
        let turned = control_turns done.last x.state (to_tape x.tape x.answer) e (put_tape c x.tape after) waits
        done.place shows goes occurs in
        let quiet = taken_calm m l names k net test tells done.last (in_number m (to_tape x.tape x.answer)) done.place
        in (
          turned.0,
          travels_join k test (i + 1) i 1 (8 * elements_by m l (length names)) (8 * tape_elements m l x.tape)
              (4 * bank_size (length names) (control_lines m)) s done.last turned.0 refl
              (few_elements m l (length names) x.tape is) (λ some more. quiet)
              (record { path = done.path; cost = done.cost }) turned.1,
          turned.2,
        )

    -- a shift that leaves the window
    pub part : (s : Situation) (q : ControlState) (t : ℕ) (to : Side) (c : Configuration ℕ) → IsTape t
        → IsBeyond (left_of l t) (right_of l t) to (moved (tape_of c t).head (way_to to))
        → Stands m l names k s (q, to_tape t (shift_line to)) c
        → Parted m l k test t s (tape_of c t) to
    part s q t to c is beyond at =
        (command_law m l names k test t s (tape_of c t) net is (cells_calm m l names k net test tells t is)
        (shown_at m l s.states c t is at.shows)).1 to beyond
        (at.place ∙ command_place m l names k net t (shift_line to) is (shift_command to)
        (shift_is_line (symbol_count m t) to))

    -- where a later command was sent there is no moment
    later_calm : (t : Situation) (e : ControlMove) (xs : List Stop) (c d : Configuration ℕ) (j : ℕ) → 0 < j
        → IsLater m xs → AllDo m l xs c d j
        → Stands m l names k t (lead e xs) c → test t ≡ false
    later_calm t e [] c d j more later obey at = absurd (let none = obey.1 in omega arith)
    later_calm t e (y ∷ ys) c d j more later obey at =
        let line = is_command m l y.tape (tape_of c y.tape) y.command y.answer obey.0 obey.1 obey.4 in
        middle_calm m l names k net test tells t y.state (first_cell l y.tape)
        (line_number (symbol_count m y.tape) y.command) at.waits later
        (at.place ∙ command_place m l names k net y.tape y.command obey.3 line.0 line.1)

    -- commands one after the other
    pub chain : (xs : List Stop) (e : ControlMove) (c d : Configuration ℕ) (n : ℕ) (s : Situation) → AreStops m e xs
        → AllDo m l xs c d n
        → Stands m l names k s (lead e xs) c
        → (t : Situation) × Travels k test n (length xs * (8 * elements_by m l (length names))) s t
        × Stands m l names k t e d
    chain [] e c d n s are obey at = (
      s,
      subst (λ i. Travels k test i (0 * (8 * elements_by m l (length names))) s s) (sym obey.1)
          (stays k test s (0 * (8 * elements_by m l (length names)))),
      subst (λ x. Stands m l names k s e x) obey.0 at,
    )
    chain (x ∷ xs) e c d n s are obey at =
        let one = stop s x (lead e xs) c obey.0 obey.1 obey.3 obey.4 are.0 are.1 at in
        let rest = chain xs e (put_tape c x.tape obey.0) d obey.2 one.0 are.3 obey.6 one.2 in (
          rest.0,
          travels_join k test n (obey.1 + 1) obey.2 (suc (length xs) * (8 * elements_by m l (length names)))
              (8 * elements_by m l (length names)) (length xs * (8 * elements_by m l (length names))) s one.0 rest.0
              obey.5 (counts (length xs) (8 * elements_by m l (length names)))
              (λ some more. later_calm one.0 e xs (put_tape c x.tape obey.0) d obey.2 more are.2 obey.6 one.2) one.1
              rest.1,
          rest.2,
        )
      where
        counts : (a b : ℕ) → b + a * b ≤ suc a * b
        counts a b = grind arith
