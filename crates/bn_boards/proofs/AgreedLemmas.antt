-- What the board's test of moments and the network's test have to do with each other.
use Rattle.std.specs.Prelude.{◌≡◌, ◌≢◌, ◌↔◌, ℕ, ◌+◌, ◌-◌, ◌*◌, ◌<◌, ◌==◌, ◌&&◌, Bool, true, false, nat_lt, List, []}
use Rattle.std.specs.Prelude.{◌∷◌, length, position, is_some, Option, Some, None, slice_get, refl, ◌⊎◌}
use Rattle.std.specs.Option.{option_map_or}
use Rattle.std.proofs.Common.{zero, suc, arith, sym, ap, subst, ◌∙◌, inl, inr}
use Rattle.std.proofs.lemmas.Bool.Decides.{eqb_tells}
use Rattle.std.proofs.lemmas.Option.{slice_get_within, get_or_from_slice_get}
use Rattle.bn_element.specs.Tables.{Table}
use Rattle.bn_circuits.specs.Circuits.{Circuit, place_after, place_at, IsPlace}
use Rattle.bn_circuits.proofs.StepLemmas.{same_lines}
use Rattle.bn_circuits.specs.declared.place.Place.{Place}
use Rattle.bn_circuits.specs.declared.place.Place.TheVariants.{Enter, Left}
use Rattle.bn_circuits.specs.declared.config.Config.{Config}
use Rattle.bn_element.specs.Rotary.{east, west}
use Rattle.bn_column.specs.Columns.{bar}
use Rattle.bn_machine.specs.Outcome.{Limits}
use Rattle.bn_quad.specs.Quadruples.{Rule, Quadruples, Configuration, IsQuadMachine, final_state_of}
use Rattle.bn_realise.specs.Banks.{column_at, bottom_at, bank_input_line}
use Rattle.bn_realise.proofs.BankWiresLemmas.{bank_wire-IsWithinLines, bank_wire-no_input}
use Rattle.bn_circuits.specs.Situations.{Situation}
use Rattle.bn_network.specs.Cells.{cell_table, line_number, cell_line_count}
use Rattle.bn_network.specs.Controls.{ControlState, End, ControlMove, IsNumbering, is_end, symbol_count, lines_before}
use Rattle.bn_network.specs.Controls.{out_number, command_offset, IsFirstKept, final_kept, sent_kept}
use Rattle.bn_network.specs.ControlLaws.{HasEntries}
use Rattle.bn_network.specs.Networks.{IsNetwork, IsTape, commands, cells_in, first_cell}
use Rattle.bn_circuits.specs.Circuits.{line_at}
use Rattle.bn_network.specs.Moments.{IsMoment, at_end, sent, IsMomentOf, TellsMoments}
use Rattle.bn_boards.specs.Boards.{AreModules, StandsFor, IsAmid, IsLoose, base, on_board, output_at}
use Rattle.bn_boards.specs.Layouts.{Layout, IsLayout, same_place, command_place, end_place, is_marked_at, is_sent}
use Rattle.bn_boards.specs.Layouts.{moment_at, is_moment, first_element, cell_element, cell_output, symbol_count_at}
use Rattle.bn_boards.specs.Layouts.{lines_at}
use Rattle.bn_boards.proofs.MovedLemmas.{in_bank}
use Rattle.bn_boards.proofs.SameLemmas.{number_once}
use Rattle.bn_boards.proofs.FirstLemmas.{bar_zero, position_at, position_holds, position_same, some_holds}
use Rattle.bn_boards.proofs.FirstLemmas.{none_holds, below, not_below}
use Rattle.bn_boards.proofs.ModuleLemmas.{found, one_table, place_once, banks_apart, input_table, output_table}
use Rattle.bn_boards.proofs.CommandLemmas.{IsCommandMove, command_number, entry-IsCommandMove, entry_low, final_low}
use Rattle.bn_boards.proofs.TabledLemmas.{machine, layout, has_control, has_cell, cell_base, every}

-- two places are one, or they are not
place_tells : (p q : Place) → ((same_place p q ≡ true) × (p ≡ q)) ⊎ ((same_place p q ≡ false) × (p ≢ q))
place_tells (Enter e i) (Enter f j) =
    elim (eqb_tells e f) [
      | inl first ↦ (elim (eqb_tells i j) [
        | inl second ↦ inl (
          rw (first.0, second.0) refl,
          λ k. Enter (first.1 k) (second.1 k),
        )
        | inr second ↦ inr (rw (first.0, second.0) refl, λ h. second.1 (cc))
      ])
      | inr first ↦ inr (rw first.0 refl, λ h. first.1 (cc))
    ]
place_tells (Enter e i) (Left f j) = inr (refl, λ h. absurd (cc))
place_tells (Left e i) (Enter f j) = inr (refl, λ h. absurd (cc))
place_tells (Left e i) (Left f j) =
    elim (eqb_tells e f) [
      | inl first ↦ (elim (eqb_tells i j) [
        | inl second ↦ inl (
          rw (first.0, second.0) refl,
          λ k. Left (first.1 k) (second.1 k),
        )
        | inr second ↦ inr (rw (first.0, second.0) refl, λ h. second.1 (cc))
      ])
      | inr first ↦ inr (rw first.0 refl, λ h. first.1 (cc))
    ]

-- two pairs of places are each one place together
pub same_place_by : (p q r s : Place) → (p ≡ q → r ≡ s) → (r ≡ s → p ≡ q) → same_place p q ≡ same_place r s
same_place_by p q r s first second =
    elim (place_tells p q) [
      | inl one ↦ (elim (place_tells r s) [ inl two ↦ one.0 ∙ sym two.0 | inr two ↦ absurd (two.1 (first one.1)) ])
      | inr one ↦ (elim (place_tells r s) [ inl two ↦ absurd (one.1 (second two.1)) | inr two ↦ one.0 ∙ sym two.0 ])
    ]

-- the test of places that differ
pub same_place_not : (p q : Place) → p ≢ q → same_place p q ≡ false
same_place_not p q apart = elim (place_tells p q) [ inl one ↦ absurd (apart one.1) | inr one ↦ one.0 ]

-- the test of places that are one
pub same_place_is : (p q : Place) → p ≡ q → same_place p q ≡ true
same_place_is p q same = elim (place_tells p q) [ inl one ↦ one.0 | inr one ↦ absurd (one.1 same) ]

-- what the test tells
pub is_same_place : (p q : Place) → same_place p q ≡ true → p ≡ q
is_same_place p q h = elim (place_tells p q) [ inl one ↦ one.1 | inr one ↦ absurd (let no = one.0 in cc) ]

-- two tests that hold together
pub both_true : (a b : Bool) → (a && b) ≡ true → (a ≡ true) × (b ≡ true)
both_true true b h = (refl, h)
both_true false b h = absurd (cc)

-- an output is no input
no_enter : (ts : List Table) (e o : ℕ) (t : Option Table) (a b : ℕ) → output_at ts e t o ≡ Enter a b → ⊥
no_enter ts e o None a b h = absurd (cc)
no_enter ts e o (Some t) a b h = absurd (cc)

-- each tape has a cell
pub some_cells : (l : Limits) (t : ℕ) → IsTape t → 0 < cells_in l t
some_cells l zero tape = absurd (let low = tape.low in omega arith)
some_cells l (suc zero) tape = omega arith
some_cells l (suc (suc zero)) tape = omega arith
some_cells l (suc (suc (suc zero))) tape = omega arith
some_cells l (suc (suc (suc (suc t)))) tape = absurd (let high = tape.high in omega arith)

-- and its first one is not the control
pub first_low : (l : Limits) (t : ℕ) → IsTape t → 0 < first_cell l t
first_low l zero tape = absurd (let low = tape.low in omega arith)
first_low l (suc zero) tape = omega arith
first_low l (suc (suc zero)) tape = omega arith
first_low l (suc (suc (suc zero))) tape = omega arith
first_low l (suc (suc (suc (suc t)))) tape = absurd (let high = tape.high in omega arith)

-- the control is in the state with this number
abbrev pub control_in : ℕ → List ℕ → Bool
control_in q states = option_map_or (λ s. s == q) (slice_get states 0) false

module _ (rules : List (Rule ℕ)) (states x y z : ℕ) (l : Limits) (names : List ControlState) (n : Circuit)
    (firsts awaited : List (Option (ℕ × ℕ))) where
  -- the machine, by its parts
  abbrev m : Quadruples
  m = machine rules states x y z l names n firsts awaited

  -- the layout of its board
  abbrev b : Layout
  b = layout rules states x y z l names n firsts awaited

  -- where a command leads on the board
  command_at : (t o : ℕ) → IsTape t → o < symbol_count_at b t + 3
      → command_place b (lines_before (x ∷ y ∷ z ∷ []) (t - 1) + o) ≡ Enter (first_element b t + o) west
  command_at zero o tape low = absurd (let some = tape.low in omega arith)
  command_at (suc zero) o tape low =
      let zs = x ∷ y ∷ z ∷ [] in
      let c : ℕ = lines_before zs 0 + o in
      let one : nat_lt c (lines_before zs 1) ≡ true = below c (lines_before zs 1) (omega arith) in
      let place : first_element b 1 + (c - lines_before zs 0) ≡ first_element b 1 + o = omega arith in
      rw one (ap (λ e. Enter e west) place)
  command_at (suc (suc zero)) o tape low =
      let zs = x ∷ y ∷ z ∷ [] in
      let c : ℕ = lines_before zs 1 + o in
      let one : nat_lt c (lines_before zs 1) ≡ false = not_below c (lines_before zs 1) (omega arith) in
      let two : nat_lt c (lines_before zs 2) ≡ true = below c (lines_before zs 2) (omega arith) in
      let place : first_element b 2 + (c - lines_before zs 1) ≡ first_element b 2 + o = omega arith in
      rw (one, two) (ap (λ e. Enter e west) place)
  command_at (suc (suc (suc zero))) o tape low =
      let zs = x ∷ y ∷ z ∷ [] in
      let c : ℕ = lines_before zs 2 + o in
      let one : nat_lt c (lines_before zs 1) ≡ false = not_below c (lines_before zs 1) (omega arith) in
      let two : nat_lt c (lines_before zs 2) ≡ false = not_below c (lines_before zs 2) (omega arith) in
      let place : first_element b 3 + (c - lines_before zs 2) ≡ first_element b 3 + o = omega arith in
      rw (one, two) (ap (λ e. Enter e west) place)
  command_at (suc (suc (suc (suc t)))) o tape low = absurd (let last = tape.high in omega arith)

  -- what the board's test asks, asked of the network
  abbrev pub net_sent : Situation → Option (ℕ × ℕ) → Bool
  net_sent s None = same_place s.place (Left 0 0)
  net_sent s (Some f) = same_place s.place (place_after n.wires (line_at 0 f.1)) && control_in f.0 s.states

  -- the network's own test of moments
  abbrev pub net_test : Situation → Bool
  net_test s = is_some (position (net_sent s) firsts)

  module _ (network : IsNetwork m l names n) (numbering : IsNumbering m names) (kept : IsLayout m l names b)
      (quad : IsQuadMachine m) (entries : HasEntries m) (some : (t : ℕ) → IsTape t → 0 < symbol_count m t) where
    -- the control is module 0
    abbrev control : Table
    control = network.control

    control_is : slice_get n.tables 0 ≡ Some control
    control_is = has_control rules states x y z l names n firsts awaited network

    -- the control has a state
    pub some_states : 0 < length names
    some_states = let last = numbering.each End (is_end refl) in let within =
        slice_get_within names last.0 End last.1 in omega arith

    -- the modules can be banks
    abbrev CanBank : Table → Type 0
    CanBank t = (0 < t.states) × (0 < t.inputs) × (t.outputs ≡ t.inputs)

    cell_banks : (t : ℕ) → IsTape t → CanBank (cell_table (symbol_count m t))
    cell_banks t tape = let h = some t tape in (omega arith, omega arith, refl)

    all_bank : (e : ℕ) (t : Table) → slice_get n.tables e ≡ Some t → CanBank t
    all_bank =
        let states_are = network.is_control.states in
        let inputs = network.is_control.inputs in
        let outputs = network.is_control.outputs in
        let low = some_states in
        every rules states x y z l names n firsts awaited network CanBank
        (omega arith, omega arith, outputs ∙ sym inputs) (cell_banks 1
        (record { low = omega arith; high = omega arith })) (cell_banks 2
        (record { low = omega arith; high = omega arith })) (cell_banks 3
        (record { low = omega arith; high = omega arith }))

    pub modules : AreModules n
    modules = record {
      circuit = network.circuit;
      some_states = λ e t h. (all_bank e t h).0;
      some_lines = λ e t h. (all_bank e t h).1;
      square = λ e t h. (all_bank e t h).2;
    }

    -- the first cell of a tape
    first_is : (t : ℕ) → IsTape t → slice_get n.tables (first_cell l t) ≡ Some (cell_table (symbol_count m t))
    first_is t tape = let same : first_cell l t ≡ first_cell l t + 0 =
        omega arith in ap (slice_get n.tables) same ∙ has_cell rules states x y z l names n firsts awaited network t 0
        tape (some_cells l t tape)

    -- where that cell's bank begins
    first_base : (t : ℕ) → IsTape t → base n.tables (first_cell l t) ≡ first_element b t
    first_base t tape =
        let same : first_cell l t ≡ first_cell l t + 0 = omega arith in
        let h = cell_base rules states x y z l names n firsts awaited network t 0 tape (some_cells l t tape) in
        let none : cell_element b t 0 ≡ first_element b t = omega arith in
        ap (base n.tables) same ∙ h ∙ none

    -- ---- places on the board

    -- a place on the board that is an input line of a first cell stands for that line in the network
    enters_first : (t o : ℕ) (p : Place) → IsTape t → o < cell_line_count (symbol_count m t) → IsPlace n p
        → on_board n.tables p ≡ Enter (first_element b t + o) west
        → p ≡ Enter (first_cell l t) o
    enters_first t o (Left e i) tape low place h = absurd (no_enter n.tables e i (slice_get n.tables e) _ _ h)
    enters_first t o (Enter e i) tape low place h =
        let there = input_table n.tables e i place in
        let first = first_base t tape in
        let same : base n.tables e + i ≡ first_element b t + o = cc in
        let one = place_once n.tables e (first_cell l t) there.0 (cell_table (symbol_count m t)) 0 0 i o there.1
        (first_is t tape) (modules.some_states e there.0 there.1)
        (modules.some_states (first_cell l t) (cell_table (symbol_count m t)) (first_is t tape))
        (let row = there.2 in omega arith) (omega arith) (omega arith) in
        λ j. Enter (one.0 j) (one.3 j)

    -- the control's output line to the outside is the end's place
    end_is : on_board n.tables (Left 0 0) ≡ end_place b
    end_is =
        let inputs : control.inputs ≡ lines_at b = network.is_control.inputs in
        let states_are : control.states ≡ length names = network.is_control.states in
        let place : column_at 0 (lines_at b) (length names - 1) + 0 ≡ column_at 0 (lines_at b) (length names - 1) =
        omega arith in
        ap (λ o. output_at n.tables 0 o 0) control_is ∙ (λ i. Left (column_at 0 (inputs i) (states_are i - 1) + 0) east)
        ∙ ap (λ e. Left e east) place

    -- and no other line of the network stands there
    leaves_end : (p : Place) → IsPlace n p → on_board n.tables p ≡ end_place b → p ≡ Left 0 0
    leaves_end (Enter e i) place h = absurd (cc)
    leaves_end (Left e o) place h =
        let there = output_table n.tables e o place.0 in
        let t = there.0 in
        let has = there.1 in
        let low : o < t.inputs = subst (λ k. o < k) (modules.square e t has) there.2 in
        let out : Left (column_at (base n.tables e) t.inputs (t.states - 1) + o) east ≡ on_board n.tables (Left 0 0) =
        ap (λ v. output_at n.tables e v o) (sym has) ∙ h ∙ sym end_is in
        let end : on_board n.tables (Left 0 0) ≡ Left (column_at (base n.tables 0) control.inputs (control.states - 1)
        + 0) east = ap (λ v. output_at n.tables 0 v 0) control_is in
        let both : Left (column_at (base n.tables e) t.inputs (t.states - 1) + o) east
        ≡ Left (column_at (base n.tables 0) control.inputs (control.states - 1) + 0) east = out ∙ end in
        let same : column_at (base n.tables e) t.inputs (t.states - 1) + o
        ≡ column_at (base n.tables 0) control.inputs (control.states - 1) + 0 = cc in
        let first = modules.some_states e t has in
        let second = modules.some_states 0 control control_is in
        let one = place_once n.tables e 0 t control (t.states - 1) (control.states - 1) o 0 has control_is (omega arith)
        (omega arith) (omega arith) (omega arith) same in
        λ j. Left (one.0 j) (one.3 j)

    -- ---- commands

    module _ (k : ControlMove) (c : IsCommandMove m k) where
      number : command_offset (symbol_count m c.tape) c.line ≡ line_number (symbol_count m c.tape) c.line
      number = (command_number (symbol_count m c.tape) c.line c.command c.in_range).0

      number_low : line_number (symbol_count m c.tape) c.line < symbol_count m c.tape + 3
      number_low = (command_number (symbol_count m c.tape) c.line c.command c.in_range).1

      letters_same : symbol_count_at b c.tape ≡ symbol_count m c.tape
      letters_same = by_tape c.tape
        where
          by_tape : (t : ℕ) → symbol_count_at b t ≡ symbol_count m t
          by_tape zero = refl
          by_tape (suc t) = refl

      -- in the network
      pub led : place_after n.wires (line_at 0 (out_number m k.1))
          ≡ Enter (first_cell l c.tape) (line_number (symbol_count m c.tape) c.line)
      led =
          let wire = (network.wires (line_at 0 (out_number m k.1))
          (line_at (first_cell l c.tape) (line_number (symbol_count m c.tape) c.line))).1
          (commands c.tape c.line c.is_tape c.command c.in_range (ap (λ o. line_at 0 (out_number m o)) c.is) refl)
          in
          ap (λ o. place_at o (line_at 0 (out_number m k.1))) wire

      -- and on the board
      pub led_board : command_place b (out_number m k.1) ≡ Enter
          (first_element b c.tape + line_number (symbol_count m c.tape) c.line) west
      led_board =
          let low : line_number (symbol_count m c.tape) c.line < symbol_count_at b c.tape + 3 =
          subst (λ v. line_number (symbol_count m c.tape) c.line < v + 3) (sym letters_same) number_low in
          ap (λ o. command_place b (out_number m o)) c.is ∙ ap (λ o. command_place b
          (lines_before (x ∷ y ∷ z ∷ []) (c.tape - 1) + o)) number
          ∙ command_at c.tape (line_number (symbol_count m c.tape) c.line) c.is_tape low

      pub led_same : (s : Situation) (d : Config) → StandsFor n s d
          → same_place d.place (command_place b (out_number m k.1))
          ≡ same_place s.place (place_after n.wires (line_at 0 (out_number m k.1)))
      led_same s d stands =
          let low = number_low in
          same_place_by d.place (command_place b (out_number m k.1)) s.place
          (place_after n.wires (line_at 0 (out_number m k.1)))
          (λ h. enters_first c.tape (line_number (symbol_count m c.tape) c.line) s.place c.is_tape (omega arith)
          stands.admissible (sym stands.place ∙ h ∙ led_board) ∙ sym led)
          (λ h. stands.place ∙ ap (on_board n.tables) (h ∙ led) ∙ (λ i. Enter
          (first_base c.tape c.is_tape i + line_number (symbol_count m c.tape) c.line) west) ∙ sym led_board)

    -- the column's mark is the control's state
    mark_is : (s : Situation) (d : Config) (q : ℕ) → StandsFor n s d → q < length names
        → is_marked_at d.states (bottom_at 0 (lines_at b) q) ≡ control_in q s.states
    mark_is s d q stands low =
        let count = stands.count in
        let within = slice_get_within n.tables 0 control control_is in
        let here = found s.states 0 (omega arith) in
        let rests = (stands.rests 0 control here.0 control_is here.1).1 in
        let states_are : control.states ≡ length names = network.is_control.states in
        let bottom = (rests.columns q (omega arith)).bottom in
        let there : slice_get d.states (bottom_at 0 (lines_at b) q) ≡ Some (bar (here.0 == q)) =
        subst (λ k. slice_get d.states (bottom_at 0 k q) ≡ Some (bar (here.0 == q))) network.is_control.inputs
        bottom in
        let value = get_or_from_slice_get d.states (bottom_at 0 (lines_at b) q) (bar (here.0 == q)) 1 there in
        ap (λ v. v == 0) value ∙ bar_zero (here.0 == q) ∙ sym (ap (λ o. option_map_or (λ v. v == q) o false) here.1)

    -- the board and the network answer alike of what is kept of a state
    sent_same : (s : Situation) (d : Config) → StandsFor n s d → (a : ℕ) (f : Option (ℕ × ℕ)) → IsFirstKept m names a f
        → is_sent b d f ≡ net_sent s f
    sent_same s d stands a f (final_kept is) = same_place_by d.place (end_place b) s.place (Left 0 0)
        (λ h. leaves_end s.place stands.admissible (sym stands.place ∙ h))
        (λ h. stands.place ∙ ap (on_board n.tables) h ∙ end_is)
    sent_same s d stands a f (sent_kept going k q entry named) =
        let c = entry-IsCommandMove m a k going entry in
        let place = led_same k c s d stands in
        let mark = mark_is s d q stands (slice_get_within names q k.0 named) in
        λ i. place i && mark i

    -- ---- the two tests agree

    -- the first state whose moment it is
    pub moments_same : (s : Situation) (d : Config) → StandsFor n s d → moment_at b d ≡ position (net_sent s) firsts
    moments_same s d stands = position_same (is_sent b d) (net_sent s) firsts
        (λ a f h. sent_same s d stands a f (kept.firsts a f h))

    -- at a situation of the network
    pub between : (s : Situation) (d : Config) → StandsFor n s d → is_moment b d ≡ net_test s
    between s d stands = ap is_some (moments_same s d stands)

    -- a place that is neither the end's nor that of a command is no moment
    no_moment : (d : Config) → d.place ≢ end_place b → ((k : ControlMove) (c : IsCommandMove m k)
        → d.place ≢ Enter (first_element b c.tape + line_number (symbol_count m c.tape) c.line) west)
        → is_moment b d ≡ false
    no_moment d no_end no_command = none_holds (is_sent b d) firsts (λ a f h. by_kept a f (kept.firsts a f h))
      where
        by_kept : (a : ℕ) (f : Option (ℕ × ℕ)) → IsFirstKept m names a f → is_sent b d f ≡ false
        by_kept a f (final_kept is) = same_place_not d.place (end_place b) no_end
        by_kept a f (sent_kept going k q entry named) =
            let c = entry-IsCommandMove m a k going entry in
            let apart = same_place_not d.place (command_place b (out_number m k.1))
            (λ h. no_command k c (h ∙ led_board k c)) in
            ap (λ v. v && is_marked_at d.states (bottom_at 0 (lines_at b) q)) apart

    -- at a loose line there is no moment
    pub loose : (s : Situation) (d : Config) → IsLoose n s d → is_moment b d ≡ false
    loose s d h =
        no_moment d (λ same. let both : Left _ west ≡ Left _ east = sym h.left
        ∙ same in let sides : west ≡ east = cc in omega arith)
        (λ k c same. let both : Left _ west ≡ Enter _ west = sym h.left ∙ same in cc)

    -- no own wire of a bank leads where a command leads
    pub amid : (s t : Situation) (d : Config) → IsAmid n s t d → is_moment b d ≡ false
    amid s t d w = no_moment d (λ same. let both : Enter _ _ ≡ Left _ east = sym w.enters ∙ same in cc) no_command
      where
        no_command : (k : ControlMove) (c : IsCommandMove m k) → d.place
            ≢ Enter (first_element b c.tape + line_number (symbol_count m c.tape) c.line) west
        no_command k c same =
            let t = c.tape in
            let o = line_number (symbol_count m t) c.line in
            let low = number_low k c in
            let both : Enter w.to.element w.to.line ≡ Enter (first_element b t + o) west = sym w.enters ∙ same in
            let first = first_base t c.is_tape in
            let place : w.to.element ≡ base n.tables (first_cell l t) + o =
            (let e : w.to.element ≡ first_element b t + o = cc in omega arith) in
            let side : w.to.line ≡ west = cc in
            let u = cell_table (symbol_count m t) in
            let has = first_is t c.is_tape in
            let ends : w.to ≡ bank_input_line (base n.tables (first_cell l t)) o =
            same_lines w.to (bank_input_line (base n.tables (first_cell l t)) o) place side in
            elim (eqb_tells w.at_module (first_cell l t)) [
              | inl alike ↦
                  (let tables = one_table n.tables w.at_module (first_cell l t) w.table u alike.1 w.has_table has in
                  let rows : w.table.inputs ≡ cell_line_count (symbol_count m t) =
                  ap (λ (v : Table). v.inputs) tables in
                  bank_wire-no_input (base n.tables w.at_module) w.table
                  (modules.circuit.reversible w.at_module w.table w.has_table)
                  (modules.square w.at_module w.table w.has_table) w.from w.to w.own o (omega arith)
                  (ends ∙ ap (λ e. bank_input_line (base n.tables e) o) (sym alike.1)))
              | inr apart ↦
                  (let lines = bank_wire-IsWithinLines (base n.tables w.at_module) w.table
                  (modules.circuit.reversible w.at_module w.table w.has_table)
                  (modules.square w.at_module w.table w.has_table) w.from w.to w.own in
                  let within = in_bank (base n.tables (first_cell l t)) u 0 o
                  (modules.some_states (first_cell l t) u has) (omega arith) in
                  banks_apart n.tables w.at_module (first_cell l t) w.table u w.to.element w.has_table has apart.1
                  lines.to_low lines.to_high (omega arith) (omega (arith, within.1)))
            ]

    -- ---- the network's test tells its moments

    -- where the network's test holds of what is kept of a state, there is that state's moment
    held-IsMoment : (s : Situation) (a : ℕ) (f : Option (ℕ × ℕ)) → IsFirstKept m names a f → net_sent s f ≡ true
        → IsMoment m names n s a
    held-IsMoment s a f (final_kept is) holds = at_end is (is_same_place s.place (Left 0 0) holds)
    held-IsMoment s a f (sent_kept going k q entry named) holds =
        let both = both_true (same_place s.place (place_after n.wires (line_at 0 (out_number m k.1))))
        (control_in q s.states) holds in
        let waits = in_control q (slice_get s.states 0) both.1 in
        sent going k entry (record { number = q; is = waits; named = named })
        (is_same_place s.place (place_after n.wires (line_at 0 (out_number m k.1))) both.0)
      where
        in_control : (q : ℕ) (o : Option ℕ) → option_map_or (λ v. v == q) o false ≡ true → o ≡ Some q
        in_control q None h = absurd (cc)
        in_control q (Some v) h = elim (eqb_tells v q) [
          | inl same ↦ ap (λ e. Some e) same.1
          | inr apart ↦ absurd (let no = apart.0 in cc)
        ]

    -- and where there is one, it holds
    IsMoment-held : (s : Situation) (a : ℕ) (f : Option (ℕ × ℕ)) → IsFirstKept m names a f → IsMoment m names n s a
        → net_sent s f ≡ true
    IsMoment-held s a f (final_kept is) (at_end final place) = same_place_is s.place (Left 0 0) place
    IsMoment-held s a f (final_kept is) (sent going k entry waits place) = absurd (going is)
    IsMoment-held s a f (sent_kept going k q entry named) (at_end final place) = absurd (going final)
    IsMoment-held s a f (sent_kept going k q entry named) (sent apart j other waits place) =
        let same : j ≡ k = entries.one a j k other entry in
        let there : place_after n.wires (line_at 0 (out_number m j.1))
        ≡ place_after n.wires (line_at 0 (out_number m k.1)) = ap
        (λ (v : ControlMove). place_after n.wires (line_at 0 (out_number m v.1))) same in
        let state : slice_get names waits.number ≡ Some k.0 = waits.named ∙ ap (λ (v : ControlMove). Some v.0) same in
        let numbers : waits.number ≡ q = number_once m names numbering k.0 waits.number q state named in
        let one = same_place_is s.place (place_after n.wires (line_at 0 (out_number m k.1))) (place ∙ there) in
        let two : control_in q s.states ≡ true = ap (λ o. option_map_or (λ v. v == q) o false) waits.is
        ∙ eqb_is waits.number q numbers in
        λ i. one i && two i
      where
        eqb_is : (v q : ℕ) → v ≡ q → (v == q) ≡ true
        eqb_is v q h = elim (eqb_tells v q) [ inl same ↦ same.0 | inr apart ↦ absurd (apart.1 h) ]

    -- a moment is that of one of the machine's states
    moment_low : (s : Situation) (a : ℕ) → IsMoment m names n s a → a < length firsts
    moment_low s a (at_end final place) = let low = final_low m quad in let count =
        kept.counted in let count' : length firsts ≡ states = count in omega arith
    moment_low s a (sent going k entry waits place) = let low =
        entry_low m quad a k entry in let count : length firsts ≡ states = kept.counted in omega arith

    -- a situation is the moment of one state
    moment_once : (s : Situation) (a c : ℕ) → IsMoment m names n s a → IsMoment m names n s c → a ≡ c
    moment_once s a c (at_end is place) (at_end at there) = is ∙ sym at
    moment_once s a c (at_end is place) (sent going k entry waits there) =
        absurd (let h : Left 0 0 ≡ Enter _ _ = sym place ∙ there ∙ led k (entry-IsCommandMove m c k going entry) in cc)
    moment_once s a c (sent going k entry waits place) (at_end at there) =
        absurd (let h : Left 0 0 ≡ Enter _ _ = sym there ∙ place ∙ led k (entry-IsCommandMove m a k going entry) in cc)
    moment_once s a c (sent going k entry waits place) (sent apart j other here there) =
        let numbers : waits.number ≡ here.number = (let one = waits.is in let two = here.is in cc) in
        let named : slice_get names waits.number ≡ Some j.0 = subst (λ v. slice_get names v ≡ Some j.0) (sym numbers)
        here.named in
        let states_same : k.0 ≡ j.0 = (let one = waits.named in cc) in
        entries.apart a c k j entry other states_same

    -- where the network is at the moment of a configuration, that is the moment of its state
    pub moment_state : (s : Situation) (a : ℕ) (c : Configuration ℕ) → IsMoment m names n s a
        → IsMomentOf m l names n s c → c.state ≡ a
    moment_state s a c (at_end is place) of =
        elim (eqb_tells c.state (final_state_of rules)) [
          | inl final ↦ final.1 ∙ sym is
          | inr going ↦ absurd (let h : Left 0 0 ≡ Enter _ _ = sym place ∙ of.place
              ∙ led of.first (entry-IsCommandMove m c.state of.first going.1 of.entry) in cc)
        ]
    moment_state s a c (sent going k entry waits place) of =
        let numbers : waits.number ≡ of.waits.number = (let one = waits.is in let two = of.waits.is in cc) in
        let named : slice_get names waits.number ≡ Some of.first.0 =
        subst (λ v. slice_get names v ≡ Some of.first.0) (sym numbers) of.waits.named in
        let states_same : k.0 ≡ of.first.0 = (let one = waits.named in cc) in
        sym (entries.apart a c.state k of.first entry of.entry states_same)

    -- the network's test says yes at its moments alone
    pub tells : TellsMoments m names n net_test
    tells = record { none = none; some = told }
      where
        told : (s : Situation) (a : ℕ) → IsMoment m names n s a → net_test s ≡ true
        told s a moment =
            let here = found firsts a (moment_low s a moment) in
            some_holds (net_sent s) firsts a here.0 here.1 (IsMoment-held s a here.0 (kept.firsts a here.0 here.1)
            moment)

        none : (s : Situation) → ((a : ℕ) → IsMoment m names n s a → ⊥) → net_test s ≡ false
        none s never = none_holds (net_sent s) firsts (λ a f h. by_test a f h (net_sent s f) refl)
          where
            by_test : (a : ℕ) (f : Option (ℕ × ℕ)) → slice_get firsts a ≡ Some f → (v : Bool) → net_sent s f ≡ v
                → net_sent s f ≡ false
            by_test a f h false is = is
            by_test a f h true is = absurd (never a (held-IsMoment s a f (kept.firsts a f h) is))

    -- the board tells which moment it is
    pub which : (s : Situation) (d : Config) (a : ℕ) → StandsFor n s d
        → (moment_at b d ≡ Some a) ↔ IsMoment m names n s a
    which s d a stands = (forth, back)
      where
        forth : moment_at b d ≡ Some a → IsMoment m names n s a
        forth h =
            let held = position_holds (net_sent s) firsts a (sym (moments_same s d stands) ∙ h) in
            held-IsMoment s a held.0 (kept.firsts a held.0 held.1) held.2

        back : IsMoment m names n s a → moment_at b d ≡ Some a
        back moment =
            let here = found firsts a (moment_low s a moment) in
            moments_same s d stands ∙ position_at (net_sent s) firsts a here.0 here.1
            (IsMoment-held s a here.0 (kept.firsts a here.0 here.1) moment)
            (λ k f low h. by_test k f low h (net_sent s f) refl)
          where
            by_test : (k : ℕ) (f : Option (ℕ × ℕ)) → k < a → slice_get firsts k ≡ Some f → (v : Bool) → net_sent s f ≡ v
                → net_sent s f ≡ false
            by_test k f low h false is = is
            by_test k f low h true is = absurd (let same = moment_once s k a
                (held-IsMoment s k f (kept.firsts k f h) is) moment in omega arith)

    -- no moment where the signal enters the control from outside
    pub quiet : (s : Situation) → s.place ≡ Enter 0 0 → net_test s ≡ false
    quiet s place = none_holds (net_sent s) firsts (λ a f h. by_kept a f (kept.firsts a f h))
      where
        by_kept : (a : ℕ) (f : Option (ℕ × ℕ)) → IsFirstKept m names a f → net_sent s f ≡ false
        by_kept a f (final_kept is) = same_place_not s.place (Left 0 0)
            (λ h. let both : Enter 0 0 ≡ Left 0 0 = sym place ∙ h in cc)
        by_kept a f (sent_kept going k q entry named) =
            let c = entry-IsCommandMove m a k going entry in
            let some_first = first_low l c.tape c.is_tape in
            let apart = same_place_not s.place (place_after n.wires (line_at 0 (out_number m k.1)))
            (λ h. let both : Enter 0 0 ≡ Enter (first_cell l c.tape)
            (line_number (symbol_count m c.tape) c.line) = sym place ∙ h
            ∙ led k c in let first : 0 ≡ first_cell l c.tape = cc in omega arith) in
            ap (λ v. v && control_in q s.states) apart

    -- ---- exits

    -- the control's way out
    pub end : (s : Situation) (d : Config) → StandsFor n s d → s.place ≡ Left 0 0 → d.place ≡ end_place b
    end s d stands place = stands.place ∙ ap (on_board n.tables) place ∙ end_is

    -- a cell's output line
    pub cell_exit : (s : Situation) (d : Config) (t p o : ℕ) → StandsFor n s d → IsTape t → p < cells_in l t
        → s.place ≡ Left (first_cell l t + p) o
        → d.place ≡ cell_output b t p o
    cell_exit s d t p o stands tape low place =
        let has = has_cell rules states x y z l names n firsts awaited network t p tape low in
        let there = cell_base rules states x y z l names n firsts awaited network t p tape low in
        stands.place ∙ ap (on_board n.tables) place ∙ ap (λ v. output_at n.tables (first_cell l t + p) v o) has
        ∙ (λ i. Left (column_at (there i) (cell_line_count (symbol_count m t)) (2 * symbol_count m t - 1) + o) east)
        ∙ (λ i. Left (column_at (cell_element b t p) (cell_line_count (same_letters t i)) (2 * same_letters t i - 1)
        + o) east)
      where
        same_letters : (t : ℕ) → symbol_count m t ≡ symbol_count_at b t
        same_letters zero = refl
        same_letters (suc t) = refl

    -- a loose line of the control
    pub loose_exit : (s : Situation) (d : Config) (i q : ℕ) → IsLoose n s d → s.place ≡ Enter 0 i
        → slice_get s.states 0 ≡ Some q
        → d.place ≡ Left (column_at 0 (lines_at b) q + i) west
    loose_exit s d i q h place state =
        let both : Enter h.at_module h.line ≡ Enter 0 i = sym h.enters ∙ place in
        let first : h.at_module ≡ 0 = cc in
        let line : h.line ≡ i = cc in
        let tables = one_table n.tables h.at_module 0 h.table control first h.has_table control_is in
        let here : slice_get s.states 0 ≡ Some h.state = subst (λ e. slice_get s.states e ≡ Some h.state) first
        h.has_state in
        let states_same : h.state ≡ q = cc in
        let inputs : h.table.inputs ≡ lines_at b = ap (λ (v : Table). v.inputs) tables ∙ network.is_control.inputs in
        h.left ∙ (λ j. Left (column_at (base n.tables (first j)) (inputs j) (states_same j) + line j) west)
