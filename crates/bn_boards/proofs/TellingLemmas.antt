-- What is found by the layout is the board's moment.
use Rattle.std.specs.Prelude.{◌≡◌, ◌↔◌, ℕ, ◌+◌, ◌-◌, ◌<◌, ◌≤◌, ◌==◌, ◌&&◌, Bool, true, false, List, [], ◌∷◌, length}
use Rattle.std.specs.Prelude.{Option, Some, slice_get, refl}
use Rattle.std.proofs.Common.{zero, suc, arith, sym, ap, subst, ◌∙◌, inl, inr}
use Rattle.std.proofs.lemmas.Bool.Decides.{eqb_tells}
use Rattle.std.proofs.lemmas.Option.{slice_get_within, get_or_from_slice_get, same_Some}
use Rattle.bn_element.specs.Tables.{Table}
use Rattle.bn_circuits.specs.Circuits.{Circuit}
use Rattle.bn_circuits.specs.declared.line.Line.{Line}
use Rattle.bn_circuits.specs.declared.place.Place.TheVariants.{Enter, Left}
use Rattle.bn_circuits.specs.declared.config.Config.{Config}
use Rattle.bn_element.specs.Rotary.{horizontal, east, west}
use Rattle.bn_machine.specs.Outcome.{Limits}
use Rattle.bn_quad.specs.Quadruples.{Quadruples, IsQuadMachine, quadruples_of}
use Rattle.bn_realise.specs.Banks.{column_at, bottom_at}
use Rattle.bn_network.specs.Cells.{line_number}
use Rattle.bn_network.specs.Controls.{ControlState, ControlMove, IsNumbering, symbol_count, control_lines, lines_before}
use Rattle.bn_network.specs.Controls.{out_number, IsFirstKept, final_kept, sent_kept}
use Rattle.bn_network.specs.ControlLaws.{HasEntries}
use Rattle.bn_network.specs.Networks.{IsNetwork, IsNetWire, IsTape, commands, cells_in, first_cell}
use Rattle.bn_circuits.specs.Circuits.{line_at}
use Rattle.bn_boards.proofs.ReadingLemmas.{of_parts}
use Rattle.bn_boards.specs.Boards.{base}
use Rattle.bn_boards.specs.Layouts.{Layout, IsLayout, same_place, command_place, end_place, is_marked_at, is_sent}
use Rattle.bn_boards.specs.Layouts.{moment_at, first_element, cell_element, lines_at}
use Rattle.bn_boards.proofs.SameLemmas.{number_once}
use Rattle.bn_boards.proofs.AgreedLemmas.{is_same_place, same_place_is, led_board, both_true}
use Rattle.bn_boards.proofs.FirstLemmas.{position_at, position_holds}
use Rattle.bn_boards.proofs.ModuleLemmas.{found}
use Rattle.bn_boards.proofs.CommandLemmas.{IsCommandMove, entry-IsCommandMove, entry_low, final_low}
use Rattle.bn_boards.specs.BoardMoments.{IsBoardMoment, left_by_end, enters_first}
use Rattle.bn_boards.proofs.CellLemmas.{CellsLie}

-- ---- marks

-- a column that is found marked lies flat
marked_flat : (states : List ℕ) (e : ℕ) → is_marked_at states e ≡ true → slice_get states e ≡ Some horizontal
marked_flat [] e h = absurd (cc)
marked_flat (v ∷ vs) zero h = elim (eqb_tells v 0) [
  | inl same ↦ ap (λ w. Some w) same.1
  | inr apart ↦ absurd (let other = apart.0 in cc)
]
marked_flat (v ∷ vs) (suc e) h = marked_flat vs e h

-- and one that lies flat is found marked
flat_marked : (states : List ℕ) (e : ℕ) → slice_get states e ≡ Some horizontal → is_marked_at states e ≡ true
flat_marked states e h = ap (λ v. v == 0) (get_or_from_slice_get states e horizontal 1 h)

-- each tape has a cell
some_cells : (l : Limits) (t : ℕ) → 0 < t → t ≤ 3 → 0 < cells_in l t
some_cells l zero low high = absurd (omega arith)
some_cells l (suc zero) low high = omega arith
some_cells l (suc (suc zero)) low high = omega arith
some_cells l (suc (suc (suc zero))) low high = omega arith
some_cells l (suc (suc (suc (suc t)))) low high = absurd (omega arith)

module _ (l : Limits) (names : List ControlState) (n : Circuit) where
  -- where the layout takes a command to lead, there is the command's line of the tape's first cell
  abbrev pub CommandsLead : Quadruples → Layout → Type 0
  CommandsLead m b = IsNetwork m l names n → IsNumbering m names → IsLayout m l names b → IsQuadMachine m → HasEntries m
      → ((t : ℕ) → IsTape t → 0 < symbol_count m t) → (k : ControlMove) (c : IsCommandMove m k)
      → command_place b (out_number m k.1) ≡ Enter (first_element b c.tape + line_number (symbol_count m c.tape) c.line)
      west

  -- where the machine and the layout are given by their parts
  lead_by_parts : (x y z : ℕ) (m : Quadruples) (b : Layout)
      → CommandsLead (quadruples_of m.rules m.states (x ∷ y ∷ z ∷ []))
      (record {
        limits = l;
        symbols = x ∷ y ∷ z ∷ [];
        states = length names;
        firsts = b.firsts;
        awaited = b.awaited;
      })
  lead_by_parts x y z m b network numbering kept quad entries some k c =
      led_board m.rules m.states x y z l names n b.firsts b.awaited network numbering kept quad entries some k c

  -- of any machine with three numbers of symbols
  pub commands_lead : (x y z : ℕ) (m : Quadruples) (b : Layout) → m.symbols ≡ x ∷ y ∷ z ∷ [] → IsLayout m l names b
      → CommandsLead m b
  commands_lead x y z m b symbols kept = of_parts (x ∷ y ∷ z ∷ []) l names CommandsLead (lead_by_parts x y z) m b
      symbols kept

  module _ (m : Quadruples) (b : Layout) (network : IsNetwork m l names n) (numbering : IsNumbering m names)
      (kept : IsLayout m l names b) (quad : IsQuadMachine m) (entries : HasEntries m)
      (some : (t : ℕ) → IsTape t → 0 < symbol_count m t) (lie : CellsLie l names n m b) (lead : CommandsLead m b) where
    -- the control's table, and its lines by the layout
    abbrev control : Table
    control = network.control

    control_is : slice_get n.tables 0 ≡ Some control
    control_is = ap (λ ts. slice_get ts 0) network.tables

    lines_are : lines_at b ≡ control_lines m
    lines_are = ap (λ zs. lines_before zs 3) kept.symbols

    -- the end, in the control's own words
    end_is : end_place b ≡ Left (column_at 0 control.inputs (control.states - 1) + 0) east
    end_is =
        let inputs : lines_at b ≡ control.inputs = lines_are ∙ sym network.is_control.inputs in
        let states_are : b.states ≡ control.states = kept.states ∙ sym network.is_control.states in
        let place : column_at 0 (lines_at b) (b.states - 1) ≡ column_at 0 (lines_at b) (b.states - 1) + 0 =
        omega arith in
        ap (λ e. Left e east) place ∙ (λ i. Left (column_at 0 (inputs i) (states_are i - 1) + 0) east)

    -- a first command's wire, and where it leads on the board
    wire_of : (k : ControlMove) (c : IsCommandMove m k)
        → IsNetWire m l (line_at 0 (out_number m k.1)) (line_at (first_cell l c.tape)
        (line_number (symbol_count m c.tape) c.line))
    wire_of k c = commands c.tape c.line c.is_tape c.command c.in_range (ap (λ o. line_at 0 (out_number m o)) c.is) refl

    -- where a tape's first cell lies
    first_base : (t : ℕ) → IsTape t → base n.tables (first_cell l t) ≡ first_element b t
    first_base t tape =
        let same : first_cell l t ≡ first_cell l t + 0 = omega arith in
        let h = (lie network t 0 tape (some_cells l t tape.low tape.high)).1 in
        let none : cell_element b t 0 ≡ first_element b t = omega arith in
        ap (base n.tables) same ∙ h ∙ none

    -- where the layout takes a first command to lead
    led : (k : ControlMove) (c : IsCommandMove m k)
        → command_place b (out_number m k.1) ≡ Enter (base n.tables (first_cell l c.tape)
        + line_number (symbol_count m c.tape) c.line) west
    led k c = lead network numbering kept quad entries some k c
        ∙ (λ i. Enter (sym (first_base c.tape c.is_tape) i + line_number (symbol_count m c.tape) c.line) west)

    -- one wire at most leaves a line
    into_once : (k : ControlMove) (c : IsCommandMove m k) (into : Line)
        → IsNetWire m l (line_at 0 (out_number m k.1)) into
        → line_at (first_cell l c.tape) (line_number (symbol_count m c.tape) c.line) ≡ into
    into_once k c into wire = same_Some _ _ (sym ((network.wires (line_at 0 (out_number m k.1)) _).1 (wire_of k c))
        ∙ (network.wires (line_at 0 (out_number m k.1)) into).1 wire)

    -- what the layout's test says of what is kept of a state
    held-moment : (d : Config) (a : ℕ) (f : Option (ℕ × ℕ)) → IsFirstKept m names a f → is_sent b d f ≡ true
        → IsBoardMoment m l names n d a
    held-moment d a f (final_kept is) holds = left_by_end is control control_is
        (is_same_place d.place (end_place b) holds ∙ end_is)
    held-moment d a f (sent_kept going k q entry named) holds =
        let c = entry-IsCommandMove m a k going entry in
        let both = both_true (same_place d.place (command_place b (out_number m k.1)))
        (is_marked_at d.states (bottom_at 0 (lines_at b) q)) holds in
        enters_first going k entry (line_at (first_cell l c.tape) (line_number (symbol_count m c.tape) c.line))
        (wire_of k c) (is_same_place d.place (command_place b (out_number m k.1)) both.0 ∙ led k c) q named
        (subst (λ v. slice_get d.states (bottom_at 0 v q) ≡ Some horizontal) lines_are
        (marked_flat d.states (bottom_at 0 (lines_at b) q) both.1))

    -- and the other way round
    moment-held : (d : Config) (a : ℕ) (f : Option (ℕ × ℕ)) → IsFirstKept m names a f → IsBoardMoment m l names n d a
        → is_sent b d f ≡ true
    moment-held d a f (final_kept is) (left_by_end final u has place) =
        let same : u ≡ control = same_Some u control (sym has ∙ control_is) in
        same_place_is d.place (end_place b) (place ∙ (λ i. Left (column_at 0 (same i).inputs ((same i).states - 1) + 0)
        east) ∙ sym end_is)
    moment-held d a f (final_kept is) (enters_first going k entry into wire place q named flat) = absurd (going is)
    moment-held d a f (sent_kept going k q entry named) (left_by_end final u has place) = absurd (going final)
    moment-held d a f (sent_kept going k q entry named) (enters_first apart j other into wire place r called flat) =
        let same : j ≡ k = entries.one a j k other entry in
        let c = entry-IsCommandMove m a k going entry in
        let wire' : IsNetWire m l (line_at 0 (out_number m k.1)) into =
        subst (λ (v : ControlMove). IsNetWire m l (line_at 0 (out_number m v.1)) into) same wire in
        let there = into_once k c into wire' in
        let numbers : r ≡ q = number_once m names numbering k.0 r q (called ∙ ap (λ (v : ControlMove). Some v.0) same)
        named in
        let one = same_place_is d.place (command_place b (out_number m k.1))
        (place ∙ (λ i. Enter (base n.tables (sym there i).element + (sym there i).line) west) ∙ sym (led k c)) in
        let flat' : slice_get d.states (bottom_at 0 (lines_at b) q) ≡ Some horizontal =
        subst (λ v. slice_get d.states (bottom_at 0 v q) ≡ Some horizontal) (sym lines_are)
        (subst (λ v. slice_get d.states (bottom_at 0 (control_lines m) v) ≡ Some horizontal) numbers flat) in
        let two = flat_marked d.states (bottom_at 0 (lines_at b) q) flat' in
        λ i. one i && two i

    -- a moment is that of one of the machine's states
    moment_low : (d : Config) (a : ℕ) → IsBoardMoment m l names n d a → a < length b.firsts
    moment_low d a (left_by_end final u has place) = let low = final_low m quad in let count =
        kept.counted in omega arith
    moment_low d a (enters_first going k entry into wire place q named flat) = let low =
        entry_low m quad a k entry in let count = kept.counted in omega arith

    module _ (d : Config) (one_state : (i j : ℕ) → i < length names → j < length names
        → slice_get d.states (bottom_at 0 (control_lines m) i) ≡ Some horizontal
        → slice_get d.states (bottom_at 0 (control_lines m) j) ≡ Some horizontal
        → i ≡ j) where
      -- a board is at the moment of one state
      moment_once : (a c : ℕ) → IsBoardMoment m l names n d a → IsBoardMoment m l names n d c → a ≡ c
      moment_once a c (left_by_end is u has place) (left_by_end at v here there) = is ∙ sym at
      moment_once a c (left_by_end is u has place) (enters_first going k entry into wire there q named flat) =
          absurd (let h : Left _ east ≡ Enter _ west = sym place ∙ there in cc)
      moment_once a c (enters_first going k entry into wire there q named flat) (left_by_end is u has place) =
          absurd (let h : Left _ east ≡ Enter _ west = sym place ∙ there in cc)
      moment_once a c (enters_first going k entry into wire place q named flat)
          (enters_first apart j other to way there r called flat') =
          let columns : q ≡ r = one_state q r (slice_get_within names q k.0 named) (slice_get_within names r j.0 called)
          flat flat' in
          let states_same : k.0 ≡ j.0 = same_Some _ _ (sym named ∙ ap (slice_get names) columns ∙ called) in
          entries.apart a c k j entry other states_same

      -- what the layout finds is the moment
      pub found_moment : (a : ℕ) → (moment_at b d ≡ Some a) ↔ IsBoardMoment m l names n d a
      found_moment a = (forth, backward)
        where
          forth : moment_at b d ≡ Some a → IsBoardMoment m l names n d a
          forth h = let held = position_holds (is_sent b d) b.firsts a h in held-moment d a held.0
              (kept.firsts a held.0 held.1) held.2

          backward : IsBoardMoment m l names n d a → moment_at b d ≡ Some a
          backward moment =
              let here = found b.firsts a (moment_low d a moment) in
              position_at (is_sent b d) b.firsts a here.0 here.1 (moment-held d a here.0 (kept.firsts a here.0 here.1)
              moment) (λ k f low h. by_test k f low h (is_sent b d f) refl)
            where
              by_test : (k : ℕ) (f : Option (ℕ × ℕ)) → k < a → slice_get b.firsts k ≡ Some f → (v : Bool)
                  → is_sent b d f ≡ v → is_sent b d f ≡ false
              by_test k f low h false is = is
              by_test k f low h true is = absurd (let same = moment_once k a (held-moment d k f (kept.firsts k f h) is)
                  moment in omega arith)
