-- A board at its start may be spelled: no wire leads into its start, and none leads from its end.
use Rattle.std.specs.Prelude.{◌≡◌, ◌≢◌, ℕ, ◌+◌, ◌-◌, ◌<◌, ◌≤◌, List, [], ◌∷◌, ◌++◌, length, replicate, Option, Some}
use Rattle.std.specs.Prelude.{None, slice_get, slice_set, refl}
use Rattle.std.proofs.Common.{zero, suc, arith, sym, ap, subst, ◌∙◌, inl, inr}
use Rattle.std.proofs.lemmas.Bool.Decides.{eqb_tells}
use Rattle.std.proofs.lemmas.List.{length-replicate, length-set}
use Rattle.std.proofs.lemmas.Option.{slice_get_within}
use Rattle.bn_element.specs.Tables.{Table}
use Rattle.bn_circuits.specs.Circuits.{Circuit, target, source, IsCircuit, IsConfig, IsPlace}
use Rattle.bn_circuits.proofs.AlikeLemmas.{options_one}
use Rattle.bn_circuits.proofs.StepLemmas.{same_lines, slice_get-set_same, slice_get-set_other}
use Rattle.bn_circuits.specs.Situations.{Situation}
use Rattle.bn_circuits.specs.declared.line.Line.{Line}
use Rattle.bn_circuits.specs.declared.place.Place.TheVariants.{Enter, Left}
use Rattle.bn_circuits.specs.declared.config.Config.{Config}
use Rattle.bn_element.specs.Rotary.{rotary, horizontal, vertical, east, west}
use Rattle.bn_circuits.specs.Circuits.{line_at}
use Rattle.bn_machine.specs.Machine.{Program}
use Rattle.bn_machine.specs.Outcome.{Limits}
use Rattle.bn_netlist_laws.specs.Spelling.{Spelling, Admits, Spelled, circuit_of}
use Rattle.bn_netlist_laws.specs.declared.version.Version.TheVariants.{Two}
use Rattle.bn_netlist_laws.proofs.EntryLemmas.{has-text}
use Rattle.bn_netlist_laws.proofs.VersionLemmas.{same_text}
use Rattle.bn_netlist_laws.proofs.WireLemmas.{rotary_inputs, rotary_outputs, rotary_states}
use Rattle.bn_quad.specs.Quadruples.{Quadruples}
use Rattle.bn_realise.specs.Banks.{IsBankWire, column_at, bottom_at, bank_input_line, bank_output_line}
use Rattle.bn_realise.proofs.BankWiresLemmas.{bank_wire-IsWithinLines, bank_wire-no_input, output-no_wire}
use Rattle.bn_network.specs.Controls.{ControlState, Tape as to_tape, in_number, out_number, lines_before}
use Rattle.bn_network.specs.Networks.{IsNetwork, IsNetWire, commands, replies, rightward, leftward}
use Rattle.bn_network.proofs.LineLemmas.{lines_some}
use Rattle.bn_network_laws.proofs.CellRowLemmas.{cells_later}
use Rattle.bn_boards.specs.Boards.{AreModules, IsBoard, IsBoardWire, own, between, StandsFor, bars_of, base}
use Rattle.bn_boards.specs.Boards.{board_start, on_board, size, size_of}
use Rattle.bn_boards.proofs.ModuleLemmas.{banks_apart, input_once, one_table, output_once, wired_input}
use Rattle.bn_boards.proofs.BankedLemmas.{base-within as bank_within}
use Rattle.bn_boards.proofs.ModuleLemmas.{wired_output}
use Rattle.bn_boards.proofs.MovedLemmas.{in_bank}
use Rattle.bn_boards.specs.Layouts.{Layout, IsLayout, end_place, lines_at}
use Rattle.bn_boards.specs.Flats.{AreSameFlats, Flat, IsFlatOf, flat_start, situation_at_start}
use Rattle.bn_boards.specs.LayoutLaws.{BoardsRead}
use Rattle.bn_reply_relations.specs.CompileReply.{IsBoardSpelling, IsFlatSpelling}
use Rattle.bn_reply_relations.specs.Laws.{BoardsAreSpelled}
use Rattle.bn_circuits.specs.declared.net.TheConstants.{MOST_ELEMENTS}

-- ---- bars

-- each is one of the two states of a rotary element
abbrev AreBars : List ℕ → Type 0
AreBars xs = (e q : ℕ) → slice_get xs e ≡ Some q → q < 2

bars_joined : (xs ys : List ℕ) → AreBars xs → AreBars ys → AreBars (xs ++ ys)
bars_joined [] ys a b e q h = b e q h
bars_joined (x ∷ xs) ys a b zero q h = a zero q h
bars_joined (x ∷ xs) ys a b (suc e) q h = bars_joined xs ys (λ i. a (suc i)) b e q h

bars_alike : (n : ℕ) → AreBars (replicate n vertical)
bars_alike zero e q h = absurd (cc)
bars_alike (suc n) zero q h = let is : vertical ≡ q = cc in omega arith
bars_alike (suc n) (suc e) q h = bars_alike n e q h

bars_marked : (xs : List ℕ) (b : ℕ) → AreBars xs → AreBars (slice_set xs b horizontal)
bars_marked xs b a e q h =
    let within = slice_get_within (slice_set xs b horizontal) e q h in
    let count = length-set xs b horizontal in
    elim (eqb_tells e b) [
      | inl same ↦
          (let low : b < length xs = subst (λ n. n < length xs) same.1 (omega (arith, within, count)) in
          let here = slice_get-set_same xs b horizontal low in
          let there = subst (λ n. slice_get (slice_set xs b horizontal) n ≡ Some q) same.1 h in
          let is : horizontal ≡ q = cc (here, there) in
          omega arith)
      | inr apart ↦ a e q (sym (slice_get-set_other xs b e horizontal apart.1) ∙ h)
    ]

bars_low : (ts : List Table) (qs : List ℕ) → AreBars (bars_of ts qs)
bars_low [] qs e q h = absurd (cc)
bars_low (t ∷ ts) [] e q h = absurd (cc)
bars_low (t ∷ ts) (r ∷ qs) e q h =
    bars_joined (slice_set (replicate (size_of t) vertical) (bottom_at 0 t.inputs r) horizontal) (bars_of ts qs)
    (bars_marked (replicate (size_of t) vertical) (bottom_at 0 t.inputs r) (bars_alike (size_of t))) (bars_low ts qs) e
    q h

-- ---- the network's wires

number_of : (a b : Line) → a ≡ b → a.line ≡ b.line
number_of a b same = ap (λ (x : Line). x.line) same

-- none leads from the control's line to the outside
none_from : (m : Quadruples) (l : Limits) (from to : Line) → IsNetWire m l from to → from ≡ line_at 0 0 → ⊥
none_from m l from to (commands t c tape kind line f g) is =
    let some = lines_some m.symbols (t - 1) in
    let same : out_number m (to_tape t c) ≡ 0 = number_of (line_at 0 (out_number m (to_tape t c))) (line_at 0 0)
    (sym f ∙ is) in
    omega arith
none_from m l from to (replies t c tape kind line f g) is =
    let some = cells_later l t tape in let same = sym (ap (λ (x : Line). x.element) f)
    ∙ ap (λ (x : Line). x.element) is in omega arith
none_from m l from to (rightward t p c tape low kind line f g) is =
    let some = cells_later l t tape in let same = sym (ap (λ (x : Line). x.element) f)
    ∙ ap (λ (x : Line). x.element) is in omega arith
none_from m l from to (leftward t p c tape low kind line f g) is =
    let some = cells_later l t tape in let same = sym (ap (λ (x : Line). x.element) f)
    ∙ ap (λ (x : Line). x.element) is in omega arith

-- and none to its line from the outside
none_into : (m : Quadruples) (l : Limits) (from to : Line) → IsNetWire m l from to → to ≡ line_at 0 0 → ⊥
none_into m l from to (commands t c tape kind line f g) is =
    let some = cells_later l t tape in let same = sym (ap (λ (x : Line). x.element) g)
    ∙ ap (λ (x : Line). x.element) is in omega arith
none_into m l from to (replies t c tape kind line f g) is =
    let some = lines_some m.symbols (t - 1) in
    let same : in_number m (to_tape t c) ≡ 0 = number_of (line_at 0 (in_number m (to_tape t c))) (line_at 0 0)
    (sym g ∙ is) in
    omega arith
none_into m l from to (rightward t p c tape low kind line f g) is =
    let some = cells_later l t tape in let same = sym (ap (λ (x : Line). x.element) g)
    ∙ ap (λ (x : Line). x.element) is in omega arith
none_into m l from to (leftward t p c tape low kind line f g) is =
    let some = cells_later l t tape in let same = sym (ap (λ (x : Line). x.element) g)
    ∙ ap (λ (x : Line). x.element) is in omega arith

-- ---- the board's start and end

module _ (machine : Quadruples) (l : Limits) (names : List ControlState) (net : Circuit)
    (is_network : IsNetwork machine l names net) (modules : AreModules net) (circuit : Circuit)
    (is_board : IsBoard net circuit) where
  abbrev control : Table
  control = is_network.control

  has_control : slice_get net.tables 0 ≡ Some control
  has_control = ap (λ ts. slice_get ts 0) is_network.tables

  some_state : 0 < control.states
  some_state = modules.some_states 0 control has_control

  some_line : 0 < control.inputs
  some_line = modules.some_lines 0 control has_control

  square : control.outputs ≡ control.inputs
  square = modules.square 0 control has_control

  -- the control's bank comes first
  first_bank : (x : ℕ) → x ≤ control.inputs → x < size_of control
  first_bank x low = let h = in_bank 0 control 0 x some_state low in omega arith

  last_column : (x : ℕ) → x ≤ control.inputs → column_at 0 control.inputs (control.states - 1) + x < size_of control
  last_column x low = let some = some_state in let h = in_bank 0 control (control.states - 1) x (omega arith) low in
      omega arith

  within_board : (x : ℕ) → x < size_of control → x < size net.tables
  within_board x low = let h = bank_within net.tables 0 control has_control in omega arith

  -- another bank holds none of its elements
  other_bank : (m : ℕ) (t : Table) (x : ℕ) → slice_get net.tables m ≡ Some t → m ≢ 0 → base net.tables m ≤ x →
      x < base net.tables m + size_of t →
      x < size_of control → ⊥
  other_bank m t x has apart low high first = banks_apart net.tables m 0 t control x has has_control apart low high
      (omega arith) (omega arith)

  -- no wire of the board leads into its start
  unfed_wire : (from to : Line) → IsBoardWire net from to → to ≡ bank_input_line 0 0 → ⊥
  unfed_wire from to (own m t has bank) is =
      let reversible = modules.circuit.reversible m t has in
      let lines = modules.square m t has in
      elim (eqb_tells m 0) [
        | inl first ↦
            (let tables : t ≡ control = one_table net.tables m 0 t control first.1 has has_control in
            let row : 0 < t.inputs = modules.some_lines m t has in
            let wire : IsBankWire 0 t from to = subst (λ e. IsBankWire (base net.tables e) t from to) first.1 bank in
            bank_wire-no_input 0 t reversible lines from to wire 0 row is)
        | inr apart ↦
            (let within = bank_wire-IsWithinLines (base net.tables m) t reversible lines from to bank in
            let place : to.element ≡ 0 + 0 = ap (λ (x : Line). x.element) is in
            other_bank m t to.element has apart.1 within.to_low (omega (arith, within.to_high))
            (let some = first_bank 0 (omega arith) in omega arith))
      ]
  unfed_wire from to (between out into t wire has leaves ends) is =
      let there = wired_input net modules out into wire in
      let one : line_at 0 0 ≡ into = input_once net modules (line_at 0 0) into control there.0 has_control there.1
      some_line there.2 (sym is ∙ ends) in
      none_into machine l out into ((is_network.wires out into).0 wire) (sym one)

  -- and none leads from its end
  unwired_wire : (from to : Line) → IsBoardWire net from to → from ≡ bank_output_line 0 control 0 → ⊥
  unwired_wire from to (own m t has bank) is =
      let reversible = modules.circuit.reversible m t has in
      let lines = modules.square m t has in
      elim (eqb_tells m 0) [
        | inl first ↦
            (let tables : t ≡ control = one_table net.tables m 0 t control first.1 has has_control in
            let row : 0 < t.inputs = modules.some_lines m t has in
            let wire : IsBankWire 0 t from to = subst (λ e. IsBankWire (base net.tables e) t from to) first.1 bank in
            let leaves : from ≡ bank_output_line 0 t 0 = is ∙ ap (λ (u : Table). bank_output_line 0 u 0) (sym tables) in
            output-no_wire 0 t reversible lines 0 to row (subst (λ (x : Line). IsBankWire 0 t x to) leaves wire))
        | inr apart ↦
            (let within = bank_wire-IsWithinLines (base net.tables m) t reversible lines from to bank in
            let place : from.element ≡ column_at 0 control.inputs (control.states - 1) + 0 =
            ap (λ (x : Line). x.element) is in
            other_bank m t from.element has apart.1 within.from_low (omega (arith, within.from_high))
            (let low = last_column 0 (omega arith) in omega arith))
      ]
  unwired_wire from to (between out into t wire has leaves ends) is =
      let row = wired_output net modules out into t wire has in
      let one : line_at 0 0 ≡ out = output_once net modules (line_at 0 0) out control t has_control has some_line row
      (sym is ∙ leaves) in
      none_from machine l out into ((is_network.wires out into).0 wire) (sym one)

  -- ---- the spelling

  -- the board with its control's first line entered, whatever its cells hold
  abbrev pub spelling : Situation → Spelling
  spelling s = record {
    elements = size net.tables;
    wires = circuit.wires;
    config = board_start net.tables s;
    start = bank_input_line 0 0;
    end = bank_output_line 0 control 0;
  }

  same_circuit : (s : Situation) → circuit ≡ circuit_of (spelling s)
  same_circuit s = λ i. record { tables = is_board.tables i; wires = circuit.wires }

  no_source : (o : Option Line) → source circuit.wires (bank_input_line 0 0) ≡ o → o ≡ None
  no_source None is = refl
  no_source (Some from) is =
      let leads = (is_board.circuit.one_to_one from (bank_input_line 0 0)).1 is in
      absurd (unfed_wire from (bank_input_line 0 0) ((is_board.wires from (bank_input_line 0 0)).0 leads) refl)

  no_target : (o : Option Line) → target circuit.wires (bank_output_line 0 control 0) ≡ o → o ≡ None
  no_target None is = refl
  no_target (Some to) is = absurd (unwired_wire (bank_output_line 0 control 0) to
      ((is_board.wires (bank_output_line 0 control 0) to).0 is) refl)

  -- at its start it is a configuration of the board
  start_place : (s : Situation) → s.place ≡ Enter 0 0 → Enter 0 west ≡ on_board net.tables s.place
  start_place s at = ap (on_board net.tables) (sym at)

  start_config : (s : Situation) → s.place ≡ Enter 0 0 → StandsFor net s (board_start net.tables s) →
      IsConfig (circuit_of (spelling s)) (board_start net.tables s)
  start_config s at stands = record {
    count = stands.bars ∙ sym (length-replicate (size net.tables) rotary);
    range = λ e q h.
        let within = slice_get_within (board_start net.tables s).states e q h in
        let count = stands.bars in
        let states = rotary_states (size net.tables) e (omega arith) in
        subst (λ n. q < n) (sym states) (bars_low net.tables s.states e q h);
    place = subst (IsPlace (circuit_of (spelling s))) (start_place s at) (
        let inputs = rotary_inputs (size net.tables) 0 (within_board 0 (first_bank 0 (omega arith))) in
        subst (λ n. 3 < n) (sym inputs) (omega arith));
    in_time = omega arith;
  }

  pub start_admitted : (s : Situation) → s.place ≡ Enter 0 0 → StandsFor net s (board_start net.tables s) →
      size net.tables ≤ MOST_ELEMENTS → Admits Two (spelling s)
  start_admitted s at stands few = record {
    some = within_board 0 (first_bank 0 (omega arith));
    few = few;
    circuit = subst IsCircuit (same_circuit s) is_board.circuit;
    config = start_config s at stands;
    start =
        let inputs = rotary_inputs (size net.tables) 0 (within_board 0 (first_bank 0 (omega arith))) in
        subst (λ n. 3 < n) (sym inputs) (omega arith);
    end =
        let outputs = rotary_outputs (size net.tables) (bank_output_line 0 control 0).element
        (within_board _ (last_column 0 (omega arith))) in
        subst (λ n. 1 < n) (sym outputs) (omega arith);
    unfed = no_source (source circuit.wires (bank_input_line 0 0)) refl;
    unwired = no_target (target circuit.wires (bank_output_line 0 control 0)) refl;
  }

  -- the end of the board is the output line of the control's bank
  end_is : (b : Layout) → IsLayout machine l names b →
      Left (bank_output_line 0 control 0).element (bank_output_line 0 control 0).line ≡ end_place b
  end_is b is =
      let lines : control.inputs ≡ lines_at b = is_network.is_control.inputs
      ∙ ap (λ zs. lines_before zs 3) (sym is.symbols) in
      let states : control.states ≡ b.states = is_network.is_control.states ∙ sym is.states in
      let column : column_at 0 control.inputs (control.states - 1) ≡ column_at 0 (lines_at b) (b.states - 1) =
      ap (λ k. column_at 0 k (control.states - 1)) lines ∙ ap (λ n. column_at 0 (lines_at b) (n - 1)) states in
      let zero_row : column_at 0 control.inputs (control.states - 1) + 0 ≡ column_at 0 (lines_at b) (b.states - 1) =
      omega arith in
      ap (λ e. Left e east) zero_row

  pub start_spelling : (s : Situation) → s.place ≡ Enter 0 0 → (b : Layout) → IsLayout machine l names b →
      IsBoardSpelling net b (board_start net.tables s) (spelling s)
  start_spelling s at b is = record {
    elements = refl;
    wires = is_board.wires;
    config = refl;
    start = start_place s at;
    end = end_is b is;
  }

  -- so it has a configuration text
  pub start-spells : (s : Situation) → s.place ≡ Enter 0 0 → StandsFor net s (board_start net.tables s)
      → size net.tables ≤ MOST_ELEMENTS →
      (b : Layout) → IsLayout machine l names b →
      (u : Spelling) × IsBoardSpelling net b (board_start net.tables s) u × ((text : List ℕ) × Spelled Two u text)
  start-spells s at stands few b is =
      (spelling s, start_spelling s at b is, has-text Two (spelling s) (start_admitted s at stands few))

-- a board at its start has a configuration text
pub boards-spelled : BoardsRead → BoardsAreSpelled
boards-spelled read p symbols l f flat accepted =
    let found = read p symbols l f flat accepted in
    start-spells f.translation.machine l f.names f.network flat.is_network found.1.modules f.circuit flat.is_board
    (situation_at_start f) refl found.1.starts accepted.few f.layout flat.is_layout

-- ---- one text

-- the wires of a board's spelling are the board's
pub board_targets : (net circuit : Circuit) → IsBoard net circuit → (b : Layout) (at_start : Config) (s : Spelling) →
    IsBoardSpelling net b at_start s → (from : Line) → target s.wires from ≡ target circuit.wires from
board_targets net circuit board b at_start s a from =
    options_one (target s.wires from) (target circuit.wires from)
    (λ to h. (board.wires from to).1 ((a.wires from to).0 h))
    (λ to h. (a.wires from to).1 ((board.wires from to).0 h))

pub target_of : (f : Flat) (p : Program) (symbols : List ℕ) (l : Limits) → IsFlatOf p symbols l f → (s : Spelling)
    → IsFlatSpelling f s → (from : Line) →
    target s.wires from ≡ target f.circuit.wires from
target_of f p symbols l flat s a from = board_targets f.network f.circuit flat.is_board f.layout (flat_start f) s a from

pub entered_once : (c d : Line) → Enter c.element c.line ≡ Enter d.element d.line → c ≡ d
entered_once c d h = same_lines c d (cc) (cc)

pub left_once : (c d : Line) → Left c.element c.line ≡ Left d.element d.line → c ≡ d
left_once c d h = same_lines c d (cc) (cc)

-- boards that are the same up to the order of their wires have one text
pub one_board_text : (net far circuit other : Circuit) → IsBoard net circuit → IsBoard far other
    → net.tables ≡ far.tables →
    ((from : Line) → target circuit.wires from ≡ target other.wires from) → (b c : Layout) → b ≡ c →
    (at_start at_other : Config) → at_start ≡ at_other → (s u : Spelling) (text second : List ℕ) →
    IsBoardSpelling net b at_start s → IsBoardSpelling far c at_other u → Spelled Two s text → Spelled Two u second
    → text ≡ second
one_board_text net far circuit other board also tables targets b c layouts at_start at_other starts s u text second x y
    one two =
    let elements : s.elements ≡ u.elements = x.elements ∙ ap size tables ∙ sym y.elements in
    let config : s.config ≡ u.config = x.config ∙ starts ∙ sym y.config in
    let start : s.start ≡ u.start = entered_once s.start u.start
    (x.start ∙ ap (λ (z : Config). z.place) starts ∙ sym y.start) in
    let end : s.end ≡ u.end = left_once s.end u.end (x.end ∙ ap end_place layouts ∙ sym y.end) in
    same_text Two s u text second elements (λ from. board_targets net circuit board b at_start s x from ∙ targets from
    ∙ sym (board_targets far other also c at_other u y from)) config start end one two

pub spelled_alike : (f g : Flat) → AreSameFlats f g → (p : Program) (symbols : List ℕ) (l : Limits)
    → IsFlatOf p symbols l f → IsFlatOf p symbols l g →
    (s u : Spelling) (text second : List ℕ) → IsFlatSpelling f s → IsFlatSpelling g u → Spelled Two s text
    → Spelled Two u second → text ≡ second
spelled_alike f g same p symbols l flat other s u text second a b one two =
    one_board_text f.network g.network f.circuit g.circuit flat.is_board other.is_board same.network.tables
    same.circuit.targets
    f.layout g.layout same.layout (flat_start f) (flat_start g) same.start s u text second a b one two
