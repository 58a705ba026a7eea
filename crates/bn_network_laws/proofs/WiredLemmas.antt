-- A machine's network is there, and its wires lead from output lines to input lines.
use Rattle.std.specs.Prelude.{◌≡◌, ℕ, zero, suc, ◌+◌, ◌-◌, ◌<◌, List, length, refl, ◌⊎◌}
use Rattle.std.specs.Option.{option_map_or}
use Rattle.std.proofs.Common.{arith, sym, ap, subst, inl, inr}
use Rattle.bn_element.specs.Tables.{Table, IsReversible}
use Rattle.bn_circuits.specs.Circuits.{Circuit, inputs_of, outputs_of, IsInputOf, IsOutputOf}
use Rattle.bn_circuits.specs.declared.line.Line.{Line}
use Rattle.bn_circuits.specs.declared.line.Wire.{Wire}
use Rattle.bn_circuits.specs.Wirings.{AreWiresOf}
use Rattle.bn_circuits.proofs.WiringsLemmas.{apart-IsOneToOne}
use Rattle.bn_machine.specs.Outcome.{Limits}
use Rattle.bn_quad.specs.Quadruples.{Quadruples}
use Rattle.bn_network.specs.declared.cell_line.CellLine.{CellLine}
use Rattle.bn_network.specs.declared.cell_line.CellLine.TheVariants.{Read, Write, ShiftRight, ShiftLeft, TakeRight}
use Rattle.bn_network.specs.declared.cell_line.CellLine.TheVariants.{Answer, DoneWrite, DoneRight, DoneLeft, TakeLeft}
use Rattle.bn_network.specs.Cells.{IsLineOf, line_number, cell_line, cell_line_count, cell_table}
use Rattle.bn_network.specs.Controls.{ControlState, Tape as to_tape, symbol_count, in_number, out_number}
use Rattle.bn_network.specs.Controls.{IsControlTable}
use Rattle.bn_network.specs.Networks.{IsTape, IsCommand, IsReply, GoesRight, GoesLeft, IsNetWire, commands, replies}
use Rattle.bn_network.specs.Networks.{rightward, leftward, IsNetwork, cells_in, first_cell, module_tables}
use Rattle.bn_circuits.specs.Circuits.{line_at}
use Rattle.bn_cell.specs.Reversible.{lines, line_within, valid_line, cells-reversible}
use Rattle.bn_network.proofs.ListedLemmas.{Listing, alone, either, same, for_each, those, below}
use Rattle.bn_network_laws.proofs.ListedWireLemmas.{wires_there}
use Rattle.bn_network_laws.proofs.CellRowLemmas.{cell_at, tables_only}
use Rattle.bn_network_laws.proofs.PortLemmas.{Port, AtControl, AtCell, IsOut, IsIn, out_line, in_line, leaving, coming}
use Rattle.bn_network_laws.proofs.PortLemmas.{both_ways, order_low, answer_low}

-- ---- the wires, listed

-- the lines of a cell of so many symbols
lines_listed : (z : ℕ) → Listing (IsLineOf z)
lines_listed z =
    same (λ c. (n : ℕ) × (n < cell_line_count z)
    × (c ≡ cell_line z n)) (IsLineOf z) (for_each (λ n. n < cell_line_count z) (λ n c. c ≡ cell_line z n)
    (below (cell_line_count z)) (λ n h. alone (λ c. c ≡ cell_line z n) (cell_line z n) refl (λ c e. e)))
    (λ c h. subst (IsLineOf z) (sym h.2) (valid_line z h.0 h.1))
    (λ c h. (line_number z c, line_within z c h, sym (lines z c h)))

-- the tapes
tapes_listed : Listing IsTape
tapes_listed = same (λ t. (t < 4)
    × (0 < t)) IsTape (those (λ t. t < 4) (λ t. 0 < t) (below 4) some) (λ t h. let low = h.1 in let high =
    h.0 in record { low = low; high = omega arith }) (λ t h. let high = h.high in (omega arith, h.low))
  where
    some : (t : ℕ) → (0 < t) ⊎ ((0 < t) → ⊥)
    some zero = inr (λ h. omega arith)
    some (suc t) = inl (omega arith)

-- which lines command, reply, go right, go left
command_tells : (c : CellLine) → IsCommand c ⊎ (IsCommand c → ⊥)
command_tells Read = inl tt
command_tells (Write u) = inl tt
command_tells ShiftRight = inl tt
command_tells ShiftLeft = inl tt
command_tells _ = inr (λ h. h)

reply_tells : (c : CellLine) → IsReply c ⊎ (IsReply c → ⊥)
reply_tells (Answer u) = inl tt
reply_tells DoneWrite = inl tt
reply_tells DoneRight = inl tt
reply_tells DoneLeft = inl tt
reply_tells _ = inr (λ h. h)

right_tells : (c : CellLine) → GoesRight c ⊎ (GoesRight c → ⊥)
right_tells TakeRight = inl tt
right_tells Read = inl tt
right_tells (Write u) = inl tt
right_tells ShiftRight = inl tt
right_tells ShiftLeft = inl tt
right_tells _ = inr (λ h. h)

left_tells : (c : CellLine) → GoesLeft c ⊎ (GoesLeft c → ⊥)
left_tells TakeLeft = inl tt
left_tells (Answer u) = inl tt
left_tells DoneWrite = inl tt
left_tells DoneRight = inl tt
left_tells DoneLeft = inl tt
left_tells _ = inr (λ h. h)

module _ (m : Quadruples) (l : Limits) where
  -- wires of one kind: one for each tape, each place below a bound and each line of the kind
  module _ (IsKind : CellLine → Type 0) (count : ℕ → ℕ) (leaves ends : ℕ → ℕ → CellLine → Line) where
    record IsOneWire (t p : ℕ) (c : CellLine) (w : Wire) : Type 0 where
      from : w.from ≡ leaves t p c
      to : w.to ≡ ends t p c

    abbrev AtPlace : ℕ → ℕ → Wire → Type 0
    AtPlace t p w = (c : CellLine) × (IsLineOf (symbol_count m t) c × IsKind c) × IsOneWire t p c w

    abbrev AtTape : ℕ → Wire → Type 0
    AtTape t w = (p : ℕ) × (p < count t) × AtPlace t p w

    abbrev OfKind : Wire → Type 0
    OfKind w = (t : ℕ) × IsTape t × AtTape t w

    -- the wire of a tape, a place and a line
    one_listed : (t p : ℕ) (c : CellLine) → Listing (IsOneWire t p c)
    one_listed t p c =
        alone (IsOneWire t p c) (record { from = leaves t p c; to = ends t p c }) (record { from = refl; to = refl })
        (λ w h. let one = h.from in let two = h.to in λ i. record { from = one i; to = two i })

    kind_listed : ((c : CellLine) → IsKind c ⊎ (IsKind c → ⊥)) → Listing OfKind
    kind_listed tells =
        for_each IsTape AtTape tapes_listed (λ t tape.
        for_each (λ p. p < count t) (AtPlace t) (below (count t)) (λ p low.
        for_each (λ c. IsLineOf (symbol_count m t) c
        × IsKind c) (IsOneWire t p) (those (IsLineOf (symbol_count m t)) IsKind (lines_listed (symbol_count m t)) tells)
        (λ c h. one_listed t p c)))

  -- a line of the control to a tape, and from it
  abbrev order_at : ℕ → ℕ → CellLine → Line
  order_at t p c = line_at 0 (out_number m (to_tape t c))

  abbrev answer_at : ℕ → ℕ → CellLine → Line
  answer_at t p c = line_at 0 (in_number m (to_tape t c))

  -- a line of the first cell, of the one at a place, of the next
  abbrev first_at : ℕ → ℕ → CellLine → Line
  first_at t p c = line_at (first_cell l t) (line_number (symbol_count m t) c)

  abbrev here_at : ℕ → ℕ → CellLine → Line
  here_at t p c = line_at (first_cell l t + p) (line_number (symbol_count m t) c)

  abbrev next_at : ℕ → ℕ → CellLine → Line
  next_at t p c = line_at (first_cell l t + (p + 1)) (line_number (symbol_count m t) c)

  -- how many wires of a line lead from cell to cell
  abbrev joints : ℕ → ℕ
  joints t = cells_in l t - 1

  abbrev Commands : Wire → Type 0
  Commands = OfKind IsCommand (λ t. 1) order_at first_at

  abbrev Replies : Wire → Type 0
  Replies = OfKind IsReply (λ t. 1) first_at answer_at

  abbrev Rightward : Wire → Type 0
  Rightward = OfKind GoesRight joints here_at next_at

  abbrev Leftward : Wire → Type 0
  Leftward = OfKind GoesLeft joints next_at here_at

  abbrev IsOneOf : Wire → Type 0
  IsOneOf w = (Commands w ⊎ Replies w) ⊎ (Rightward w ⊎ Leftward w)

  of_kinds : (w : Wire) → IsOneOf w → IsNetWire m l w.from w.to
  of_kinds w (inl (inl h)) = commands h.0 h.2.2.0 h.1 h.2.2.1.1 h.2.2.1.0 h.2.2.2.from h.2.2.2.to
  of_kinds w (inl (inr h)) = replies h.0 h.2.2.0 h.1 h.2.2.1.1 h.2.2.1.0 h.2.2.2.from h.2.2.2.to
  of_kinds w (inr (inl h)) = let low = h.2.1 in rightward h.0 h.2.0 h.2.2.0 h.1 (omega arith) h.2.2.1.1 h.2.2.1.0
      h.2.2.2.from h.2.2.2.to
  of_kinds w (inr (inr h)) = let low = h.2.1 in leftward h.0 h.2.0 h.2.2.0 h.1 (omega arith) h.2.2.1.1 h.2.2.1.0
      h.2.2.2.from h.2.2.2.to

  to_kinds : (w : Wire) → IsNetWire m l w.from w.to → IsOneOf w
  to_kinds w (commands t c tape kind line f g) = inl (inl (
    t,
    tape,
    (0, omega arith, (c, (line, kind), record { from = f; to = g })),
  ))
  to_kinds w (replies t c tape kind line f g) = inl (inr (
    t,
    tape,
    (0, omega arith, (c, (line, kind), record { from = f; to = g })),
  ))
  to_kinds w (rightward t p c tape low kind line f g) = inr (inl
      (t, tape, (p, omega arith, (c, (line, kind), record { from = f; to = g }))))
  to_kinds w (leftward t p c tape low kind line f g) = inr (inr
      (t, tape, (p, omega arith, (c, (line, kind), record { from = f; to = g }))))

  -- the wires of the network
  wires_listed : Listing (λ (w : Wire). IsNetWire m l w.from w.to)
  wires_listed =
      same IsOneOf (λ w. IsNetWire m l w.from w.to)
      (either (λ w. Commands w ⊎ Replies w) (λ w. Rightward w ⊎ Leftward w)
      (either Commands Replies (kind_listed IsCommand (λ t. 1) order_at first_at command_tells)
      (kind_listed IsReply (λ t. 1) first_at answer_at reply_tells))
      (either Rightward Leftward (kind_listed GoesRight joints here_at next_at right_tells)
      (kind_listed GoesLeft joints next_at here_at left_tells)))
      of_kinds to_kinds

  -- ---- the circuit

  module _ (three : length m.symbols ≡ 3) (names : List ControlState) (control : Table)
      (is : IsControlTable m names control) where
    abbrev tables : List Table
    tables = module_tables m l control

    -- an end that a wire leaves is an output line
    out_there : (a : Port) → IsOut m l a → IsOutputOf tables (out_line m l a)
    out_there (AtControl t c) h = let low = order_low m l three t c h in let count = is.outputs in omega arith
    out_there (AtCell t p c) h =
        let at = cell_at m l control t h.tape p h.place in
        let count : outputs_of tables (first_cell l t + p) ≡ cell_line_count (symbol_count m t) =
        ap (λ o. option_map_or (λ (u : Table). u.outputs) o 0) at in
        let low = line_within (symbol_count m t) c h.line in
        rw count low

    -- an end to which a wire comes is an input line
    in_there : (a : Port) → IsIn m l a → IsInputOf tables (in_line m l a)
    in_there (AtControl t c) h = let low = answer_low m l three t c h in let count = is.inputs in omega arith
    in_there (AtCell t p c) h =
        let at = cell_at m l control t h.tape p h.place in
        let count : inputs_of tables (first_cell l t + p) ≡ cell_line_count (symbol_count m t) =
        ap (λ o. option_map_or (λ (u : Table). u.inputs) o 0) at in
        let low = line_within (symbol_count m t) c h.line in
        rw count low

    -- each table is reversible
    reversible : (t : Table) → (t ≡ control) ⊎ ((u : ℕ) × IsTape u × (t ≡ cell_table (symbol_count m u)))
        → IsReversible t
    reversible t (inl e) = subst IsReversible (sym e) is.reversible
    reversible t (inr h) = subst IsReversible (sym h.2) (cells-reversible (symbol_count m h.0))

    -- a wire leads from an output line to an input line
    pub wired : (from to : Line) → IsNetWire m l from to → IsOutputOf tables from × IsInputOf tables to
    wired from to h =
        let x = leaving m l from to h in
        let y = coming m l from to h in
        (subst (IsOutputOf tables) (sym x.2) (out_there x.0 x.1), subst (IsInputOf tables) (sym y.2) (in_there y.0 y.1))

    -- the circuit of the modules with the wires
    pub network_there : (k : Circuit) × IsNetwork m l names k
    network_there =
        let made = wires_there (IsNetWire m l) (both_ways m l three) wires_listed in
        let wires = made.0 in
        let are : AreWiresOf (IsNetWire m l) wires = made.1 in (
          record { tables = tables; wires = wires },
          record {
            circuit = record {
              reversible = λ e t h. reversible t (tables_only m l control e t h);
              one_to_one = apart-IsOneToOne wires are.apart;
              wired = λ from to h. wired from to (are.sound from to h);
            };
            control = control;
            is_control = is;
            tables = refl;
            wires = λ from to. (are.sound from to, are.complete from to);
          },
        )
