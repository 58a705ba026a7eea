-- The ends of a network's wires: the control's lines and the cells' lines, by tape, place and name.
use Rattle.std.specs.Prelude.{◌≡◌, ℕ, zero, suc, ◌+◌, ◌<◌, Bool, true, false, not, length, refl}
use Rattle.std.proofs.Common.{arith, sym, ap, subst, ◌∙◌, add-one}
use Rattle.bn_circuits.specs.declared.line.Line.{Line}
use Rattle.bn_machine.specs.Outcome.{Limits}
use Rattle.bn_quad.specs.Quadruples.{Quadruples}
use Rattle.bn_network.specs.declared.cell_line.CellLine.{CellLine}
use Rattle.bn_network.specs.declared.cell_line.CellLine.TheVariants.{Read, Write, ShiftRight, ShiftLeft, TakeRight}
use Rattle.bn_network.specs.declared.cell_line.CellLine.TheVariants.{Answer, DoneWrite, DoneRight, DoneLeft, TakeLeft}
use Rattle.bn_network.specs.Cells.{IsLineOf, line_number, cell_line}
use Rattle.bn_network.specs.Controls.{Tape as to_tape, symbol_count, in_number, out_number, control_lines}
use Rattle.bn_network.specs.Networks.{IsTape, IsCommand, IsReply, GoesRight, GoesLeft, IsNetWire, commands, replies}
use Rattle.bn_network.specs.Networks.{rightward, leftward, cells_in, first_cell}
use Rattle.bn_circuits.specs.Circuits.{line_at}
use Rattle.bn_cell.specs.Reversible.{lines}
use Rattle.bn_network.proofs.LineLemmas as control
use Rattle.bn_network.proofs.LineLemmas.{tape as on_tape, IsInLine, IsOutLine, in_one, out_one, in_low, out_low}
use Rattle.bn_network_laws.proofs.ListedWireLemmas.{IsBothWays}
use Rattle.bn_network_laws.proofs.CellRowLemmas.{cells_some, cells_later, place_one, by_tape}

-- an end of a wire: a line of the control to or from a tape, or a line of a tape's cell
pub data Port : Type 0 where
  AtControl : ℕ → CellLine → Port
  AtCell : ℕ → ℕ → CellLine → Port

-- whether a line leads to the right
abbrev pub goes_right : CellLine → Bool
goes_right Read = true
goes_right (Write u) = true
goes_right ShiftRight = true
goes_right ShiftLeft = true
goes_right TakeRight = true
goes_right _ = false

right_is : (c : CellLine) → GoesRight c → goes_right c ≡ true
right_is Read h = refl
right_is (Write u) h = refl
right_is ShiftRight h = refl
right_is ShiftLeft h = refl
right_is TakeRight h = refl
right_is _ h = absurd h

left_is : (c : CellLine) → GoesLeft c → goes_right c ≡ false
left_is TakeLeft h = refl
left_is (Answer u) h = refl
left_is DoneWrite h = refl
left_is DoneRight h = refl
left_is DoneLeft h = refl
left_is _ h = absurd h

command_is : (c : CellLine) → IsCommand c → goes_right c ≡ true
command_is Read h = refl
command_is (Write u) h = refl
command_is ShiftRight h = refl
command_is ShiftLeft h = refl
command_is _ h = absurd h

reply_is : (c : CellLine) → IsReply c → goes_right c ≡ false
reply_is (Answer u) h = refl
reply_is DoneWrite h = refl
reply_is DoneRight h = refl
reply_is DoneLeft h = refl
reply_is _ h = absurd h

-- one place on to the right, or to the left, and from the first cell to the control
abbrev moved : Bool → ℕ → ℕ → CellLine → Port
moved true t p c = AtCell t (suc p) c
moved false t zero c = AtControl t c
moved false t (suc p) c = AtCell t p c

-- where the wire from this end leads
abbrev after : Port → Port
after (AtControl t c) = AtCell t 0 c
after (AtCell t p c) = moved (goes_right c) t p c

-- where the wire to this end comes from
abbrev before : Port → Port
before (AtControl t c) = AtCell t 0 c
before (AtCell t p c) = moved (not (goes_right c)) t p c

-- a command of the control, as the cells' numbers have it
as_command : (z : ℕ) (c : CellLine) → IsCommand c → IsLineOf z c → control.IsCommand z c
as_command z Read h low = tt
as_command z (Write u) h low = low
as_command z ShiftRight h low = tt
as_command z ShiftLeft h low = tt
as_command z _ h low = absurd h

-- a reply likewise
as_reply : (z : ℕ) (c : CellLine) → IsReply c → IsLineOf z c → control.IsReply z c
as_reply z (Answer u) h low = low
as_reply z DoneWrite h low = tt
as_reply z DoneRight h low = tt
as_reply z DoneLeft h low = tt
as_reply z _ h low = absurd h

module _ (m : Quadruples) (l : Limits) where
  -- a line of a cell that is there
  pub record IsCell (t p : ℕ) (c : CellLine) : Type 0 where
    pub tape : IsTape t
    pub place : p < cells_in l t
    pub line : IsLineOf (symbol_count m t) c

  -- a line of the control to a tape
  pub record IsOrder (t : ℕ) (c : CellLine) : Type 0 where
    pub tape : IsTape t
    pub kind : IsCommand c
    pub line : IsLineOf (symbol_count m t) c

  -- a line to the control from a tape
  pub record IsAnswer (t : ℕ) (c : CellLine) : Type 0 where
    pub tape : IsTape t
    pub kind : IsReply c
    pub line : IsLineOf (symbol_count m t) c

  abbrev pub IsOut : Port → Type 0
  IsOut (AtControl t c) = IsOrder t c
  IsOut (AtCell t p c) = IsCell t p c

  abbrev pub IsIn : Port → Type 0
  IsIn (AtControl t c) = IsAnswer t c
  IsIn (AtCell t p c) = IsCell t p c

  abbrev pub out_line : Port → Line
  out_line (AtControl t c) = line_at 0 (out_number m (to_tape t c))
  out_line (AtCell t p c) = line_at (first_cell l t + p) (line_number (symbol_count m t) c)

  abbrev pub in_line : Port → Line
  in_line (AtControl t c) = line_at 0 (in_number m (to_tape t c))
  in_line (AtCell t p c) = line_at (first_cell l t + p) (line_number (symbol_count m t) c)

  -- a cell's first element
  at_first : (t : ℕ) → first_cell l t ≡ first_cell l t + 0
  at_first t = omega arith

  -- a wire leaves an end, and leads where the end's wire leads
  pub leaving : (from to : Line) → IsNetWire m l from to → (a : Port) × IsOut a × (from ≡ out_line a)
      × (to ≡ in_line (after a))
  leaving from to (commands t c tape kind line f g) = (
    AtControl t c,
    record { tape = tape; kind = kind; line = line },
    f,
    g ∙ ap (λ e. line_at e (line_number (symbol_count m t) c)) (at_first t),
  )
  leaving from to (replies t c tape kind line f g) =
      let side = reply_is c kind in
      let ends : to ≡ in_line (moved false t 0 c) = g in (
        AtCell t 0 c,
        record { tape = tape; place = cells_some l t tape; line = line },
        f ∙ ap (λ e. line_at e (line_number (symbol_count m t) c)) (at_first t),
        subst (λ b. to ≡ in_line (moved b t 0 c)) (sym side) ends,
      )
  leaving from to (rightward t p c tape low kind line f g) =
      let side = right_is c kind in
      let next : p + 1 ≡ suc p = add-one p in
      let ends : to ≡ in_line (moved true t p c) = g ∙ ap (λ e. line_at (first_cell l t + e)
      (line_number (symbol_count m t) c)) next in (
        AtCell t p c,
        record { tape = tape; place = omega arith; line = line },
        f,
        subst (λ b. to ≡ in_line (moved b t p c)) (sym side) ends,
      )
  leaving from to (leftward t p c tape low kind line f g) =
      let side = left_is c kind in
      let next : p + 1 ≡ suc p = add-one p in
      let ends : to ≡ in_line (moved false t (suc p) c) = g in (
        AtCell t (suc p) c,
        record { tape = tape; place = omega arith; line = line },
        f ∙ ap (λ e. line_at (first_cell l t + e) (line_number (symbol_count m t) c)) next,
        subst (λ b. to ≡ in_line (moved b t (suc p) c)) (sym side) ends,
      )

  -- a wire comes to an end, from where the end's wire comes
  pub coming : (from to : Line) → IsNetWire m l from to → (a : Port) × IsIn a × (to ≡ in_line a)
      × (from ≡ out_line (before a))
  coming from to (commands t c tape kind line f g) =
      let side = command_is c kind in
      let ends : from ≡ out_line (moved (not true) t 0 c) = f in (
        AtCell t 0 c,
        record { tape = tape; place = cells_some l t tape; line = line },
        g ∙ ap (λ e. line_at e (line_number (symbol_count m t) c)) (at_first t),
        subst (λ b. from ≡ out_line (moved (not b) t 0 c)) (sym side) ends,
      )
  coming from to (replies t c tape kind line f g) = (
    AtControl t c,
    record { tape = tape; kind = kind; line = line },
    g,
    f ∙ ap (λ e. line_at e (line_number (symbol_count m t) c)) (at_first t),
  )
  coming from to (rightward t p c tape low kind line f g) =
      let side = right_is c kind in
      let next : p + 1 ≡ suc p = add-one p in
      let ends : from ≡ out_line (moved (not true) t (suc p) c) = f in (
        AtCell t (suc p) c,
        record { tape = tape; place = omega arith; line = line },
        g ∙ ap (λ e. line_at (first_cell l t + e) (line_number (symbol_count m t) c)) next,
        subst (λ b. from ≡ out_line (moved (not b) t (suc p) c)) (sym side) ends,
      )
  coming from to (leftward t p c tape low kind line f g) =
      let side = left_is c kind in
      let next : p + 1 ≡ suc p = add-one p in
      let ends : from ≡ out_line (moved (not false) t p c) = f ∙ ap
      (λ e. line_at (first_cell l t + e) (line_number (symbol_count m t) c)) next in (
        AtCell t p c,
        record { tape = tape; place = omega arith; line = line },
        g,
        subst (λ b. from ≡ out_line (moved (not b) t p c)) (sym side) ends,
      )

  -- ends at cells with one line are one
  cells_one : (t u p q : ℕ) (c d : CellLine) → IsCell t p c → IsCell u q d
      → line_at (first_cell l t + p) (line_number (symbol_count m t) c)
      ≡ line_at (first_cell l u + q) (line_number (symbol_count m u) d) → AtCell t p c ≡ AtCell u q d
  cells_one t u p q c d a b e =
      let place = place_one l t u p q a.tape b.tape a.place b.place (ap (λ (x : Line). x.element) e) in
      let zs : symbol_count m t ≡ symbol_count m u = ap (symbol_count m) place.0 in
      let numbers : line_number (symbol_count m t) c ≡ line_number (symbol_count m u) d = ap (λ (x : Line). x.line) e in
      let there : IsLineOf (symbol_count m t) d = subst (λ z. IsLineOf z d) (sym zs) b.line in
      let same : line_number (symbol_count m t) c ≡ line_number (symbol_count m t) d =
      numbers ∙ ap (λ z. line_number z d) (sym zs) in
      let line : c ≡ d = sym (lines (symbol_count m t) c a.line) ∙ ap (cell_line (symbol_count m t)) same
      ∙ lines (symbol_count m t) d there in
      let one = place.0 in
      let two = place.1 in
      λ i. AtCell (one i) (two i) (line i)

  -- a cell is not the control
  cell_apart : (t p n k : ℕ) → IsTape t → line_at 0 n ≡ line_at (first_cell l t + p) k → ⊥
  cell_apart t p n k a e = let later = cells_later l t a in let same : 0 ≡ first_cell l t + p =
      ap (λ (x : Line). x.element) e in omega arith

  module _ (three : length m.symbols ≡ 3) where
    -- an order's line is one of the control's
    order_line : (t : ℕ) → IsTape t → (c : CellLine) → IsCommand c → IsLineOf (symbol_count m t) c
        → IsOutLine m (to_tape t c)
    order_line =
        by_tape (λ t. (c : CellLine) → IsCommand c → IsLineOf (symbol_count m t) c → IsOutLine m (to_tape t c))
        (λ c kind line. on_tape 0 c (omega arith) (as_command (symbol_count m 1) c kind line) refl)
        (λ c kind line. on_tape 1 c (omega arith) (as_command (symbol_count m 2) c kind line) refl)
        (λ c kind line. on_tape 2 c (omega arith) (as_command (symbol_count m 3) c kind line) refl)

    -- an answer's line is one of the control's
    answer_line : (t : ℕ) → IsTape t → (c : CellLine) → IsReply c → IsLineOf (symbol_count m t) c
        → IsInLine m (to_tape t c)
    answer_line =
        by_tape (λ t. (c : CellLine) → IsReply c → IsLineOf (symbol_count m t) c → IsInLine m (to_tape t c))
        (λ c kind line. on_tape 0 c (omega arith) (as_reply (symbol_count m 1) c kind line) refl)
        (λ c kind line. on_tape 1 c (omega arith) (as_reply (symbol_count m 2) c kind line) refl)
        (λ c kind line. on_tape 2 c (omega arith) (as_reply (symbol_count m 3) c kind line) refl)

    -- the tape and the line of a line of the control
    control_parts : (t u : ℕ) (c d : CellLine) → to_tape t c ≡ to_tape u d → AtControl t c ≡ AtControl u d
    control_parts t u c d e = cc

    -- ends that wires leave with one line are one
    outs_one : (a b : Port) → IsOut a → IsOut b → out_line a ≡ out_line b → a ≡ b
    outs_one (AtControl t c) (AtControl u d) h k e =
        control_parts t u c d (out_one m (to_tape t c) (to_tape u d) (order_line t h.tape c h.kind h.line)
        (order_line u k.tape d k.kind k.line) (ap (λ (x : Line). x.line) e))
    outs_one (AtControl t c) (AtCell u q d) h k e = absurd (cell_apart u q (out_number m (to_tape t c))
        (line_number (symbol_count m u) d) k.tape e)
    outs_one (AtCell t p c) (AtControl u d) h k e = absurd (cell_apart t p (out_number m (to_tape u d))
        (line_number (symbol_count m t) c) h.tape (sym e))
    outs_one (AtCell t p c) (AtCell u q d) h k e = cells_one t u p q c d h k e

    -- ends to which wires come with one line are one
    ins_one : (a b : Port) → IsIn a → IsIn b → in_line a ≡ in_line b → a ≡ b
    ins_one (AtControl t c) (AtControl u d) h k e =
        control_parts t u c d (in_one m (to_tape t c) (to_tape u d) (answer_line t h.tape c h.kind h.line)
        (answer_line u k.tape d k.kind k.line) (ap (λ (x : Line). x.line) e))
    ins_one (AtControl t c) (AtCell u q d) h k e = absurd (cell_apart u q (in_number m (to_tape t c))
        (line_number (symbol_count m u) d) k.tape e)
    ins_one (AtCell t p c) (AtControl u d) h k e = absurd (cell_apart t p (in_number m (to_tape u d))
        (line_number (symbol_count m t) c) h.tape (sym e))
    ins_one (AtCell t p c) (AtCell u q d) h k e = cells_one t u p q c d h k e

    -- the wires are one to one both ways
    pub both_ways : IsBothWays (IsNetWire m l)
    both_ways = record { ahead = ahead; behind = behind }
      where
        ahead : (from to other : Line) → IsNetWire m l from to → IsNetWire m l from other → to ≡ other
        ahead from to other h k =
            let x = leaving from to h in
            let y = leaving from other k in
            let same : x.0 ≡ y.0 = outs_one x.0 y.0 x.1 y.1 (sym x.2 ∙ y.2) in
            x.3 ∙ ap (λ a. in_line (after a)) same ∙ sym y.3

        behind : (from other to : Line) → IsNetWire m l from to → IsNetWire m l other to → from ≡ other
        behind from other to h k =
            let x = coming from to h in
            let y = coming other to k in
            let same : x.0 ≡ y.0 = ins_one x.0 y.0 x.1 y.1 (sym x.2 ∙ y.2) in
            x.3 ∙ ap (λ a. out_line (before a)) same ∙ sym y.3

    -- a line of the control to a tape is in range
    pub order_low : (t : ℕ) (c : CellLine) → IsOrder t c → out_number m (to_tape t c) < control_lines m
    order_low t c h = out_low m three (to_tape t c) (order_line t h.tape c h.kind h.line)

    -- a line to the control from a tape is in range
    pub answer_low : (t : ℕ) (c : CellLine) → IsAnswer t c → in_number m (to_tape t c) < control_lines m
    answer_low t c h = in_low m three (to_tape t c) (answer_line t h.tape c h.kind h.line)
