-- The numbers of the control's lines are in range and one to one.
use Rattle.std.proofs.Common.{◌≡◌, inl, inr, get_or, ℕ, zero, suc, ◌+◌, ◌-◌, ◌<◌, ◌≤◌, ◌==◌, nat_lt, cond, List, []}
use Rattle.std.proofs.Common.{◌∷◌, length, refl, sym, ap, subst, ◌∙◌, arith}
use Rattle.std.proofs.lemmas.Bool.Decides.{nat_tests}
use Rattle.bn_quad.specs.Quadruples.{Quadruples}
use Rattle.bn_network.specs.declared.cell_line.CellLine.{CellLine}
use Rattle.bn_network.specs.declared.cell_line.CellLine.TheVariants.{Read, Write, ShiftRight, ShiftLeft, Answer}
use Rattle.bn_network.specs.declared.cell_line.CellLine.TheVariants.{DoneWrite, DoneRight, DoneLeft}
use Rattle.bn_network.specs.Controls.{ControlLine, Outside, Tape, lines_before, answer_offset, command_offset}
use Rattle.bn_network.specs.Controls.{control_lines, in_number, out_number}
use Rattle.bn_network.proofs.NumberLemmas.{by_order}

-- ---- the lines of one tape

-- a line on which a cell of so many symbols answers
abbrev pub IsReply : ℕ → CellLine → Type 0
IsReply z (Answer c) = c < z
IsReply z DoneWrite = Unit {0}
IsReply z DoneRight = Unit {0}
IsReply z DoneLeft = Unit {0}
IsReply z _ = ⊥

-- a line on which it is commanded
abbrev pub IsCommand : ℕ → CellLine → Type 0
IsCommand z Read = Unit {0}
IsCommand z (Write c) = c < z
IsCommand z ShiftRight = Unit {0}
IsCommand z ShiftLeft = Unit {0}
IsCommand z _ = ⊥

-- the reply with a number
abbrev reply_at : ℕ → ℕ → CellLine
reply_at z n = cond (nat_lt n z) (Answer n) (cond (n == z) DoneWrite (cond (n == z + 1) DoneRight DoneLeft))

-- the command with a number
abbrev command_at : ℕ → ℕ → CellLine
command_at z n = cond (n == 0) Read (cond (nat_lt n (z + 1)) (Write (n - 1)) (cond (n == z + 1) ShiftRight ShiftLeft))

-- a reply is known by its number
reply_known : (z : ℕ) (l : CellLine) → IsReply z l → reply_at z (answer_offset z l) ≡ l
reply_known z (Answer c) h = grind (arith, nat_tests)
reply_known z DoneWrite h = grind (arith, nat_tests)
reply_known z DoneRight h = grind (arith, nat_tests)
reply_known z DoneLeft h = grind (arith, nat_tests)
reply_known z _ h = absurd h

-- a command is known by its number
command_known : (z : ℕ) (l : CellLine) → IsCommand z l → command_at z (command_offset z l) ≡ l
command_known z Read h = refl
command_known z (Write c) h = grind (arith, nat_tests)
command_known z ShiftRight h = grind (arith, nat_tests)
command_known z ShiftLeft h = grind (arith, nat_tests)
command_known z _ h = absurd h

-- replies with one number are one
reply_one : (z : ℕ) (l k : CellLine) → IsReply z l → IsReply z k → answer_offset z l ≡ answer_offset z k → l ≡ k
reply_one z l k h g e = sym (reply_known z l h) ∙ ap (reply_at z) e ∙ reply_known z k g

-- commands with one number are one
command_one : (z : ℕ) (l k : CellLine) → IsCommand z l → IsCommand z k → command_offset z l ≡ command_offset z k → l ≡ k
command_one z l k h g e = sym (command_known z l h) ∙ ap (command_at z) e ∙ command_known z k g

-- the number of a reply is below so many
reply_low : (z : ℕ) (l : CellLine) → IsReply z l → answer_offset z l < z + 3
reply_low z (Answer c) h = omega arith
reply_low z DoneWrite h = omega arith
reply_low z DoneRight h = omega arith
reply_low z DoneLeft h = omega arith
reply_low z _ h = absurd h

-- the number of a command is below so many
command_low : (z : ℕ) (l : CellLine) → IsCommand z l → command_offset z l < z + 3
command_low z Read h = omega arith
command_low z (Write c) h = omega arith
command_low z ShiftRight h = omega arith
command_low z ShiftLeft h = omega arith
command_low z _ h = absurd h

-- ---- the lines of all tapes

-- a tape's lines are so many
lines_more : (zs : List ℕ) (j : ℕ) → j < length zs → lines_before zs (suc j) ≡ lines_before zs j + get_or zs j 0 + 3
lines_more [] j h = absurd (omega arith)
lines_more (z ∷ zs) zero h = omega arith
lines_more (z ∷ zs) (suc j) h = let more = lines_more zs j (omega arith) in omega arith

-- there is one line before those of the tapes
pub lines_some : (zs : List ℕ) (j : ℕ) → 1 ≤ lines_before zs j
lines_some zs zero = omega arith
lines_some [] (suc j) = omega arith
lines_some (z ∷ zs) (suc j) = let more = lines_some zs j in omega arith

-- the lines rise with the tapes
lines_rise : (zs : List ℕ) (i j : ℕ) → i ≤ j → lines_before zs i ≤ lines_before zs j
lines_rise zs zero j h = lines_some zs j
lines_rise zs (suc i) zero h = absurd (omega arith)
lines_rise [] (suc i) (suc j) h = omega arith
lines_rise (z ∷ zs) (suc i) (suc j) h = let more = lines_rise zs i j (omega arith) in omega arith

-- a line to the outside, or one of this kind to a tape
pub data IsLine (zs : List ℕ) (IsKind : ℕ → CellLine → Type 0) (i : ControlLine) : Type 0 where
  outside : i ≡ Outside → IsLine zs IsKind i
  tape : (j : ℕ) (l : CellLine) → j < length zs → IsKind (get_or zs j 0) l → i ≡ Tape (suc j) l → IsLine zs IsKind i

module _ (zs : List ℕ) (IsKind : ℕ → CellLine → Type 0) (offset : ℕ → CellLine → ℕ) (number : ControlLine → ℕ) where
  -- numbers tape by tape
  record AreNumbers : Type 0 where
    first : number Outside ≡ 0
    each : (j : ℕ) (l : CellLine) → number (Tape (suc j) l) ≡ lines_before zs j + offset (get_or zs j 0) l
    one : (z : ℕ) (l k : CellLine) → IsKind z l → IsKind z k → offset z l ≡ offset z k → l ≡ k
    low : (z : ℕ) (l : CellLine) → IsKind z l → offset z l < z + 3

  module _ (are : AreNumbers) where
    -- the number of a tape's line is not before the tape's lines
    above : (j : ℕ) (l : CellLine) (i : ControlLine) → i ≡ Tape (suc j) l → lines_before zs j ≤ number i
    above j l i e = let is = ap number e in let at = are.each j l in omega arith

    -- nor behind them
    beneath : (j : ℕ) (l : CellLine) (i : ControlLine) → j < length zs → IsKind (get_or zs j 0) l → i ≡ Tape (suc j) l
        → number i < lines_before zs (suc j)
    beneath j l i few kind e =
        let is = ap number e in let at = are.each j l in let more = lines_more zs j few in let small =
        are.low (get_or zs j 0) l kind in omega arith

    -- the number of a line is in range
    line_low : (i : ControlLine) → IsLine zs IsKind i → number i < lines_before zs (length zs)
    line_low i (outside e) = let is = ap number e in let at = are.first in let some =
        lines_some zs (length zs) in omega arith
    line_low i (tape j l few kind e) = let low = beneath j l i few kind e in let more =
        lines_rise zs (suc j) (length zs) (omega arith) in omega arith

    -- lines of two tapes have two numbers
    apart : (i k : ControlLine) (j h : ℕ) (l : CellLine) (o : CellLine) → j < length zs → IsKind (get_or zs j 0) l
        → i ≡ Tape (suc j) l → k ≡ Tape (suc h) o
        → j < h → number i ≡ number k → ⊥
    apart i k j h l o few kind e d low same = let one = beneath j l i few kind e in let more =
        lines_rise zs (suc j) h (omega arith) in let two = above h o k d in omega arith

    -- lines with one number are one
    line_one : (i k : ControlLine) → IsLine zs IsKind i → IsLine zs IsKind k → number i ≡ number k → i ≡ k
    line_one i k (outside e) (outside d) same = e ∙ sym d
    line_one i k (outside e) (tape h o few kind d) same =
        let zero_number = ap number e ∙ are.first in let some = lines_some zs h in let high =
        above h o k d in absurd (omega arith)
    line_one i k (tape j l few kind e) (outside d) same =
        let zero_number = ap number d ∙ are.first in let some = lines_some zs j in let high =
        above j l i e in absurd (omega arith)
    line_one i k (tape j l few kind e) (tape h o few2 kind2 d) same =
        elim (by_order j h) [
          | inl low ↦ absurd (apart i k j h l o few kind e d low same)
          | inr rest ↦ elim rest [
            | inl low ↦ absurd (apart k i h j o l few2 kind2 d e low (sym same))
            | inr is ↦ at_one j h l o is kind kind2 e d same
          ]
        ]
      where
        at_one : (j h : ℕ) (l o : CellLine) → j ≡ h → IsKind (get_or zs j 0) l → IsKind (get_or zs h 0) o
            → i ≡ Tape (suc j) l → k ≡ Tape (suc h) o
            → number i ≡ number k → i ≡ k
        at_one j h l o is a b e d same =
            let back = sym is in
            let there : IsKind (get_or zs j 0) o = subst (λ n. IsKind (get_or zs n 0) o) back b in
            let place : k ≡ Tape (suc j) o = d ∙ ap (λ n. Tape (suc n) o) back in
            let one = ap number e ∙ are.each j l in
            let two = ap number place ∙ are.each j o in
            let offsets : offset (get_or zs j 0) l ≡ offset (get_or zs j 0) o = omega arith in
            e ∙ ap (Tape (suc j)) (are.one (get_or zs j 0) l o a there offsets) ∙ sym place

module _ (m : Quadruples) where
  -- an input line in range
  abbrev pub IsInLine : ControlLine → Type 0
  IsInLine i = IsLine m.symbols IsReply i

  -- an output line in range
  abbrev pub IsOutLine : ControlLine → Type 0
  IsOutLine i = IsLine m.symbols IsCommand i

  -- the numbers of input lines
  in_numbers : AreNumbers m.symbols IsReply answer_offset (in_number m)
  in_numbers = record { first = refl; each = each; one = reply_one; low = reply_low }
    where
      each : (j : ℕ) (l : CellLine) → in_number m (Tape (suc j) l)
          ≡ lines_before m.symbols j + answer_offset (get_or m.symbols j 0) l
      each j l = let e : suc j - 1 ≡ j = omega arith in ap (λ n. lines_before m.symbols n
          + answer_offset (get_or m.symbols j 0) l) e

  -- the numbers of output lines
  out_numbers : AreNumbers m.symbols IsCommand command_offset (out_number m)
  out_numbers = record { first = refl; each = each; one = command_one; low = command_low }
    where
      each : (j : ℕ) (l : CellLine) → out_number m (Tape (suc j) l)
          ≡ lines_before m.symbols j + command_offset (get_or m.symbols j 0) l
      each j l = let e : suc j - 1 ≡ j = omega arith in ap (λ n. lines_before m.symbols n
          + command_offset (get_or m.symbols j 0) l) e

  -- an input line's number is in range
  pub in_low : length m.symbols ≡ 3 → (i : ControlLine) → IsInLine i → in_number m i < control_lines m
  in_low three i h = subst (λ n. in_number m i < lines_before m.symbols n) three
      (line_low m.symbols IsReply answer_offset (in_number m) in_numbers i h)

  -- input lines with one number are one
  pub in_one : (i k : ControlLine) → IsInLine i → IsInLine k → in_number m i ≡ in_number m k → i ≡ k
  in_one i k h g e = line_one m.symbols IsReply answer_offset (in_number m) in_numbers i k h g e

  -- an output line's number is in range
  pub out_low : length m.symbols ≡ 3 → (i : ControlLine) → IsOutLine i → out_number m i < control_lines m
  out_low three i h = subst (λ n. out_number m i < lines_before m.symbols n) three
      (line_low m.symbols IsCommand command_offset (out_number m) out_numbers i h)

  -- output lines with one number are one
  pub out_one : (i k : ControlLine) → IsOutLine i → IsOutLine k → out_number m i ≡ out_number m k → i ≡ k
  out_one i k h g e = line_one m.symbols IsCommand command_offset (out_number m) out_numbers i k h g e
