-- The states and lines of a control's moves have numbers.
use Rattle.std.proofs.Common.{◌≡◌, get_or, slice_get, ℕ, suc, ◌-◌, List, length, Some, sym, subst, arith}
use Rattle.bn_quad.specs.Quadruples.{Quadruples, IsQuadMachine}
use Rattle.bn_network.specs.declared.cell_line.CellLine.{CellLine}
use Rattle.bn_network.specs.declared.cell_line.CellLine.TheVariants.{Read, Write, ShiftRight, ShiftLeft, Answer}
use Rattle.bn_network.specs.declared.cell_line.CellLine.TheVariants.{DoneWrite, DoneRight, DoneLeft}
use Rattle.bn_network.specs.Cells.{IsLineOf}
use Rattle.bn_network.proofs.LineLemmas.{IsLine, outside, tape, IsReply, IsCommand, IsInLine, IsOutLine}
use Rattle.bn_network.proofs.GoingLemmas.{sound}
use Rattle.bn_lists.proofs.MemberLemmas.{member_at}
use Rattle.bn_control.specs.declared.line.Line.{Line}
use Rattle.bn_control.specs.declared.line.Line.TheVariants.{Outside, Tape}
use Rattle.bn_control.specs.declared.named.NamedMove.{NamedMove}
use Rattle.bn_control.specs.declared.name.StateName.{StateName}
use Rattle.bn_control.specs.Names.{state_of}
use Rattle.bn_control.specs.Commands.{line_of, sending_of}
use Rattle.bn_control.specs.Named.{AreMoves}
use Rattle.bn_control.specs.Ordered.{AreOrdered}
use Rattle.bn_control.specs.Numbered.{IsWithin, HasNumbers}

reply_line : (z : ℕ) (l : CellLine) → IsReply z l → IsLineOf z l
reply_line z (Answer c) h = h
reply_line z (Write c) h = absurd h
reply_line z DoneWrite h = tt
reply_line z DoneRight h = tt
reply_line z DoneLeft h = tt
reply_line z _ h = absurd h

command_line : (z : ℕ) (l : CellLine) → IsCommand z l → IsLineOf z l
command_line z (Write c) h = h
command_line z (Answer c) h = absurd h
command_line z Read h = tt
command_line z ShiftRight h = tt
command_line z ShiftLeft h = tt
command_line z _ h = absurd h

-- a line of a kind whose symbols are in range
line_within : (zs : List ℕ) (IsKind : ℕ → CellLine → Type 0) → ((z : ℕ) (l : CellLine) → IsKind z l → IsLineOf z l)
    → length zs ≡ 3 → (x : Line) → IsLine zs IsKind (line_of x) → IsWithin zs x
line_within zs IsKind kinds three Outside h = tt
line_within zs IsKind kinds three (Tape t l) (outside e) = absurd (cc)
line_within zs IsKind kinds three (Tape t l) (tape j k few kind e) =
    let place : t ≡ suc j = cc in
    let same : l ≡ k = cc in
    let at : t - 1 ≡ j = omega arith in (
      omega arith,
      omega arith,
      subst (λ n. IsLineOf (get_or zs n 0) l) (sym at)
          (subst (IsLineOf (get_or zs j 0)) (sym same) (kinds (get_or zs j 0) k kind)),
    )

pub in_within : (m : Quadruples) → length m.symbols ≡ 3 → (x : Line) → IsInLine m (line_of x) → IsWithin m.symbols x
in_within m three x h = line_within m.symbols IsReply reply_line three x h

pub out_within : (m : Quadruples) → length m.symbols ≡ 3 → (x : Line) → IsOutLine m (line_of x) → IsWithin m.symbols x
out_within m three x h = line_within m.symbols IsCommand command_line three x h

module _ (m : Quadruples) (is : IsQuadMachine m) (ss : List StateName) (ordered : AreOrdered m ss) where
  pub move_numbers : (xs : List NamedMove) → AreMoves m xs → (n : ℕ) (x : NamedMove) → slice_get xs n ≡ Some x
      → HasNumbers ss m.symbols x
  move_numbers xs moves n x e =
      let going = moves.only x (member_at xs n x e) in
      let one = sound m is (state_of x.state) (line_of x.line) (sending_of x.to) going.goes in
      record {
        state = record { machine = m; ordered = ordered; occurs = one.occurs; proper = going.from };
        line = in_within m is.tapes x.line one.line;
        next = record { machine = m; ordered = ordered; occurs = one.end.occurs; proper = going.to };
        out = out_within m is.tapes x.to.line one.end.line;
      }
