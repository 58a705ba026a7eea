-- The line by which the signal enters a bank.
use Rattle.std.specs.Prelude.{◌≡◌, ◌+◌, Option, Some, None, IfSome}
use Rattle.bn_element.specs.Rotary.{west}
use Rattle.bn_circuits.specs.declared.line.Line.{Line}
use Rattle.bn_circuits.proofs.StepLemmas.{same_lines}
use Rattle.bn_realise.specs.Banks.{bank_input_line}
use Rattle.bn_boards.specs.Layouts.{Layout}
use Rattle.bn_board.specs.Entered.{IsEntryIn}
use Rattle.bn_leap.specs.declared.entry.Entry.{Entry}

-- the west of a row of the first column is the bank's input line
pub entered_line : (b : Layout) (at : Line) (o : Option Entry) → at.line ≡ west
    → IfSome o (λ v. IsEntryIn b v × (at.element ≡ v.first + v.row))
    → IfSome o (λ v. IsEntryIn b v × (at ≡ bank_input_line v.first v.row))
entered_line b at None side h = tt
entered_line b at (Some v) side h = (h.0, same_lines at (bank_input_line v.first v.row) h.1 side)
