use Rattle.std.proofs.Common.{None, get_or, refl, sym, subst}
use Rattle.bn_reply_boards.proofs.CellTextLemmas.{IsNoLetter, shows_none, shows_blank, symbol_found, none_behind}
use Rattle.bn_reply_boards.proofs.CellTextLemmas.{output_ended}
use Rattle.bn_reply_boards.proofs.tape_text.output_of.Goals as goal
use Rattle.bn_reply_boards.proofs.tape_text.output_of.Goals.{in_default-via-in-Some+else-symbol-ne0}
use Rattle.bn_reply_boards.proofs.tape_text.output_of.Goals.{in_default-via-in_default}

pub loop-cell-preserved : goal.loop-cell-preserved
loop-cell-preserved c =
    symbol_found c.args.cells.now c.loop-cell.cell-index None c.in-Some.symbol c.loop-cell.output.items
    c.push.new.self.items c.loop-cell-test.true c.in-Some.is
    c.if-symbol-ne0.true c.loop-cell.invariant c.in_ok-push-in-Some.ensures.items

pub returns : goal.returns
returns c = none_behind c.args.cells.now c.loop-cell.cell-index c.loop-cell.output.items c.loop-cell-test.false
    c.loop-cell.invariant

pub returns-in_default : goal.returns-in_default
returns-in_default c =
    let none : IsNoLetter (get_or c.args.cells.now c.loop-cell.cell-index None) =
    elim c.in_default.branch [
      | in_default-via-in-Some+else-symbol-ne0 w ↦ (let h = subst IsNoLetter (sym w.in-Some.is)
          (shows_blank w.in-Some.symbol w.if-symbol-ne0.false) in h)
      | in_default-via-in_default w ↦ subst IsNoLetter (sym w.in_default.is) shows_none
    ] in
    output_ended c.args.cells.now c.loop-cell.cell-index None (get_or c.args.cells.now c.loop-cell.cell-index None)
    c.loop-cell.output.items
    c.loop-cell-test.true refl none c.loop-cell.invariant
