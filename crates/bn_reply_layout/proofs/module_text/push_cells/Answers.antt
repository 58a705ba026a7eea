use Rattle.std.proofs.Common.{◌≡◌, ℕ, ◌++◌, sym, ap, ◌∙◌, arith}
use Rattle.std.specs.List.{flat_map, range_with_len}
use Rattle.std.proofs.lemmas.List.Folds.{flat_map-map}
use Rattle.bn_reply_layout.specs.declared.bank.Bank.{Bank}
use Rattle.bn_reply_layout.specs.Modules.{cell_bank}
use Rattle.bn_reply_layout.specs.ModuleText.{module_line}
use Rattle.bn_reply_layout.proofs.RowLemmas.{no_line, line_more}
use Rattle.bn_reply_layout.proofs.module_text.push_cells.Goals as goal

pub loop-cell-init : goal.loop-cell-init
loop-cell-init c =
    let r = c.args.row.now in
    no_line (λ j. module_line (cell_bank r.tape r.symbols r.left r.number r.first j)) c.args.text.now.items

pub loop-cell-preserved : goal.loop-cell-preserved
loop-cell-preserved c =
    let r = c.args.row.now in
    line_more (λ j. module_line (cell_bank r.tape r.symbols r.left r.number r.first j)) c.loop-cell.cell
    c.args.text.now.items c.loop-cell.text.items c.push_module.new.text.items c.loop-cell.invariant
    (c.in_ok-push_module.ensures ∙ ap (λ (b : Bank). c.loop-cell.text.items ++ module_line b) c.bank_of-bank.ensures)

pub returns : goal.returns
returns c =
    let r = c.args.row.now in
    let bank : ℕ → Bank = cell_bank r.tape r.symbols r.left r.number r.first in
    let end : c.loop-cell.cell ≡ r.count = omega arith in
    c.loop-cell.invariant ∙ ap (λ n. c.args.text.now.items ++ flat_map
    (λ j. module_line (cell_bank r.tape r.symbols r.left r.number r.first j)) (range_with_len 0 n)) end
    ∙ ap (λ l. c.args.text.now.items ++ l) (sym (flat_map-map module_line
    (cell_bank r.tape r.symbols r.left r.number r.first) (range_with_len 0 r.count)))
