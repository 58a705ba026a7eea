use Rattle.std.proofs.Common.{◌≡◌, ◌+◌, ◌*◌, ◌∷◌, [], List, ap, ◌∙◌, arith}
use Rattle.std.proofs.lemmas.Result.{on_ok_weaker}
use Rattle.bn_network_assembly.specs.Assembled.{limits_of}
use Rattle.bn_network.specs.Networks.{cell_size, cells_in, first_cell}
use Rattle.bn_boards.specs.Layouts.{Layout, lines_at}
use Rattle.bn_reply_layout.specs.declared.bank.Bank.{Bank}
use Rattle.bn_reply_layout.specs.declared.bank.ModuleName.TheVariants.{Control}
use Rattle.bn_reply_layout.specs.declared.module_text.Row.{Row}
use Rattle.bn_reply_layout.specs.Modules.{cell_banks, shape}
use Rattle.bn_reply_layout.proofs.JoinedLemmas.{joined, first_is, second_is, third_is, all_is, modules_are}
use Rattle.bn_reply_layout.proofs.module_text.push_modules.Goals as goal

pub returns : goal.returns
returns c =
    let l = limits_of c.args.windows.now in
    let z = c.args.letters in
    let h = c.args.history in
    let states = c.args.states in
    let lines = c.from.result in
    let b : Layout = shape l (z ∷ h ∷ z ∷ []) states in
    let sum : z + h + z + 10 ≡ lines_at (shape l (z ∷ h ∷ z ∷ []) states) = omega arith in
    let same = c.from.ensures ∙ sum in
    let banks : Row → List Bank = λ w. cell_banks w.tape w.symbols w.left w.number w.first w.count in
    let one = c.row_size.ensures.size ∙ ap (λ n. n * cell_size z) c.cells.ensures in
    let two = c.row_size-2.ensures.size ∙ ap (λ n. n * cell_size h) c.cells-2.ensures in
    let three = c.row_size-3.ensures.size ∙ ap (λ n. n * cell_size z) c.cells-3.ensures in
    let count = c.from-2.ensures ∙ (λ i. c.first_cell.ensures i + c.cells-4.ensures i) in
    let first = ap banks c.row_of.ensures ∙ ap (λ x. cell_banks 1 z l.left (first_cell l 1) x (cells_in l 1))
    (first_is l z h states lines same) in
    let second = ap banks c.row_of-2.ensures ∙ ap (λ x. cell_banks 2 h 0 (first_cell l 2) x (cells_in l 2))
    (second_is l z h states lines same c.row_size.result one) in
    let third = ap banks c.row_of-3.ensures ∙ ap (λ x. cell_banks 3 z 0 (first_cell l 3) x (cells_in l 3))
    (third_is l z h states lines same c.row_size.result c.row_size-2.result one two) in
    let control : Bank = record { number = 0; name = Control; first = 0; columns = states; lines = z + h + z + 10 } in
    on_ok_weaker c.push_cells-3.result (λ last.
    joined b (states * (lines + 1) + c.row_size.result + c.row_size-2.result + c.row_size-3.result) c.from-2.result
    control (banks c.row_of.result) (banks c.row_of-2.result) (banks c.row_of-3.result)
    c.args.text.now.items c.push_counted.new.text.items c.push_counted-2.new.text.items c.push_control.new.text.items
    c.push_cells.new.text.items c.push_cells-2.new.text.items c.push_cells-3.new.text.items
    (all_is l z h states lines same c.row_size.result c.row_size-2.result c.row_size-3.result one two three)
    (modules_are l z h states lines same c.from-2.result count)
    (λ i. record { number = 0; name = Control; first = 0; columns = states; lines = sum i }) first second third
    c.in_ok-push_counted.ensures.added c.in_ok-push_counted-2.ensures.added c.in_ok-push_control.ensures
    c.in_ok-push_cells.ensures
    c.in_ok-push_cells-2.ensures last) c.push_cells-3.ensures
