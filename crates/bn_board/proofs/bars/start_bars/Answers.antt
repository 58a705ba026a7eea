use Rattle.std.proofs.Common.{rules, arith, ◌≡◌, ◌<◌, ◌+◌, slice_index_or, length, ap, ◌∙◌, length-append, length-set}
use Rattle.std.proofs.Common.{replicate}
use Rattle.std.proofs.lemmas.Option.{slice_get-get_or}
use Rattle.std.proofs.lemmas.List.{length-replicate}
use Rattle.bn_element.specs.Rotary.{horizontal, vertical}
use Rattle.bn_realise.specs.Banks.{bottom_at}
use Rattle.bn_boards.specs.Boards.{size_of}
use Rattle.bn_network_assembly.specs.Modules.{module_table}
use Rattle.bn_circuits.specs.declared.net.TheConstants.{MOST_ELEMENTS}
use Rattle.bn_board.specs.BoardWires.{module_circuit}
use Rattle.bn_board.proofs.WireLemmas.{module_at}
use Rattle.bn_board.proofs.CopyLemmas.{bank_bars, bars_more}
use Rattle.bn_board.proofs.bars.start_bars.Goals as goal

pub push_bank-requires-clause-some : goal.push_bank-requires-clause-some
push_bank-requires-clause-some c = (module_at c.args.net.now c.loop-number.number MOST_ELEMENTS c.element.result.now
    c.requires.modules c.requires.few
    c.element.ensures).some_states

pub push_bank-requires-clause-few : goal.push_bank-requires-clause-few
push_bank-requires-clause-few c =
    let fits = (module_at c.args.net.now c.loop-number.number MOST_ELEMENTS c.element.result.now c.requires.modules
    c.requires.few c.element.ensures).fits in
    let count = c.loop-number.invariant.count in
    omega arith

pub push_bank-requires-clause-state : goal.push_bank-requires-clause-state
push_bank-requires-clause-state c =
    let at = module_at c.args.net.now c.loop-number.number MOST_ELEMENTS c.element.result.now c.requires.modules
    c.requires.few c.element.ensures in
    let low : c.loop-number.number < length c.args.states.now = search rules in
    c.requires.within c.loop-number.number (slice_index_or c.args.states.now c.loop-number.number 0)
    (module_table c.element.result.now)
    (slice_get-get_or c.args.states.now c.loop-number.number 0 low) at.has

pub loop-number-preserved : goal.loop-number-preserved
loop-number-preserved c =
    let at = module_at c.args.net.now c.loop-number.number MOST_ELEMENTS c.element.result.now c.requires.modules
    c.requires.few c.element.ensures in
    let t = module_table c.element.result.now in
    let q = slice_index_or c.args.states.now c.loop-number.number 0 in
    let low : c.loop-number.number < length c.args.states.now = search rules in
    let at_q = slice_get-get_or c.args.states.now c.loop-number.number 0 low in
    let pushed = c.in_ok-push_bank.ensures in
    let sizes : length (bank_bars t q) ≡ size_of t = length-set (replicate (size_of t) vertical)
    (bottom_at 0 t.inputs q) horizontal ∙ length-replicate
    (size_of t) vertical in
    let counted : length c.push_bank.new.bars.items ≡ length c.loop-number.bars.items + length (bank_bars t q) =
    ap length pushed ∙ length-append
    c.loop-number.bars.items (bank_bars t q) in
    let before = c.loop-number.invariant.count in
    let next = at.next in
    record {
      so_far = bars_more (module_circuit c.args.net.now).tables c.args.states.now c.loop-number.bars.items
          c.push_bank.new.bars.items
          c.loop-number.number q t at.has at_q c.loop-number.invariant.so_far pushed;
      count = omega arith;
    }
