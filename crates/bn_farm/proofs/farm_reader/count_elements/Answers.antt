use Rattle.std.proofs.Common.{◌+◌, length, sym, ap, subst, ◌∙◌}
use Rattle.bn_netlist.specs.declared.net_config.NetConfig.{NetConfig}
use Rattle.bn_farm.proofs.FarmReadLemmas.{HasCounted, one_counted}
use Rattle.bn_farm.proofs.farm_reader.count_elements.Goals as goal

pub loop-board-preserved : goal.loop-board-preserved
loop-board-preserved c =
    let more = one_counted c.args.boards.now c.loop-board.board-index c.loop-board.count c.board-item.result
    c.requires.farm c.loop-board-test.true c.loop-board.invariant in
    let same = ap (λ (x : NetConfig). length x.net.elements) (sym c.board-item.is) ∙ sym c.len.ensures.number
    ∙ sym c.from-count.ensures in
    subst (λ n. HasCounted c.args.boards.now (c.loop-board.board-index + 1) (c.loop-board.count + n)) same more
