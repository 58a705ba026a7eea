use Rattle.std.proofs.Common.{rules, sym, subst}
use Rattle.bn_network_assembly.specs.Assembled.{limits_of}
use Rattle.bn_board.specs.Starts.{IsLayoutOf}
use Rattle.bn_board.proofs.KeptLemmas.{kept-layout, layout-read}
use Rattle.bn_board.proofs.numbers.layout_of.Goals as goal

pub new-requires : goal.new-requires
new-requires c =
    let kept = c.windows.ensures.kept in
    kept-layout c.args.assembly.now _ kept (
    layout-read c.args.assembly.now c.windows.ensures.kept c.in-Control.control (search rules)
    c.in_ok-awaited.ensures.tapes
    (limits_of c.windows.result.now) c.windows.ensures.windows c.symbols.result c.symbols-2.result c.symbols-3.result
    c.states.result
    (c.symbols.ensures kept.machine kept.start kept.names kept.assembled)
    (c.symbols-2.ensures kept.machine kept.start kept.names kept.assembled)
    (c.symbols-3.ensures kept.machine kept.start kept.names kept.assembled)
    (search rules) c.in_ok-firsts.firsts.items c.in_ok-awaited.awaited.items c.in_ok-firsts.ensures
    c.in_ok-awaited.ensures.list
    )

pub returns-clause-numbers : goal.returns-clause-numbers
returns-clause-numbers c =
    let kept = c.windows.ensures.kept in
    subst (IsLayoutOf c.args.assembly.now) (sym c.new.ensures) (
    layout-read c.args.assembly.now c.windows.ensures.kept c.in-Control.control (search rules)
    c.in_ok-awaited.ensures.tapes
    (limits_of c.windows.result.now) c.windows.ensures.windows c.symbols.result c.symbols-2.result c.symbols-3.result
    c.states.result
    (c.symbols.ensures kept.machine kept.start kept.names kept.assembled)
    (c.symbols-2.ensures kept.machine kept.start kept.names kept.assembled)
    (c.symbols-3.ensures kept.machine kept.start kept.names kept.assembled)
    (search rules) c.in_ok-firsts.firsts.items c.in_ok-awaited.awaited.items c.in_ok-firsts.ensures
    c.in_ok-awaited.ensures.list
    )
