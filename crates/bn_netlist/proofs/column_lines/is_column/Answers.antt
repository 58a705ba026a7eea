use Rattle.std.proofs.Common.{true, false, refl}
use Rattle.bn_netlist.proofs.ColumnTests.{column_test}
use Rattle.bn_netlist.proofs.column_lines.is_column.Goals as goal

pub returns-then-not-has_rungs : goal.returns-then-not-has_rungs
returns-then-not-has_rungs g c =
    let s = g.C.Spellable.spelling c.args.config.now in
    column_test s.elements s.wires s.config.states c.args.first c.args.rows false _ _ _ c.requires.within
    c.if-not-has_rungs.ensures refl refl refl

pub returns-then-not-has_ends : goal.returns-then-not-has_ends
returns-then-not-has_ends g c =
    let s = g.C.Spellable.spelling c.args.config.now in
    column_test s.elements s.wires s.config.states c.args.first c.args.rows true false _ _ c.requires.within
    c.if-not-has_rungs.ensures c.if-not-has_ends.ensures refl refl

pub returns : goal.returns
returns g c =
    let s = g.C.Spellable.spelling c.args.config.now in
    column_test s.elements s.wires s.config.states c.args.first c.args.rows true true true c.is_standing.result
    c.requires.within c.if-not-has_rungs.ensures c.if-not-has_ends.ensures c.if-not-is_free.ensures
    c.is_standing.ensures
