use Rattle.std.proofs.Common.{◌∙◌, Some, ap, arith}
use Rattle.bn_column.specs.Columns.{bar}
use Rattle.bn_realise.proofs.BankCrossingLemmas.{eqb_same}
use Rattle.bn_realise.proofs.cross.marked_column.Goals as goal

pub unreachable-requires : goal.unreachable-requires
unreachable-requires c =
    let h = c.requires in
    let marked = (h.resting.columns h.state h.within).bottom ∙ ap (λ x. Some (bar x)) (eqb_same h.state) in
    c.loop-column.invariant h.state (omega (arith, h.within)) marked
