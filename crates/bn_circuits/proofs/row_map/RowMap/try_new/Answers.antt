use Rattle.std.proofs.Common.{◌≡◌, replicate, None, rules}
use Rattle.bn_circuits.proofs.RowLemmas.{empty_rows, empty_rows_end}
use Rattle.bn_circuits.proofs.row_map.RowMap.try_new.Goals as goal

pub index-total-requires : goal.index-total-requires
index-total-requires c = let within = empty_rows_end c.args.widths.now c.in_ok-starts.starts.items
    c.in_ok-starts.ensures in search rules

pub invariant_of-result : goal.invariant_of-result
invariant_of-result c =
    let cells : c.in_ok-cells.cells.items ≡ replicate c.index-total.result.now None = search rules in
    (empty_rows c.args.widths.now c.in_ok-starts.starts.items c.in_ok-cells.cells.items c.index-total.result.now
    c.in_ok-starts.ensures c.index-total.ensures cells).starts_are

pub returns : goal.returns
returns c =
    let cells : c.in_ok-cells.cells.items ≡ replicate c.index-total.result.now None = search rules in
    (empty_rows c.args.widths.now c.in_ok-starts.starts.items c.in_ok-cells.cells.items c.index-total.result.now
    c.in_ok-starts.ensures c.index-total.ensures cells).rows_are
