-- A table has few letters.
use Rattle.std.proofs.Common.{◌≤◌, arith, length, ap}
use Rattle.bn_table.proofs.Bounds.{few-letters}
use Rattle.bn_table.proofs.table.Table.symbol_of.Goals as goal

pub place_of-requires : goal.place_of-requires
place_of-requires c =
    let letters = c.self.inside.letters.items in
    let few : length letters ≤ 91 = few-letters _ letters _ _ c.self.invariant.spelled in
    omega (arith, few, ap length c.as_slice.ensures.value)
