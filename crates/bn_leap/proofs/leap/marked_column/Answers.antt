use Rattle.std.proofs.Common.{arith}
use Rattle.bn_leap.proofs.EntryLemmas.{element_low}
use Rattle.bn_leap.proofs.leap.marked_column.Goals as goal

pub element_at-requires : goal.element_at-requires
element_at-requires c =
    let v = c.args.entry.now in
    let h = element_low v.first v.lines c.loop-column.column v.states v.lines (omega arith) (omega arith) in
    let few = c.requires.few in
    omega arith

pub bar-requires : goal.bar-requires
bar-requires c =
    let v = c.args.entry.now in
    let h = element_low v.first v.lines c.loop-column.column v.states v.lines (omega arith) (omega arith) in
    let within = c.requires.within in
    omega arith
