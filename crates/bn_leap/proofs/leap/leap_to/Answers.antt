use Rattle.std.proofs.Common.{arith}
use Rattle.bn_leap.proofs.EntryLemmas.{element_low}
use Rattle.bn_leap.proofs.leap.leap_to.Goals as goal

pub element_at-requires : goal.element_at-requires
element_at-requires c =
    let v = c.args.entry.now in
    let h = element_low v.first v.lines c.args.state v.states v.lines c.requires.start (omega arith) in
    let fits = c.requires.fits in
    omega arith
