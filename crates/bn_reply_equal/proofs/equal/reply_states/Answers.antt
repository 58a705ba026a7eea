use Rattle.std.proofs.Common.{◌-◌, ◌<◌, arith, refl}
use Rattle.bn_reply_equal.specs.EqualReply.{compared}
use Rattle.bn_reply_equal.proofs.equal.reply_states.Goals as goal

pub returns : goal.returns
returns c =
    let one = c.requires.state in
    let two = c.requires.other in
    let low : c.args.state - 1 < c.args.first.now.states =
    omega (arith, one, c.if-state-states.false, c.states.ensures) in
    let inside : c.args.other - 1 < c.args.second.now.states =
    omega (arith, two, c.if-other-states.false, c.states-2.ensures) in
    compared (c.args.state - 1) (c.args.other - 1) (omega (arith, one)) (omega (arith, two)) low inside
    c.in_ok-text.ensures refl refl
