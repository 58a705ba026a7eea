use Rattle.std.proofs.Common.{◌≡◌, ◌+◌, arith, ap, subst, length, List}
use Rattle.bn_circuits.specs.RotaryNets.{rotary_circuit}
use Rattle.bn_circuits.specs.declared.line.Line.{Line}
use Rattle.bn_reply_behaviours.specs.Replying.{IsAddedIf, IsFree}
use Rattle.bn_reply_behaviours.proofs.ReadingLemmas.{last_added, last_refused}
use Rattle.bn_reply_behaviours.proofs.names.read_last.Goals as goal

pub returns-then-not-branch : goal.returns-then-not-branch
returns-then-not-branch c = λ names so_far.
    let both = subst (IsAddedIf (IsFree (rotary_circuit c.args.net.now) c.args.side) c.args.name.now c.args.before
    c.add_named.new.ports) c.if-not-branch.true c.in_ok-add_named.ensures in
    let same : length c.add_named.new.ports ≡ length c.args.before = ap (λ (xs : List Line). length xs) both.0 in
    last_refused (IsFree (rotary_circuit c.args.net.now) c.args.side) names c.args.before c.args.name.now
    (c.len.result + 1) so_far both.1 (omega (arith, same, c.len.ensures.number))

pub returns : goal.returns
returns c = λ names so_far.
    last_added (IsFree (rotary_circuit c.args.net.now) c.args.side) names c.args.before c.add_named.new.ports
    c.args.name.now so_far
    (subst (IsAddedIf (IsFree (rotary_circuit c.args.net.now) c.args.side) c.args.name.now c.args.before
    c.add_named.new.ports) c.if-not-branch.false c.in_ok-add_named.ensures)
