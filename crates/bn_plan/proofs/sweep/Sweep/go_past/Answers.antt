use Rattle.std.proofs.Common.{◌+◌, subst, sym, arith}
use Rattle.std.proofs.lemmas.Result.{on_ok_weaker}
use Rattle.bn_plan.specs.declared.positions.TheConstants.{MOST_PLANNED}
use Rattle.bn_plan.specs.Sweeping.{IsSwept}
use Rattle.bn_plan.proofs.CircuitLemmas.{net_rotary, ends_near, ends_within}
use Rattle.bn_plan.proofs.sweep.Sweep.go_past.Goals as goal

pub begin-requires-clause-from : goal.begin-requires-clause-from
begin-requires-clause-from c = (ends_near c.args.net.now c.wire_from.ensures.circuit c.wire_from.ensures.order
    MOST_PLANNED c.requires.few c.in-Some.wire c.in-Some.ensures.begins.0).0.element

pub begin-requires-clause-to : goal.begin-requires-clause-to
begin-requires-clause-to c = (ends_near c.args.net.now c.wire_from.ensures.circuit c.wire_from.ensures.order
    MOST_PLANNED c.requires.few c.in-Some.wire c.in-Some.ensures.begins.0).1.element

pub begin-requires-clause-lines : goal.begin-requires-clause-lines
begin-requires-clause-lines c =
    let near = ends_near c.args.net.now c.wire_from.ensures.circuit c.wire_from.ensures.order MOST_PLANNED
    c.requires.few c.in-Some.wire c.in-Some.ensures.begins.0 in
    record { from = near.0.line; to = near.1.line }

pub begin-requires-clause-position : goal.begin-requires-clause-position
begin-requires-clause-position c =
    let within = ends_within c.args.net.now c.wire_from.ensures.circuit c.wire_from.ensures.order c.in-Some.wire
    c.in-Some.ensures.begins.0 in
    omega (arith, within, c.requires.positions)

pub returns-in-Some-clause-swept : goal.returns-in-Some-clause-swept
returns-in-Some-clause-swept c =
    let here = c.in-Some.ensures.begins in
    on_ok_weaker c.begin.result (λ swept. subst (λ p. IsSwept c.args.net.now.wires (p + 1) c.begin.new.self) here.1
    (swept c.args.net.now.wires (net_rotary c.args.net.now c.wire_from.ensures.circuit c.wire_from.ensures.order) here.0
    (subst (λ p. IsSwept c.args.net.now.wires p c.args.self.now) (sym here.1) c.requires.swept))) c.begin.ensures.swept

pub returns-in-None-clause-swept : goal.returns-in-None-clause-swept
returns-in-None-clause-swept c =
    on_ok_weaker c.end.result (λ swept. swept c.args.net.now.wires
    (net_rotary c.args.net.now c.wire_from.ensures.circuit c.wire_from.ensures.order) c.in-None.ensures.none
    c.requires.swept) c.end.ensures.swept
