use Rattle.std.proofs.Common.{◌+◌, ◌<◌, ◌≤◌, subst}
use Rattle.bn_realise.proofs.BankWiresLemmas.{half_without}
use Rattle.bn_realise.proofs.WireLemmas.{half_pushed}
use Rattle.bn_realise.proofs.wires.push_onward.Goals as goal

pub returns-then-column-states-clause-half : goal.returns-then-column-states-clause-half
returns-then-column-states-clause-half g c =
    half_without c.args.first (g.E.Element.table c.args.machine.now) (g.met.E.Element.reversible c.args.machine.now)
    c.requires.room.square c.requires.room.some_lines c.args.column c.args.row c.args.wires.now.items
    (subst (λ n. n ≤ c.args.column + 1) c.states.ensures c.if-column-states.true) c.requires.stage

pub returns-clause-half : goal.returns-clause-half
returns-clause-half g c =
    half_pushed c.args.first (g.E.Element.table c.args.machine.now) c.lines_in-rows.result c.args.column c.args.row
    c.element_at-from.result c.element_at-to.result c.args.wires.now.items c.push.new.self.items c.wire.result
    (g.met.E.Element.reversible c.args.machine.now) c.requires.room c.lines_in-rows.ensures
    (subst (λ n. c.args.column + 1 < n) c.states.ensures c.if-column-states.false) c.requires.row
    c.element_at-from.ensures c.element_at-to.ensures c.wire.ensures c.in_ok-push.ensures.items c.requires.stage
