use Rattle.std.proofs.Common.{◌∙◌, sym}
use Rattle.bn_realise.proofs.BankWiresLemmas.{stage_without}
use Rattle.bn_realise.proofs.WireLemmas.{stage_pushed, target_fits}
use Rattle.bn_realise.proofs.wires.push_turned.Goals as goal

pub returns-in_default-clause-stage : goal.returns-in_default-clause-stage
returns-in_default-clause-stage g c =
    stage_without c.args.first (g.E.Element.table c.args.machine.now) (g.met.E.Element.reversible c.args.machine.now)
    c.requires.room.square c.requires.room.some_lines c.args.column c.args.row c.args.wires.now.items
    (sym c.go.ensures ∙ c.in_default.is) c.requires.half

pub element_at-to-requires : goal.element_at-to-requires
element_at-to-requires g c =
    target_fits c.args.first c.lines_in-rows.result c.args.column c.args.row c.in-Some.next c.in-Some.out
    (g.E.Element.table c.args.machine.now) (g.met.E.Element.reversible c.args.machine.now) c.requires.room
    c.lines_in-rows.ensures (sym c.go.ensures ∙ c.in-Some.is)

pub returns-clause-stage : goal.returns-clause-stage
returns-clause-stage g c =
    stage_pushed c.args.first (g.E.Element.table c.args.machine.now) c.lines_in-rows.result c.args.column c.args.row
    c.in-Some.next c.in-Some.out c.element_at-from.result c.element_at-to.result c.args.wires.now.items
    c.push.new.self.items c.wire.result (g.met.E.Element.reversible c.args.machine.now) c.requires.room
    c.lines_in-rows.ensures c.requires.column c.requires.row (sym c.go.ensures ∙ c.in-Some.is)
    c.element_at-from.ensures c.element_at-to.ensures c.wire.ensures c.in_ok-push.ensures.items c.requires.half
