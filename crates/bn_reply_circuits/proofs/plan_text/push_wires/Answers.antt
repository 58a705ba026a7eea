use Rattle.bn_reply_circuits.proofs.PlanTextLemmas.{at_in, text_more}
use Rattle.bn_reply_circuits.proofs.plan_text.push_wires.Goals as goal

pub push_wire-requires : goal.push_wire-requires
push_wire-requires c = c.requires _ (at_in c.args.wires.now c.loop-wire.wire-index _ c.loop-wire-test.true)

pub loop-wire-preserved : goal.loop-wire-preserved
loop-wire-preserved c = text_more c.args.text.now.items c.loop-wire.text.items c.push_wire.new.text.items
    c.args.wires.now c.loop-wire.wire-index _ c.loop-wire.invariant c.loop-wire-test.true c.in_ok-push_wire.ensures
