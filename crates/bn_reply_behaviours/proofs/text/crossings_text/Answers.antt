use Rattle.bn_reply_circuits.proofs.PlanTextLemmas.{at_in}
use Rattle.bn_reply_behaviours.proofs.TextLemmas.{text_more}
use Rattle.bn_reply_behaviours.proofs.text.crossings_text.Goals as goal

pub push_crossing-requires : goal.push_crossing-requires
push_crossing-requires c = c.requires _ (at_in c.args.moves.now c.loop-step.step-index _ c.loop-step-test.true)

pub loop-step-preserved : goal.loop-step-preserved
loop-step-preserved c = text_more c.args.ports.now c.loop-step.text.items c.push_crossing.new.text.items
    c.args.moves.now c.loop-step.step-index _ c.loop-step.invariant c.loop-step-test.true c.in_ok-push_crossing.ensures
