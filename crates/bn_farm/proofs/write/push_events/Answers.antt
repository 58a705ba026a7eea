use Rattle.bn_farm.proofs.WriteLemmas.{events_text_more}
use Rattle.bn_farm.proofs.write.push_events.Goals as goal

pub loop-event-preserved : goal.loop-event-preserved
loop-event-preserved c = events_text_more c.args.text.now.items c.loop-event.text.items c.push_event.new.text.items
    c.args.events.now c.loop-event.event-index _ c.loop-event.invariant c.loop-event-test.true
    c.in_ok-push_event.ensures
