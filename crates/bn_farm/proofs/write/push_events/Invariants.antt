use Rattle.std.proofs.Common.{◌≡◌, ◌++◌, take}
use Rattle.bn_farm.specs.FarmTexts.{schedule_text}
use Rattle.bn_farm.proofs.write.push_events.Given as goal

abbrev pub invariant-loop-event : goal.invariant-loop-event
invariant-loop-event l = l.text.items ≡ l.initial.text.items ++ schedule_text (take l.event-index l.events)
