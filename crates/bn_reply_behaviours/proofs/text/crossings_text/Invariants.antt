use Rattle.std.proofs.Common.{◌≡◌, take}
use Rattle.bn_reply_behaviours.specs.CrossingsReply.{crossings_text}
use Rattle.bn_reply_behaviours.proofs.text.crossings_text.Given as goal

abbrev pub invariant-loop-step : goal.invariant-loop-step
invariant-loop-step l = l.text.items ≡ crossings_text l.ports (take l.step-index l.moves)
