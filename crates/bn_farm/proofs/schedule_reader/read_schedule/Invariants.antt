use Rattle.std.proofs.Common.{length}
use Rattle.bn_farm.proofs.ScheduleLemmas.{HasRead}
use Rattle.bn_farm.proofs.schedule_reader.read_schedule.Given as goal

abbrev pub invariant-loop-cursor : goal.invariant-loop-cursor
invariant-loop-cursor l = HasRead l.boards l.bytes l.events.items l.cursor

abbrev pub decreases-loop-cursor : goal.decreases-loop-cursor
decreases-loop-cursor l = length l.cursor
