use Rattle.std.proofs.Common.{◌≤◌, length}
use Rattle.bn_farm.proofs.PlayLemmas.{IsPlayed}
use Rattle.bn_farm.proofs.farm.Farm.play.Given as goal

abbrev pub invariant-loop-index : goal.invariant-loop-index
invariant-loop-index l = IsPlayed l.fn.self l.events l.index l.self-inside.boards.items l.undo.items
    × (length l.events ≤ l.undo.cap)
