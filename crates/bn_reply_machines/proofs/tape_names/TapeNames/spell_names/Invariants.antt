use Rattle.std.specs.Prelude.{length}
use Rattle.bn_qtable.specs.TapeWords.{names_between}
use Rattle.bn_reply_machines.specs.NamedWords.{IsNamedSoFar}
use Rattle.bn_reply_machines.proofs.tape_names.TapeNames.spell_names.Given as goal

abbrev pub invariant-loop-comma : goal.invariant-loop-comma
invariant-loop-comma l = IsNamedSoFar l.self (names_between l.bytes) l.symbols.items (names_between l.left)

abbrev pub decreases-loop-comma : goal.decreases-loop-comma
decreases-loop-comma l = length l.left
