use Rattle.std.proofs.Common.{arith}
use Rattle.bn_reply.proofs.LetterLemmas.{one_more}
use Rattle.bn_reply_machines.specs.QuadReply.{lettered}
use Rattle.bn_reply_machines.proofs.tape_names.TapeNames.spell.Goals as goal

pub loop-index-preserved : goal.loop-index-preserved
loop-index-preserved c =
    rw c.in_ok-push.ensures.items (one_more (lettered c.args.self.now) c.args.word.now c.loop-index.index
    c.loop-index.symbols.items c.in-Some.symbol (omega arith) c.loop-index.invariant c.in-Some.ensures)
