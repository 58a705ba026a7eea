use Rattle.bn_network_assembly.specs.Assembled.{limits_of}
use Rattle.bn_reply.proofs.ReplyLemmas.{silent_ends}
use Rattle.bn_reply_layout.specs.LayoutReply.{LayoutReplies}
use Rattle.bn_reply_layout.proofs.layout.answer_layout.Goals as goal

pub returns-clause-ends : goal.returns-clause-ends
returns-clause-ends g c = λ told.
    silent_ends (LayoutReplies c.args.word.now (limits_of c.args.windows.now) c.args.bytes.now) c.reply_layout.result
    c.give_reply.result (g.K.Sink.taken c.args.sink.now)
    (g.K.Sink.taken c.give_reply.new.sink) (g.K.Sink.faults c.args.sink.now) (g.K.Sink.faults c.give_reply.new.sink)
    told c.reply_layout.ensures c.give_reply.ensures.ends
