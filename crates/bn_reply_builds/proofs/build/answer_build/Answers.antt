use Rattle.bn_qtable.specs.TapeWords.{tape_words_of}
use Rattle.bn_network_assembly.specs.Assembled.{limits_of}
use Rattle.bn_reply_builds.specs.BuildReply.{BuildReplies}
use Rattle.bn_reply_circuits.proofs.UnwrittenLemmas.{none_ends, will_ends}
use Rattle.bn_reply_builds.proofs.build.answer_build.Goals as goal

pub give-requires : goal.give-requires
give-requires g c = c.in-Ok.ensures.writable

pub returns-in-Ok-clause-ends : goal.returns-in-Ok-clause-ends
returns-in-Ok-clause-ends g c = λ told.
    will_ends (BuildReplies (tape_words_of c.args.words.now) (limits_of c.args.windows.now) c.args.bytes.now)
    c.in-Ok.answer c.give.result (g.K.Sink.taken c.args.sink.now)
    (g.K.Sink.taken c.give.new.sink) (g.K.Sink.faults c.args.sink.now) (g.K.Sink.faults c.give.new.sink) told
    c.in-Ok.ensures (c.give.ensures.ends told)

pub returns-in-Err-clause-ends : goal.returns-in-Err-clause-ends
returns-in-Err-clause-ends g c = λ told.
    none_ends (BuildReplies (tape_words_of c.args.words.now) (limits_of c.args.windows.now) c.args.bytes.now)
    (g.K.Sink.taken c.args.sink.now) (g.K.Sink.faults c.args.sink.now) told
