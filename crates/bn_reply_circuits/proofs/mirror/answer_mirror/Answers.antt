-- A text that is refused, and one that is read.
use Rattle.bn_reply_circuits.specs.MirrorReply.{MirrorReplies}
use Rattle.bn_reply_circuits.proofs.StreamLemmas.{not_too_long, stream_read, stream_unread}
use Rattle.bn_reply_circuits.proofs.MirrorStreamLemmas.{mirror_ends, mirror_refuses}
use Rattle.bn_reply_circuits.proofs.mirror.answer_mirror.Goals as goal

pub returns-in-Err-clause-ends : goal.returns-in-Err-clause-ends
returns-in-Err-clause-ends g c = λ told.
    let e = c.in-Err.ensures in
    stream_unread MirrorReplies mirror_refuses e.taken.0 c.refuse_input.result (g.I.Input.left c.args.input.now)
    (g.I.Input.left c.read_text.new.input)
    (g.I.Input.faults c.args.input.now) (g.I.Input.faults c.read_text.new.input) (g.K.Sink.taken c.args.sink.now)
    (g.K.Sink.taken c.refuse_input.new.sink) (g.K.Sink.faults c.args.sink.now) (g.K.Sink.faults c.refuse_input.new.sink)
    told c.in-Err.refusal
    e.taken.1 e.taken.3 e.refused_whole e.read_fault c.refuse_input.ensures.ends e.later e.stays
    c.refuse_input.ensures.later

pub returns-in-Ok-mirror-clause-ends : goal.returns-in-Ok-mirror-clause-ends
returns-in-Ok-mirror-clause-ends g c = λ told.
    let e = c.in-Ok.ensures in
    let m = c.in-Ok-mirror.ensures in
    let ends = mirror_ends c.in-Ok.read c.in-Ok-mirror.image e.taken.0 c.give_config.result
    (g.K.Sink.taken c.args.sink.now) (g.K.Sink.taken c.give_config.new.sink)
    (g.K.Sink.faults c.args.sink.now) (g.K.Sink.faults c.give_config.new.sink) told e.taken.2 m.mirrored m.version
    m.admitted c.give_config.ensures.ends in
    stream_read MirrorReplies e.taken.0 c.give_config.result (g.I.Input.left c.args.input.now)
    (g.I.Input.left c.read_text.new.input)
    (g.I.Input.faults c.args.input.now) (g.I.Input.faults c.read_text.new.input) (g.K.Sink.taken c.args.sink.now)
    (g.K.Sink.taken c.give_config.new.sink) (g.K.Sink.faults c.args.sink.now) (g.K.Sink.faults c.give_config.new.sink)
    told told _ e.taken.1
    (not_too_long c.in-Ok.read) e.whole ends (e.stays (λ f. cc)) c.give_config.ensures.later
