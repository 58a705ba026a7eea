use Rattle.bn_netlist.specs.PackedText.{spelling_of_packed}
use Rattle.bn_reply_circuits.specs.Walking.{WalkReplies}
use Rattle.bn_reply_circuits.proofs.CircuitLemmas.{moved-Admits, moved_ends}
use Rattle.bn_reply_circuits.proofs.StreamLemmas.{not_too_long, stream_read, stream_unread, walk_refuses}
use Rattle.bn_reply_circuits.proofs.walk.answer_walk.Goals as goal

pub returns-in-Err-clause-ends : goal.returns-in-Err-clause-ends
returns-in-Err-clause-ends g c =
    let e = c.in-Err.ensures in
    stream_unread (WalkReplies c.args.direction c.args.count) (walk_refuses c.args.direction c.args.count)
    e.taken.0 c.refuse_input.result (g.I.Input.left c.args.input.now) (g.I.Input.left c.read_text.new.input)
    (g.I.Input.faults c.args.input.now)
    (g.I.Input.faults c.read_text.new.input) (g.K.Sink.taken c.args.sink.now) (g.K.Sink.taken c.refuse_input.new.sink)
    (g.K.Sink.faults c.args.sink.now) (g.K.Sink.faults c.refuse_input.new.sink) (g.W.Watch.told c.args.watch.now)
    c.in-Err.refusal
    e.taken.1 e.taken.3 e.refused_whole e.read_fault c.refuse_input.ensures.ends e.later e.stays
    c.refuse_input.ensures.later

pub give_config-requires : goal.give_config-requires
give_config-requires g c =
    moved-Admits c.args.direction c.args.count c.in-Ok.ensures.taken.0 c.in-Ok.read.version
    (spelling_of_packed c.in-Ok.read) c.in-Ok.ensures.taken.2 c.walk-moved.result
    c.walk-moved.ensures.version c.walk-moved.ensures.walked

pub returns-clause-ends : goal.returns-clause-ends
returns-clause-ends g c =
    let e = c.in-Ok.ensures in
    let ends = moved_ends c.args.direction c.args.count e.taken.0 c.in-Ok.read.version (spelling_of_packed c.in-Ok.read)
    e.taken.2 c.walk-moved.result
    c.walk-moved.ensures.version c.walk-moved.ensures.walked c.give_config.result
    (g.K.Sink.taken c.args.sink.now) (g.K.Sink.taken c.give_config.new.sink) (g.K.Sink.faults c.args.sink.now)
    (g.K.Sink.faults c.give_config.new.sink)
    (g.W.Watch.told c.args.watch.now) (g.W.Watch.told c.walk-moved.new.watch) c.walk-moved.ensures.told
    c.give_config.ensures.ends in
    stream_read (WalkReplies c.args.direction c.args.count) e.taken.0 c.give_config.result
    (g.I.Input.left c.args.input.now)
    (g.I.Input.left c.read_text.new.input) (g.I.Input.faults c.args.input.now) (g.I.Input.faults c.read_text.new.input)
    (g.K.Sink.taken c.args.sink.now) (g.K.Sink.taken c.give_config.new.sink) (g.K.Sink.faults c.args.sink.now)
    (g.K.Sink.faults c.give_config.new.sink)
    (g.W.Watch.told c.args.watch.now) (g.W.Watch.told c.walk-moved.new.watch) _ e.taken.1 (not_too_long c.in-Ok.read)
    e.whole ends (e.stays (λ f. cc)) c.give_config.ensures.later
