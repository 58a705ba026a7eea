use Rattle.bn_reply_circuits.specs.PlanReply.{PlanReplies}
use Rattle.bn_reply_circuits.proofs.StreamLemmas.{not_too_long, plan_refuses, stream_read, stream_unread}
use Rattle.bn_netlist.specs.NetText.{spelling_of}
use Rattle.bn_reply.proofs.ReplyLemmas.{silent_ends}
use Rattle.bn_reply_circuits.proofs.PlanReplyLemmas.{few_elements, replied}
use Rattle.bn_reply_circuits.proofs.plan.answer_plan.Goals as goal

pub returns-in-Err-clause-ends : goal.returns-in-Err-clause-ends
returns-in-Err-clause-ends g c = λ told.
    let e = c.in-Err.ensures in
    stream_unread PlanReplies plan_refuses e.taken.0 c.refuse_input.result (g.I.Input.left c.args.input.now)
    (g.I.Input.left c.read_text.new.input)
    (g.I.Input.faults c.args.input.now) (g.I.Input.faults c.read_text.new.input) (g.K.Sink.taken c.args.sink.now)
    (g.K.Sink.taken c.refuse_input.new.sink) (g.K.Sink.faults c.args.sink.now) (g.K.Sink.faults c.refuse_input.new.sink)
    told c.in-Err.refusal
    e.taken.1 e.taken.3 e.refused_whole e.read_fault c.refuse_input.ensures.ends e.later e.stays
    c.refuse_input.ensures.later

pub plan_net-requires : goal.plan_net-requires
plan_net-requires g c = few_elements c.in-Ok.read.version (spelling_of c.in-Ok.read) c.in-Ok.ensures.taken.2.admitted

pub returns-clause-ends : goal.returns-clause-ends
returns-clause-ends g c = λ told.
    let e = c.in-Ok.ensures in
    let right = replied e.taken.0 c.in-Ok.read.version (spelling_of c.in-Ok.read) c.plan_net.result e.taken.2
    c.plan_net.ensures.status c.plan_net.ensures.text in
    let ends = silent_ends (PlanReplies e.taken.0) c.plan_net.result c.give_reply.result
    (g.K.Sink.taken c.args.sink.now)
    (g.K.Sink.taken c.give_reply.new.sink) (g.K.Sink.faults c.args.sink.now) (g.K.Sink.faults c.give_reply.new.sink)
    told right c.give_reply.ensures.ends in
    stream_read PlanReplies e.taken.0 c.give_reply.result (g.I.Input.left c.args.input.now)
    (g.I.Input.left c.read_text.new.input)
    (g.I.Input.faults c.args.input.now) (g.I.Input.faults c.read_text.new.input) (g.K.Sink.taken c.args.sink.now)
    (g.K.Sink.taken c.give_reply.new.sink) (g.K.Sink.faults c.args.sink.now) (g.K.Sink.faults c.give_reply.new.sink)
    told told _ e.taken.1
    (not_too_long c.in-Ok.read) e.whole ends (e.stays (λ f. cc)) c.give_reply.ensures.later
