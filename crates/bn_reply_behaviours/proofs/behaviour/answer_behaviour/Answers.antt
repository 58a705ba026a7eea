use Rattle.std.specs.Prelude.{[], IfOk, option_map}
use Rattle.std.proofs.Common.{sym, subst}
use Rattle.bn_circuits.specs.Circuits.{AreStates}
use Rattle.bn_circuits.specs.RotaryNets.{rotary_circuit}
use Rattle.bn_reply_behaviours.specs.ExploringReply.{CircuitAnswers}
use Rattle.bn_netlist.specs.NetText.{spelling_of}
use Rattle.bn_behaviour.specs.PortNames.{port_names_of}
use Rattle.bn_reply.proofs.ReplyLemmas.{silent_ends}
use Rattle.bn_reply_circuits.proofs.PlanReplyLemmas.{few_elements}
use Rattle.bn_reply_circuits.proofs.StreamLemmas.{not_too_long, stream_read, stream_unread}
use Rattle.bn_reply_behaviours.specs.BehaviourReply.{BehaviourReplies, behaviour_text}
use Rattle.bn_reply_behaviours.proofs.AnswerLemmas.{net_circuit, refuses, replied, start_ranged}
use Rattle.bn_reply_behaviours.proofs.behaviour.answer_behaviour.Goals as goal

pub returns-in-Err-clause-ends : goal.returns-in-Err-clause-ends
returns-in-Err-clause-ends g c = λ told.
    let e = c.in-Err.ensures in
    let given = option_map port_names_of c.args.names in
    stream_unread (BehaviourReplies c.args.most_states c.args.most_steps given)
    (refuses behaviour_text c.args.most_states c.args.most_steps given) e.taken.0 c.refuse_input.result
    (g.I.Input.left c.args.input.now)
    (g.I.Input.left c.read_text.new.input)
    (g.I.Input.faults c.args.input.now) (g.I.Input.faults c.read_text.new.input) (g.K.Sink.taken c.args.sink.now)
    (g.K.Sink.taken c.refuse_input.new.sink) (g.K.Sink.faults c.args.sink.now) (g.K.Sink.faults c.refuse_input.new.sink)
    told c.in-Err.refusal
    e.taken.1 e.taken.3 e.refused_whole e.read_fault c.refuse_input.ensures.ends e.later e.stays
    c.refuse_input.ensures.later

pub explore_net-requires-clause-few : goal.explore_net-requires-clause-few
explore_net-requires-clause-few g c =
    few_elements c.in-Ok.read.version (spelling_of c.in-Ok.read) c.in-Ok.ensures.taken.2.admitted

pub explore_net-requires-clause-circuit : goal.explore_net-requires-clause-circuit
explore_net-requires-clause-circuit g c = net_circuit c.in-Ok.ensures.taken.0 c.in-Ok.read c.in-Ok.ensures.taken.2

pub explore_net-requires-clause-start : goal.explore_net-requires-clause-start
explore_net-requires-clause-start g c =
    subst (AreStates (rotary_circuit c.in-Ok.read.net).tables) (sym c.as_slice-start.ensures)
    (start_ranged c.in-Ok.ensures.taken.0 c.in-Ok.read c.in-Ok.ensures.taken.2)

pub returns-clause-ends : goal.returns-clause-ends
returns-clause-ends g c = λ told.
    let e = c.in-Ok.ensures in
    let given = option_map port_names_of c.args.names in
    let right = replied behaviour_text c.args.most_states c.args.most_steps given e.taken.0 c.in-Ok.read
    c.explore_net.result
    e.taken.2
    (subst (λ start. IfOk c.explore_net.result (λ r. CircuitAnswers (rotary_circuit c.in-Ok.read.net) start given
    (record { states = c.args.most_states; steps = c.args.most_steps }) behaviour_text r.status r.text.items []))
    c.as_slice-start.ensures c.explore_net.ensures) in
    let ends = silent_ends (BehaviourReplies c.args.most_states c.args.most_steps given e.taken.0) c.explore_net.result
    c.give_reply.result
    (g.K.Sink.taken c.args.sink.now)
    (g.K.Sink.taken c.give_reply.new.sink) (g.K.Sink.faults c.args.sink.now) (g.K.Sink.faults c.give_reply.new.sink)
    told right c.give_reply.ensures.ends in
    stream_read (BehaviourReplies c.args.most_states c.args.most_steps given) e.taken.0 c.give_reply.result
    (g.I.Input.left c.args.input.now)
    (g.I.Input.left c.read_text.new.input)
    (g.I.Input.faults c.args.input.now) (g.I.Input.faults c.read_text.new.input) (g.K.Sink.taken c.args.sink.now)
    (g.K.Sink.taken c.give_reply.new.sink) (g.K.Sink.faults c.args.sink.now) (g.K.Sink.faults c.give_reply.new.sink)
    told told _ e.taken.1
    (not_too_long c.in-Ok.read) e.whole ends (e.stays (λ f. cc)) c.give_reply.ensures.later
