use Rattle.bn_netlist.specs.PackedText.{spelling_of_packed}
use Rattle.bn_reply_relations.specs.MigrateReply.{MigrateReplies}
use Rattle.bn_reply_circuits.proofs.StreamLemmas.{migrate_ends, not_too_long, migrate_refuses, stream_read}
use Rattle.bn_reply_circuits.proofs.StreamLemmas.{stream_unread}
use Rattle.bn_reply_circuits.proofs.CircuitLemmas.{read-Admits_two}
use Rattle.bn_reply_circuits.proofs.migrate.answer_migrate.Goals as goal

pub returns-in-Err-clause-ends : goal.returns-in-Err-clause-ends
returns-in-Err-clause-ends g c = λ told.
    let e = c.in-Err.ensures in
    stream_unread MigrateReplies migrate_refuses e.taken.0 c.refuse_input.result (g.I.Input.left c.args.input.now)
    (g.I.Input.left c.read_text.new.input)
    (g.I.Input.faults c.args.input.now) (g.I.Input.faults c.read_text.new.input) (g.K.Sink.taken c.args.sink.now)
    (g.K.Sink.taken c.refuse_input.new.sink) (g.K.Sink.faults c.args.sink.now) (g.K.Sink.faults c.refuse_input.new.sink)
    told c.in-Err.refusal
    e.taken.1 e.taken.3 e.refused_whole e.read_fault c.refuse_input.ensures.ends e.later e.stays
    c.refuse_input.ensures.later

pub give_config-requires : goal.give_config-requires
give_config-requires g c = read-Admits_two c.in-Ok.read.version (spelling_of_packed c.in-Ok.read)
    c.in-Ok.ensures.taken.0 c.in-Ok.ensures.taken.2

pub returns-clause-ends : goal.returns-clause-ends
returns-clause-ends g c = λ told.
    let e = c.in-Ok.ensures in
    let ends = migrate_ends c.in-Ok.read.version (spelling_of_packed c.in-Ok.read) e.taken.0 c.give_config.result
    (g.K.Sink.taken c.args.sink.now) (g.K.Sink.taken c.give_config.new.sink)
    (g.K.Sink.faults c.args.sink.now) (g.K.Sink.faults c.give_config.new.sink) told e.taken.2 c.give_config.ensures.ends
    in
    stream_read MigrateReplies e.taken.0 c.give_config.result (g.I.Input.left c.args.input.now)
    (g.I.Input.left c.read_text.new.input)
    (g.I.Input.faults c.args.input.now) (g.I.Input.faults c.read_text.new.input) (g.K.Sink.taken c.args.sink.now)
    (g.K.Sink.taken c.give_config.new.sink) (g.K.Sink.faults c.args.sink.now) (g.K.Sink.faults c.give_config.new.sink)
    told told _ e.taken.1
    (not_too_long c.in-Ok.read) e.whole ends (e.stays (λ f. cc)) c.give_config.ensures.later
