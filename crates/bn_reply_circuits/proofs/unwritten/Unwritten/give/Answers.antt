use Rattle.std.proofs.Common.{subst}
use Rattle.bn_netlist.specs.PackedText.{spelling_of_packed}
use Rattle.bn_netlist.specs.NetText.{spelling_of}
use Rattle.bn_reply_circuits.specs.Unwritten.{IsWritable}
use Rattle.bn_reply_circuits.proofs.UnwrittenLemmas.{config_ends, line_ends}
use Rattle.bn_reply_circuits.proofs.unwritten.Unwritten.give.Goals as goal

pub returns-in-Line-clause-ends : goal.returns-in-Line-clause-ends
returns-in-Line-clause-ends g c =
    rw c.in-Line.is (λ told. line_ends c.in-Line.reply c.give_reply.result (g.K.Sink.taken c.args.sink.now)
    (g.K.Sink.taken c.give_reply.new.sink)
    (g.K.Sink.faults c.args.sink.now) (g.K.Sink.faults c.give_reply.new.sink) told c.give_reply.ensures.ends)

pub returns-in-Config-clause-ends : goal.returns-in-Config-clause-ends
returns-in-Config-clause-ends g c =
    rw c.in-Config.is (λ told. config_ends c.in-Config.config.version (spelling_of c.in-Config.config)
    c.give_config.result (g.K.Sink.taken c.args.sink.now)
    (g.K.Sink.taken c.give_config.new.sink) (g.K.Sink.faults c.args.sink.now) (g.K.Sink.faults c.give_config.new.sink)
    told
    (subst IsWritable c.in-Config.is c.requires) c.give_config.ensures.ends)

pub returns-in-Packed-clause-ends : goal.returns-in-Packed-clause-ends
returns-in-Packed-clause-ends g c =
    rw c.in-Packed.is (λ told. config_ends c.in-Packed.config.version (spelling_of_packed c.in-Packed.config)
    c.give_config-in-Packed.result
    (g.K.Sink.taken c.args.sink.now) (g.K.Sink.taken c.give_config-in-Packed.new.sink) (g.K.Sink.faults c.args.sink.now)
    (g.K.Sink.faults c.give_config-in-Packed.new.sink) told (subst IsWritable c.in-Packed.is c.requires)
    c.give_config-in-Packed.ensures.ends)
