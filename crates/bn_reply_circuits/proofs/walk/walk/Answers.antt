use Rattle.bn_reply_circuits.proofs.CircuitLemmas.{packed_heard, packed_walked}
use Rattle.bn_reply_circuits.proofs.walk.walk.Goals as goal

pub returns-clause-walked : goal.returns-clause-walked
returns-clause-walked g c =
    packed_walked c.args.direction c.args.count c.args.read c.run_along.new.self c.run_along.ensures.net
    c.run_along.ensures.ran.ends

pub returns-clause-told : goal.returns-clause-told
returns-clause-told g c =
    packed_heard c.args.direction c.args.count c.args.read (g.W.Watch.told c.args.watch.now)
    (g.W.Watch.told c.run_along.new.watch) c.run_along.ensures.told
