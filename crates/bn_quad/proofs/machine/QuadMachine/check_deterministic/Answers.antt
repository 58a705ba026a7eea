use Rattle.std.proofs.Common.{rules}
use Rattle.bn_quad.specs.Overlap.{IsDeterministic}
use Rattle.bn_quad.proofs.ReversibleLemmas.{one_successor}
use Rattle.bn_quad.proofs.machine.QuadMachine.check_deterministic.Goals as goal

pub returns-in-None-clause-one_way : goal.returns-in-None-clause-one_way
returns-in-None-clause-one_way c =
    let apart : IsDeterministic c.args.self.now.rules = search rules in
    one_successor c.args.self.now.rules apart
