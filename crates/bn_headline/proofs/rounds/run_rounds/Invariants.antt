use Rattle.bn_network_assembly.specs.Assembled.{limits_of}
use Rattle.bn_headline.specs.Rounds.{HasCome}
use Rattle.bn_headline.proofs.rounds.run_rounds.Given as goal

abbrev pub invariant-loop-round : goal.invariant-loop-round
invariant-loop-round g l = HasCome l.table.machine l.symbols l.round (limits_of l.windows) (g.W.Watch.told l.fn.watch)
    (g.W.Watch.told l.watch)
