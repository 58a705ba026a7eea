use Rattle.bn_session.specs.Plays.{stops}
use Rattle.bn_session.proofs.WalkLemmas.{walk-stops}
use Rattle.bn_session.proofs.walk.go.Goals as goal

pub returns-clause-stop : goal.returns-clause-stop
returns-clause-stop g c =
    let a = c.args.circuit.now in
    walk-stops c.args.direction (g.C.Playable.circuit a) (stops (g.C.Playable.moment a) c.args.breaks.now)
    c.args.count (g.C.Playable.config a) (g.C.Playable.config c.walk_on.new.circuit) c.walk_on.ensures.walked
