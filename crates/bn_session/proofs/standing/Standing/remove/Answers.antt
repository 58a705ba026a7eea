use Rattle.bn_session.proofs.LabelLemmas.{without-map}
use Rattle.bn_session.proofs.standing.Standing.remove.Goals as goal

pub returns : goal.returns
returns c = rw (← c.self.view_is, c.shift_remove.ensures.keys)
    (without-map (λ v. v.items) c.args.label.now c.self.inside.labels.keys)
