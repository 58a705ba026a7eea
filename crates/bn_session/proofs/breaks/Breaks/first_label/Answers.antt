use Rattle.bn_session.proofs.BreakLemmas.{kept_values}
use Rattle.bn_session.proofs.breaks.Breaks.first_label.Goals as goal

pub first_held-requires : goal.first_held-requires
first_held-requires c = kept_values c.self.inside.conditions c.self.inside.keys.entries c.self.inside.marks.items
    c.self.invariant
