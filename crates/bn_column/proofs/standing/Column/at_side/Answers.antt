use Rattle.std.proofs.Common.{◌≤◌, ◌∙◌, ◌-◌, sym, subst}
use Rattle.bn_circuits.specs.Circuits.{IsConfig}
use Rattle.bn_circuits.specs.declared.place.Place.TheVariants.{Enter}
use Rattle.bn_circuits.specs.RotaryNets.{rotary_circuit}
use Rattle.bn_column.proofs.RestLemmas.{start-IsConfig}
use Rattle.bn_column.proofs.standing.Column.at_side.Goals as goal

pub returns-clause-good : goal.returns-clause-good
returns-clause-good c =
    let m = c.self.inside in
    let last : c.args.row ≤ m.rows = subst (λ v. c.args.row ≤ v.rows) (sym c.self.view_is) c.requires.last in
    let good = start-IsConfig m.net m.rows c.args.row c.args.side m.marked c.new.result c.self.invariant.0
    (c.new.ensures ∙ c.in_ok-states.ensures) c.requires.first last c.requires.side in
    subst (λ v. IsConfig (rotary_circuit v.net) (record {
      states = c.new.result;
      place = Enter (c.args.row - 1) c.args.side;
      steps = 0;
    })) c.self.view_is good
