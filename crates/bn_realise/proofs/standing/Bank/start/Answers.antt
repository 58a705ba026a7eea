use Rattle.std.proofs.Common.{◌+◌, ◌*◌, ◌<◌, ◌≤◌, ◌∙◌, ap, sym, subst}
use Rattle.bn_circuits.specs.Circuits.{IsConfig}
use Rattle.bn_circuits.specs.declared.place.Place.TheVariants.{Enter}
use Rattle.bn_circuits.specs.RotaryNets.{rotary_circuit}
use Rattle.bn_realise.proofs.StartLemmas.{start-IsConfig, start-IsBankEntering, start-ready, resting}
use Rattle.bn_rsm.proofs.CostLemmas.{costs-bounded}
use Rattle.bn_realise.proofs.standing.Bank.start.Goals as goal
use Rattle.bn_circuits.specs.declared.net.TheConstants.{MOST_ELEMENTS}

pub returns-clause-good : goal.returns-clause-good
returns-clause-good c =
    let m = c.self.inside in
    let state : c.args.state < m.states = subst (λ v. c.args.state < v.states) (sym c.self.view_is) c.requires.state in
    let line : c.args.line < m.lines = subst (λ v. c.args.line < v.lines) (sym c.self.view_is) c.requires.line in
    let good = start-IsConfig m.net m.states m.lines c.args.state c.args.line c.new.result c.self.invariant.0 state line
    (c.new.ensures ∙ c.in_ok-states.ensures) in
    subst (λ v. IsConfig (rotary_circuit v.net) (record {
      states = c.new.result;
      place = Enter c.args.line 3;
      steps = 0;
    })) c.self.view_is good

pub returns-clause-entering : goal.returns-clause-entering
returns-clause-entering c = λ t is.
    let bars = c.new.ensures ∙ c.in_ok-states.ensures ∙ ap (λ v. resting v.states v.lines c.args.state) c.self.view_is
    in
    start-IsBankEntering c.args.self.now t c.args.state c.args.line c.new.result is c.requires.state c.requires.line
    bars

pub returns-clause-ready : goal.returns-clause-ready
returns-clause-ready c =
    let few = subst (λ v. v.states * (v.lines + 1) ≤ MOST_ELEMENTS) c.self.view_is c.self.invariant.1 in
    let bars = c.new.ensures ∙ c.in_ok-states.ensures ∙ ap (λ v. resting v.states v.lines c.args.state) c.self.view_is
    in
    start-ready costs-bounded c.args.self.now c.args.state c.args.line c.new.result few c.requires.state c.requires.line
    bars
