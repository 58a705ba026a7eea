use Rattle.std.proofs.Common.{◌+◌, ◌≤◌, refl, sym, arith}
use Rattle.bn_circuits.specs.Circuits.{clock, Goes}
use Rattle.bn_circuits.proofs.RunLemmas.{Reaches-back}
use Rattle.bn_circuits.proofs.StepLemmas.{go_arrives, next-IsConfig}
use Rattle.bn_circuits.specs.declared.config.Config.{Config}
use Rattle.bn_circuits.specs.Parts.{circuit}
use Rattle.bn_circuits.proofs.NetSteps.{step-Goes}
use Rattle.bn_circuits.proofs.net.Net.step.Given.{Over}
use Rattle.bn_circuits.proofs.net.Net.step.Goals as goal

pub place_after-config-requires : goal.place_after-config-requires
place_after-config-requires g c =
    (go_arrives (circuit g.E.Element.table c.args.self.now) c.in-Some.ensures.circuit c.in-Enter.element
    c.get-state.result c.in-Enter.line c.in-Some.after c.in-Some.output (sym c.in-Some.ensures.made)).1

made : (g : Over) (c : goal.After-config-2-1 g) → Goes (circuit g.E.Element.table c.args.self.now) c.args.config.now
    (record { states = c.set.new.self; place = c.place_after-config.result; steps = c.args.config.now.steps + 1 })
made g c =
    let in_time : c.args.config.now.steps + 1 ≤ clock = omega (arith, c.if-config-ge-CLOCK.false) in
    step-Goes (circuit g.E.Element.table c.args.self.now) c.args.config.now
    (record { states = c.set.new.self; place = c.place_after-config.result; steps = c.args.config.now.steps + 1 })
    c.in-Enter.element c.in-Enter.line c.get-state.result c.in-Some.after c.in-Some.output
    c.in-Enter.is c.get-state.ensures c.in-Some.ensures.made c.set.ensures c.place_after-config.ensures refl in_time

pub returns-clause-made : goal.returns-clause-made
returns-clause-made g c = made g c

pub returns-clause-good : goal.returns-clause-good
returns-clause-good g c =
    next-IsConfig (circuit g.E.Element.table c.args.self.now) c.in-Some.ensures.circuit c.args.config.now
    (record { states = c.set.new.self; place = c.place_after-config.result; steps = c.args.config.now.steps + 1 })
    c.requires (made g c)

pub returns-clause-undone : goal.returns-clause-undone
returns-clause-undone g c =
    let after : Config =
    record { states = c.set.new.self; place = c.place_after-config.result; steps = c.args.config.now.steps + 1 } in
    Reaches-back (circuit g.E.Element.table c.args.self.now) c.in-Some.ensures.circuit 1 c.args.config.now after
    (after, made g c, refl)
