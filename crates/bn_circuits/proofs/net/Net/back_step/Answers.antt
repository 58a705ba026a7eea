use Rattle.std.proofs.Common.{◌-◌, sym, ap, refl}
use Rattle.bn_circuits.specs.Circuits.{Goes}
use Rattle.bn_circuits.proofs.RunLemmas.{Reaches-back}
use Rattle.bn_circuits.proofs.StepLemmas.{previous-IsConfig}
use Rattle.bn_circuits.specs.declared.config.Config.{Config}
use Rattle.bn_circuits.specs.declared.place.Place.TheVariants.{Enter}
use Rattle.bn_circuits.specs.Parts.{circuit}
use Rattle.bn_circuits.proofs.NetSteps.{output-state, back-Goes, first_by_line, first_by_move}
use Rattle.bn_circuits.proofs.NetSteps.{stays_by_steps, stays_by_first}
use Rattle.bn_circuits.proofs.net.Net.back_step.Given.{Over}
use Rattle.bn_circuits.proofs.net.Net.back_step.Goals as goal

pub returns-in_default-clause-first : goal.returns-in_default-clause-first
returns-in_default-clause-first g c =
    first_by_line (circuit g.E.Element.table c.args.self.now) (c.in_default.ensures.circuit refl) c.args.config.now
    (sym c.in_default.ensures.line)

pub get-state-requires : goal.get-state-requires
get-state-requires g c = output-state (circuit g.E.Element.table c.args.self.now) c.args.config.now c.in-Some.field-0
    c.requires c.in-Some.ensures.output

pub returns-in_default-back-clause-first : goal.returns-in_default-back-clause-first
returns-in_default-back-clause-first g c =
    first_by_move (circuit g.E.Element.table c.args.self.now) c.in_default-back.ensures.circuit
    c.args.config.now c.in-Some.field-0 c.get-state.result (sym c.in-Some.ensures.line) c.get-state.ensures
    c.in_default-back.ensures.made

pub set-requires : goal.set-requires
set-requires g c = output-state (circuit g.E.Element.table c.args.self.now) c.args.config.now c.in-Some.field-0
    c.requires c.in-Some.ensures.output

made : (g : Over) (c : goal.After-config-2-1 g) → Goes (circuit g.E.Element.table c.args.self.now)
    (record {
      states = c.set.new.self;
      place = Enter c.in-Some.field-0.element c.in-Some-back.input;
      steps = c.args.config.now.steps - 1;
    }) c.args.config.now
made g c =
    back-Goes (circuit g.E.Element.table c.args.self.now) c.in-Some-back.ensures.circuit
    (record {
      states = c.set.new.self;
      place = Enter c.in-Some.field-0.element c.in-Some-back.input;
      steps = c.args.config.now.steps - 1;
    }) c.args.config.now c.requires c.in-Some.field-0 c.get-state.result
    c.in-Some-back.before c.in-Some-back.input
    (sym c.in-Some.ensures.line) c.get-state.ensures (sym c.in-Some-back.ensures.made)
    (ap (λ xs. let r : Config = record {
      states = xs;
      place = Enter c.in-Some.field-0.element c.in-Some-back.input;
      steps = c.args.config.now.steps - 1;
    } in r) c.set.ensures)
    c.if-config-eq0.false

pub returns-clause-made : goal.returns-clause-made
returns-clause-made g c = made g c

pub returns-clause-good : goal.returns-clause-good
returns-clause-good g c =
    previous-IsConfig (circuit g.E.Element.table c.args.self.now) c.in-Some-back.ensures.circuit
    (record {
      states = c.set.new.self;
      place = Enter c.in-Some.field-0.element c.in-Some-back.input;
      steps = c.args.config.now.steps - 1;
    }) c.args.config.now c.requires (made g c)

pub returns-then-config-eq0-clause-back : goal.returns-then-config-eq0-clause-back
returns-then-config-eq0-clause-back g c =
    stays_by_steps (circuit g.E.Element.table c.args.self.now) c.args.config.now c.if-config-eq0.true

pub returns-in_default-clause-back : goal.returns-in_default-clause-back
returns-in_default-clause-back g c =
    stays_by_first (circuit g.E.Element.table c.args.self.now) (c.in_default.ensures.circuit refl) c.args.config.now
    c.requires (first_by_line (circuit g.E.Element.table c.args.self.now) (c.in_default.ensures.circuit refl)
    c.args.config.now (sym c.in_default.ensures.line))

pub returns-in_default-back-clause-back : goal.returns-in_default-back-clause-back
returns-in_default-back-clause-back g c =
    stays_by_first (circuit g.E.Element.table c.args.self.now) c.in_default-back.ensures.circuit c.args.config.now
    c.requires (first_by_move (circuit g.E.Element.table c.args.self.now) c.in_default-back.ensures.circuit
    c.args.config.now c.in-Some.field-0 c.get-state.result (sym c.in-Some.ensures.line) c.get-state.ensures
    c.in_default-back.ensures.made)

pub returns-clause-back : goal.returns-clause-back
returns-clause-back g c =
    sym (Reaches-back (circuit g.E.Element.table c.args.self.now) c.in-Some-back.ensures.circuit 1
    (record {
      states = c.set.new.self;
      place = Enter c.in-Some.field-0.element c.in-Some-back.input;
      steps = c.args.config.now.steps - 1;
    }) c.args.config.now (c.args.config.now, made g c, refl))
