use Rattle.std.proofs.Common.{Some, sym, subst}
use Rattle.bn_circuits.specs.RotaryNets.{rotary_circuit}
use Rattle.bn_realise.specs.Banks.{IsResting}
use Rattle.bn_realise.proofs.StartLemmas.{move_ran}
use Rattle.bn_realise.proofs.cross.cross_bank_in.Goals as goal

pub returns-clause-moved : goal.returns-clause-moved
returns-clause-moved g c =
    move_ran (rotary_circuit c.args.net.now) c.args.first (g.E.Element.table c.args.machine.now) c.states-states.result
    c.lines_in-lines.result c.marked_column-state.result c.in-Enter.element c.in-Enter.line c.steps_of.result
    c.run.result c.go-moved.result c.args.config.now c.run.new.config
    (g.met.E.Element.reversible c.args.machine.now) c.requires.square c.requires.bank c.requires.entering
    c.in-Enter.is c.states-states.ensures c.lines_in-lines.ensures
    (λ q low resting. c.marked_column-state.ensures q low (subst
    (λ s. IsResting s c.args.first c.states-states.result c.lines_in-lines.result (Some q)) (sym c.as_slice.ensures)
    resting)) c.go-moved.ensures c.steps_of.ensures c.run.ensures.run c.run.ensures.made
