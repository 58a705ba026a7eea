use Rattle.std.proofs.Common.{◌≡◌, subst}
use Rattle.bn_lists.specs.Runs.{Reaches}
use Rattle.bn_circuits.specs.Circuits.{clock, Goes}
use Rattle.bn_circuits.specs.Stepping.{run}
use Rattle.bn_circuits.specs.RotaryNets.{rotary_circuit}
use Rattle.bn_realise.specs.BankNets.{IsSomeBank}
use Rattle.bn_realise.proofs.StartLemmas.{bank_moved, move-left, ready-can}
use Rattle.bn_realise.proofs.standing.Bank.cross.Goals as goal

pub returns-clause-moved : goal.returns-clause-moved
returns-clause-moved c = λ t q i reversible square is entering.
    let ran = subst (λ v. c.run.new.config ≡ run (rotary_circuit v.net) c.args.config.now clock) c.self.view_is
    c.run.ensures.run in
    let made = subst (λ v. Reaches (Goes (rotary_circuit v.net)) c.run.result c.args.config.now c.run.new.config)
    c.self.view_is c.run.ensures.made in
    let some = subst IsSomeBank c.self.view_is c.self.invariant.2 in
    let can = ready-can c.args.self.now c.args.config.now some c.requires.entering in
    bank_moved c.args.self.now t q i c.run.result c.args.config.now c.run.new.config can ran made reversible square is
    entering

pub returns-clause-left : goal.returns-clause-left
returns-clause-left c = λ t q i reversible square is entering.
    let ran = subst (λ v. c.run.new.config ≡ run (rotary_circuit v.net) c.args.config.now clock) c.self.view_is
    c.run.ensures.run in
    let made = subst (λ v. Reaches (Goes (rotary_circuit v.net)) c.run.result c.args.config.now c.run.new.config)
    c.self.view_is c.run.ensures.made in
    let some = subst IsSomeBank c.self.view_is c.self.invariant.2 in
    let can = ready-can c.args.self.now c.args.config.now some c.requires.entering in
    let move = bank_moved c.args.self.now t q i c.run.result c.args.config.now c.run.new.config can ran made reversible
    square is entering in
    move-left c.args.self.now.net t q i c.run.result c.args.config.now c.run.new.config reversible square is.net
    entering move
