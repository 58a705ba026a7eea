use Rattle.std.proofs.Common.{subst, ◌∙◌, ◌≡◌, ap, length, rules}
use Rattle.std.specs.Prelude.{ℤ}
use Rattle.bn_machine.specs.declared.machine.Turn.{Turn}
use Rattle.bn_machine.specs.declared.machine.Turn.TheVariants as turns
use Rattle.bn_reply_machines.proofs.WholeRunLemmas.{Starts}
use Rattle.bn_extents.specs.Formula.{halted_limits}
use Rattle.bn_reply_windows.specs.WindowRun.{IsMeasured, limits_of}
use Rattle.bn_reply_windows.proofs.FoundLemmas.{found_halted, found_running, found_stuck, measured_inside}
use Rattle.bn_reply_windows.proofs.window_run.find_window.Goals as goal

pub returns-in-Final : goal.returns-in-Final
returns-in-Final c =
    let starts : Starts c.args.machine.now c.args.word.now c.args.most_steps c.min-held.result c.max-right.result
    c.start_state-state.result c.in-Ok.tape = record {
      few = c.requires.few;
      front = c.min-held.ensures;
      side = c.max-right.ensures;
      state_is = c.start_state-state.ensures;
      tape_is = c.in-Ok.ensures.made;
    } in
    let m = subst (λ (t : Turn). IsMeasured c.args.machine.now c.args.most_steps c.start_state-state.result c.in-Ok.tape
    c.measure-measured.result.steps c.measure-measured.result.extent t c.measure-measured.new.state
    c.measure-measured.new.tape) c.in-Final.is c.measure-measured.ensures in
    let is : limits_of c.halted.result ≡ halted_limits (length c.args.word.now) c.measure-measured.result.extent.left
    c.measure-measured.result.extent.right c.measure-measured.result.steps c.head.result
    c.output_length-letters.result = search rules in
    found_halted c.args.machine.now c.args.word.now c.args.most_steps c.min-held.result c.max-right.result
    c.start_state-state.result c.in-Ok.tape starts c.requires.letters c.measure-measured.result.steps
    c.measure-measured.result.extent c.measure-measured.new.state c.measure-measured.new.tape m
    c.output_length-letters.result c.output_length-letters.ensures.length c.halted.result
    (is ∙ ap (λ (h : ℤ). halted_limits (length c.args.word.now) c.measure-measured.result.extent.left
    c.measure-measured.result.extent.right c.measure-measured.result.steps h c.output_length-letters.result)
    c.head.ensures.value)

pub returns-in-Stuck : goal.returns-in-Stuck
returns-in-Stuck c =
    let starts : Starts c.args.machine.now c.args.word.now c.args.most_steps c.min-held.result c.max-right.result
    c.start_state-state.result c.in-Ok.tape = record {
      few = c.requires.few;
      front = c.min-held.ensures;
      side = c.max-right.ensures;
      state_is = c.start_state-state.ensures;
      tape_is = c.in-Ok.ensures.made;
    } in
    let m = subst (λ (t : Turn). IsMeasured c.args.machine.now c.args.most_steps c.start_state-state.result c.in-Ok.tape
    c.measure-measured.result.steps c.measure-measured.result.extent t c.measure-measured.new.state
    c.measure-measured.new.tape) c.in-Stuck.is c.measure-measured.ensures in
    found_stuck c.args.machine.now c.args.word.now c.args.most_steps c.min-held.result c.max-right.result
    c.start_state-state.result c.in-Ok.tape starts c.requires.letters c.measure-measured.result.steps
    c.measure-measured.result.extent c.measure-measured.new.state c.measure-measured.new.tape c.in-Stuck.state
    c.in-Stuck.symbol m c.stuck.result c.stuck.ensures

pub returns-in-Moved : goal.returns-in-Moved
returns-in-Moved c =
    let starts : Starts c.args.machine.now c.args.word.now c.args.most_steps c.min-held.result c.max-right.result
    c.start_state-state.result c.in-Ok.tape = record {
      few = c.requires.few;
      front = c.min-held.ensures;
      side = c.max-right.ensures;
      state_is = c.start_state-state.ensures;
      tape_is = c.in-Ok.ensures.made;
    } in
    let m = subst (λ (t : Turn). IsMeasured c.args.machine.now c.args.most_steps c.start_state-state.result c.in-Ok.tape
    c.measure-measured.result.steps c.measure-measured.result.extent t c.measure-measured.new.state
    c.measure-measured.new.tape) c.in-Moved.is c.measure-measured.ensures in
    found_running c.args.machine.now c.args.word.now c.args.most_steps c.min-held.result c.max-right.result
    c.start_state-state.result c.in-Ok.tape starts c.requires.letters c.measure-measured.result.steps
    c.measure-measured.result.extent c.measure-measured.new.state c.measure-measured.new.tape m

pub unreachable-requires-in-Left : goal.unreachable-requires-in-Left
unreachable-requires-in-Left c =
    let starts : Starts c.args.machine.now c.args.word.now c.args.most_steps c.min-held.result c.max-right.result
    c.start_state-state.result c.in-Ok.tape = record {
      few = c.requires.few;
      front = c.min-held.ensures;
      side = c.max-right.ensures;
      state_is = c.start_state-state.ensures;
      tape_is = c.in-Ok.ensures.made;
    } in
    let m = subst (λ (t : Turn). IsMeasured c.args.machine.now c.args.most_steps c.start_state-state.result c.in-Ok.tape
    c.measure-measured.result.steps c.measure-measured.result.extent t c.measure-measured.new.state
    c.measure-measured.new.tape) c.in-Left.is c.measure-measured.ensures in
    measured_inside c.args.machine.now c.args.word.now c.args.most_steps c.min-held.result c.max-right.result
    c.start_state-state.result c.in-Ok.tape starts c.measure-measured.result.steps
    c.measure-measured.result.extent (turns.Left c.in-Left.side) c.measure-measured.new.state
    c.measure-measured.new.tape m
