use Rattle.bn_reply_machines.proofs.WholeRunLemmas.{Starts, ran_inside, ran_whole}
use Rattle.bn_reply_machines.proofs.machine_run.run_word.Goals as goal

pub ending_after-requires : goal.ending_after-requires
ending_after-requires c =
    let starts : Starts c.args.machine.now c.args.word.now c.args.steps c.min-held.result c.max-right.result
    c.start_state-state.result c.in-Ok.tape = record {
      few = c.requires.few;
      front = c.min-held.ensures;
      side = c.max-right.ensures;
      state_is = c.start_state-state.ensures;
      tape_is = c.in-Ok.ensures.made;
    } in
    ran_inside c.args.machine.now c.args.word.now c.args.steps c.min-held.result c.max-right.result
    c.start_state-state.result c.in-Ok.tape c.run-made.result.0
    c.run-made.result.1 c.run-made.new.state c.run-made.new.tape
    starts c.run-made.ensures

pub returns : goal.returns
returns c =
    let starts : Starts c.args.machine.now c.args.word.now c.args.steps c.min-held.result c.max-right.result
    c.start_state-state.result c.in-Ok.tape = record {
      few = c.requires.few;
      front = c.min-held.ensures;
      side = c.max-right.ensures;
      state_is = c.start_state-state.ensures;
      tape_is = c.in-Ok.ensures.made;
    } in
    ran_whole c.args.machine.now c.args.word.now c.args.steps c.min-held.result c.max-right.result
    c.start_state-state.result c.in-Ok.tape c.run-made.result.0
    c.run-made.result.1 c.run-made.new.state c.run-made.new.tape c.in_ok-ending_after.field-0
    starts c.requires.letters c.run-made.ensures c.in_ok-ending_after.ensures
