use Rattle.std.specs.Prelude.{◌≡◌, ℕ}
use Rattle.std.proofs.Common.{◌∙◌, ap, sym}
use Rattle.bn_quad.specs.Quadruples.{Quadruples, initial_of}
use Rattle.bn_quad.specs.declared.tapes.Tapes.{Tapes}
use Rattle.bn_reply_erase.proofs.RunLemmas.{Starts, ran_inside, ran_whole}
use Rattle.bn_erase_laws.proofs.NumberedLemmas.{erasing_numbers_run_alike}
use Rattle.bn_erase_laws.proofs.NearLemmas.{no_head_leaves}
use Rattle.bn_erase.proofs.ClosedLemmas.{erasings_uniform}
use Rattle.bn_reply_erase.proofs.run.run_word.Goals as goal

pub ending_after-requires : goal.ending_after-requires
ending_after-requires c =
    let same : c.in_ok-indexed.indexed ≡ c.args.erasing.now.machine =
    c.in_ok-indexed.ensures ∙ c.machine-machine.ensures.value ∙ c.machine.ensures.value in
    let tapes : Tapes = record {
      one = c.in_ok-wide_tape.field-0;
      two = c.in_ok-wide_tape-2.field-0;
      three = c.in_ok-wide_tape-3.field-0;
    } in
    let state : ℕ = c.initial_state-state.result in
    let starts : Starts c.in_ok-indexed.indexed c.args.word.now c.args.steps state tapes = record {
      state_is = c.initial_state-state.ensures ∙ ap (λ (p : Quadruples). initial_of p.rules)
          (sym c.in_ok-indexed.ensures);
      one = c.in_ok-wide_tape.ensures;
      two = c.in_ok-wide_tape-2.ensures;
      three = c.in_ok-wide_tape-3.ensures;
    } in
    ran_inside c.args.erasing.now c.in_ok-indexed.indexed c.args.word.now c.args.steps state tapes c.run-made.result.0
    c.run-made.result.1 c.run-made.new.state c.run-made.new.tapes
    same c.requires.erasing erasings_uniform erasing_numbers_run_alike no_head_leaves starts c.run-made.ensures

pub returns : goal.returns
returns c =
    let same : c.in_ok-indexed.indexed ≡ c.args.erasing.now.machine =
    c.in_ok-indexed.ensures ∙ c.machine-machine.ensures.value ∙ c.machine.ensures.value in
    let tapes : Tapes = record {
      one = c.in_ok-wide_tape.field-0;
      two = c.in_ok-wide_tape-2.field-0;
      three = c.in_ok-wide_tape-3.field-0;
    } in
    let state : ℕ = c.initial_state-state.result in
    let starts : Starts c.in_ok-indexed.indexed c.args.word.now c.args.steps state tapes = record {
      state_is = c.initial_state-state.ensures ∙ ap (λ (p : Quadruples). initial_of p.rules)
          (sym c.in_ok-indexed.ensures);
      one = c.in_ok-wide_tape.ensures;
      two = c.in_ok-wide_tape-2.ensures;
      three = c.in_ok-wide_tape-3.ensures;
    } in
    ran_whole c.args.erasing.now c.in_ok-indexed.indexed c.args.word.now c.args.steps state tapes c.run-made.result.0
    c.run-made.result.1 c.run-made.new.state c.run-made.new.tapes
    c.in_ok-ending_after.field-0
    same erasings_uniform erasing_numbers_run_alike starts c.run-made.ensures c.in_ok-ending_after.ensures
