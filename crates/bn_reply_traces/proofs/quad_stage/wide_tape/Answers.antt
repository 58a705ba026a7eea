use Rattle.std.specs.Prelude.{◌+◌, max, take}
use Rattle.std.proofs.Common.{ap, ◌∙◌}
use Rattle.bn_machine.specs.Window.{new_window}
use Rattle.bn_reply_traces.proofs.TapeStageLemmas.{is_wide}
use Rattle.bn_reply_traces.proofs.quad_stage.wide_tape.Goals as goal

pub returns-in-Ok : goal.returns-in-Ok
returns-in-Ok c =
    let n = c.args.steps in
    let word = c.args.word.now in
    is_wide word n c.in-Ok.tape c.requires.few
    (c.in-Ok.ensures.made ∙ ap (λ k. new_window (n + 2) k (take c.min-held.result word)) c.max-right.ensures
    ∙ ap (λ k. new_window (n + 2) (max k (n + 2)) (take k word)) c.min-held.ensures)
