use Rattle.std.specs.Prelude.{◌+◌, max, take}
use Rattle.std.proofs.Common.{ap, refl, sym, ◌∙◌}
use Rattle.bn_machine.specs.Machine.{start_of}
use Rattle.bn_machine.specs.Window.{new_window}
use Rattle.bn_reply_traces.proofs.StageLemmas.{stage_start}
use Rattle.bn_reply_traces.proofs.stage.Stage.start.Goals as goal

pub returns : goal.returns
returns c = λ t same.
    let n = c.args.steps in
    let word = c.args.word.now in
    stage_start t word n c.start_state.result c.in-Ok.tape c.of_word.result c.requires.few
    (c.start_state.ensures ∙ ap (λ p. start_of p.quints) (sym same))
    (c.in-Ok.ensures.made ∙ ap (λ k. new_window (n + 1) k (take c.min-held.result word)) c.max-right.ensures
    ∙ ap (λ k. new_window (n + 1) (max k (n + 1)) (take k word)) c.min-held.ensures)
    (c.of_word.ensures.first word refl) (c.of_word.ensures.last word refl c.requires.letters)
