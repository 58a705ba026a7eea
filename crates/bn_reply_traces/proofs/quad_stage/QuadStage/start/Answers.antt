use Rattle.std.specs.Prelude.{refl}
use Rattle.std.proofs.Common.{ap, sym, ◌∙◌}
use Rattle.bn_quad.specs.Quadruples.{initial_of}
use Rattle.bn_reply_traces.proofs.QuadStageLemmas.{stage_start}
use Rattle.bn_reply_traces.proofs.quad_stage.QuadStage.start.Goals as goal

pub returns : goal.returns
returns c = λ t same machine symbols states h.
    let w = c.args.words.now in
    stage_start t w c.args.steps _ machine states h (c.initial_state.ensures ∙ ap (λ p. initial_of p.rules) (sym same))
    c.in_ok-wide_tape.ensures c.in_ok-wide_tape-2.ensures c.in_ok-wide_tape-3.ensures
    (c.of_word.ensures.first w.one.now refl) (c.of_word.ensures.last w.one.now refl h.one.letters)
    (c.of_word-2.ensures.first w.two.now refl) (c.of_word-2.ensures.last w.two.now refl h.two.letters)
    (c.of_word-3.ensures.first w.three.now refl) (c.of_word-3.ensures.last w.three.now refl h.three.letters)
