use Rattle.std.specs.Prelude.{◌≡◌, ◌++◌, ◌∷◌, [], List, ℕ}
use Rattle.std.proofs.Common.{ap, append_assoc, subst, sym, ◌∙◌}
use Rattle.bn_io.specs.Told.{GrowsByFront}
use Rattle.bn_reply.specs.Lines.{line}
use Rattle.bn_reply_traces.specs.MomentText.{rule_text}
use Rattle.bn_reply_traces.specs.QuadStages.{table_in}
use Rattle.bn_reply_traces.proofs.QuadGivenLemmas.{front_none, line_by, line_in}
use Rattle.bn_reply_traces.proofs.QuadStageLemmas.{stage_clear}
use Rattle.bn_reply_traces.proofs.quad_run.QuadRun.tell_moment.Goals as goal

pub returns-in_default-clause-front : goal.returns-in_default-clause-front
returns-in_default-clause-front g c =
    let at = c.requires.stage in
    let l = line_in c.args.self.now c.requires.run c.args.steps c.args.stage.now at.0 at.1 in
    (l.0, l.1, front_none (g.K.Sink.taken c.args.sink.now) (c.args.text.now.items ++ l.0))

pub step-rule-requires : goal.step-rule-requires
step-rule-requires g c =
    let r = c.args.self.now in
    let at = c.requires.stage in
    stage_clear (table_in r) r.words r.most_steps c.args.steps at.0 c.args.stage.now at.1 c.requires.early

pub returns-in_default-push_line_end-clause-front : goal.returns-in_default-push_line_end-clause-front
returns-in_default-push_line_end-clause-front g c =
    let at = c.requires.stage in
    let l = line_in c.args.self.now c.requires.run c.args.steps c.args.stage.now at.0 at.1 in
    (l.0, l.1, front_none (g.K.Sink.taken c.args.sink.now) (c.args.text.now.items ++ l.0))

pub returns-in-Ok-give_pieces-clause-told : goal.returns-in-Ok-give_pieces-clause-told
returns-in-Ok-give_pieces-clause-told g c =
    let r = c.args.self.now in
    let run = c.requires.run in
    let at = c.requires.stage in
    let said = c.in-Ok.ensures at.0 at.1 in
    let stepped = c.step-rule.ensures (table_in r) r.words r.most_steps c.args.steps at.0 (sym run.indexed) run.valid
    run.read.symbols run.read.states c.requires.early run.few at.1
    in
    let end = line (rule_text c.step-rule.result ∷ []) in
    let old = c.args.text.now.items in
    let whole : c.push_line_end.new.text.items ≡ old ++ (said.0 ++ end) =
    c.in-Ok-push_line_end.ensures ∙ ap (λ (z : List ℕ). z ++ end) said.2 ∙ append_assoc old said.0 end
    in
    let given = c.in-Ok-give_pieces.ensures.given in (
      said.0 ++ end,
      given.0,
      line_by r run c.args.steps c.args.stage.now at.0 at.1 c.step-rule.new.self c.step-rule.result said.0 said.1
          stepped,
      sym whole ∙ given.1,
      given.2,
    )

pub returns-in-Err-clause-front : goal.returns-in-Err-clause-front
returns-in-Err-clause-front g c =
    let r = c.args.self.now in
    let run = c.requires.run in
    let at = c.requires.stage in
    let said = c.in-Ok.ensures at.0 at.1 in
    let stepped = c.step-rule.ensures (table_in r) r.words r.most_steps c.args.steps at.0 (sym run.indexed) run.valid
    run.read.symbols run.read.states c.requires.early run.few at.1
    in
    let end = line (rule_text c.step-rule.result ∷ []) in
    let old = c.args.text.now.items in
    let whole : c.push_line_end.new.text.items ≡ old ++ (said.0 ++ end) =
    c.in-Ok-push_line_end.ensures ∙ ap (λ (z : List ℕ). z ++ end) said.2 ∙ append_assoc old said.0 end
    in (
      said.0 ++ end,
      line_by r run c.args.steps c.args.stage.now at.0 at.1 c.step-rule.new.self c.step-rule.result said.0 said.1
          stepped,
      subst (λ (z : List ℕ). GrowsByFront (g.K.Sink.taken c.args.sink.now) (g.K.Sink.taken c.give_pieces.new.sink) z)
          whole
          c.in-Err.ensures.front,
    )
