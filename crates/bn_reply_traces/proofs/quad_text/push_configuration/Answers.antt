use Rattle.std.specs.Prelude.{◌≡◌, ◌++◌, ℕ, [], decimal}
use Rattle.std.proofs.Common.{ap, sym, ◌∙◌}
use Rattle.std.proofs.lemmas.Option.{get_or_from_slice_get}
use Rattle.std.proofs.lemmas.Result.{on_ok_weaker}
use Rattle.std.specs.Prelude.{codes}
use Rattle.bn_reply_traces.specs.ConfigurationText.{name_in}
use Rattle.bn_reply_traces.specs.QuadStages.{table_in}
use Rattle.bn_reply_traces.proofs.QuadTextLemmas.{configuration_pushed, stage_named, tape_told}
use Rattle.bn_reply_traces.proofs.quad_text.push_configuration.Goals as goal

pub push_numbered-requires : goal.push_numbered-requires
push_numbered-requires c =
    let r = c.args.run.now in
    let s = c.args.stage.now in
    let x = c.requires.stage.0 in (
      r.most_steps,
      c.args.steps,
      x.one,
      stage_named (table_in r).names.one c.symbols.result c.symbols.ensures r.words.one.now
          r.most_steps c.args.steps s.tapes.one s.extents.one x.one c.requires.stage.1.one,
    )

pub push_numbered-requires-2 : goal.push_numbered-requires-2
push_numbered-requires-2 c =
    let r = c.args.run.now in
    let s = c.args.stage.now in
    let x = c.requires.stage.0 in (
      r.most_steps,
      c.args.steps,
      x.two,
      stage_named (table_in r).names.two c.symbols-2.result c.symbols-2.ensures
          r.words.two.now r.most_steps c.args.steps s.tapes.two s.extents.two x.two c.requires.stage.1.two,
    )

pub push_numbered-requires-3 : goal.push_numbered-requires-3
push_numbered-requires-3 c =
    let r = c.args.run.now in
    let s = c.args.stage.now in
    let x = c.requires.stage.0 in (
      r.most_steps,
      c.args.steps,
      x.three,
      stage_named (table_in r).names.three c.symbols-3.result c.symbols-3.ensures
          r.words.three.now r.most_steps c.args.steps s.tapes.three s.extents.three x.three c.requires.stage.1.three,
    )

pub returns : goal.returns
returns c = λ x at.
    let r = c.args.run.now in
    let t = table_in r in
    let s = c.args.stage.now in
    let n = r.most_steps in
    let i = c.args.steps in
    let name : c.state.result.now ≡ name_in t.names.states x.state =
    sym (get_or_from_slice_get t.names.states s.state c.state.result.now [] c.state.ensures.name)
    ∙ ap (name_in t.names.states) (sym at.state)
    in
    let one = tape_told t.names.one c.symbols.result c.symbols.ensures x.one c.push-2.new.text.items
    c.push_numbered.new.text.items (codes " tape 1") (c.in_ok-push_numbered.ensures n i x.one
    (stage_named t.names.one c.symbols.result c.symbols.ensures r.words.one.now n i s.tapes.one s.extents.one x.one
    at.one))
    in
    let two = tape_told t.names.two c.symbols-2.result c.symbols-2.ensures x.two c.push_numbered.new.text.items
    c.push_numbered-2.new.text.items (codes " tape 2") (c.in_ok-push_numbered-2.ensures n i x.two
    (stage_named t.names.two c.symbols-2.result c.symbols-2.ensures r.words.two.now n i s.tapes.two s.extents.two x.two
    at.two))
    in
    on_ok_weaker c.push_numbered-3.result (λ last.
    configuration_pushed t i x c.state.result.now c.args.text.now.items c.push_u64.new.out.items c.push.new.text.items
    c.push-2.new.text.items c.push_numbered.new.text.items c.push_numbered-2.new.text.items
    c.push_numbered-3.new.text.items
    name (c.in_ok-push_u64.ensures.ok ∙ ap (λ (k : ℕ). c.args.text.now.items ++ decimal k) c.from.ensures)
    c.in_ok-push.ensures.added c.in_ok-push-2.ensures.added one two
    (tape_told t.names.three c.symbols-3.result c.symbols-3.ensures x.three c.push_numbered-2.new.text.items
    c.push_numbered-3.new.text.items (codes " tape 3") last))
    (c.push_numbered-3.ensures n i x.three
    (stage_named t.names.three c.symbols-3.result c.symbols-3.ensures r.words.three.now n i s.tapes.three
    s.extents.three x.three
    at.three))
