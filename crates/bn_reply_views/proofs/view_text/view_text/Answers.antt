use Rattle.std.proofs.Common.{◌++◌, sym, ap, ◌∙◌}
use Rattle.bn_bennett.specs.Printed.{bennett_state_text}
use Rattle.bn_bennett.specs.Translation.{Translation, name_of}
use Rattle.bn_bennett_laws.specs.List.{symbols_of}
use Rattle.bn_reply_relations.specs.RunText.{exit_line, tape_lines}
use Rattle.bn_reply_views.specs.ViewText.{element_line, machine_line, module_line, state_line}
use Rattle.bn_reply_views.proofs.ViewTextLemmas.{five_pieces, state_name}
use Rattle.bn_reply_views.proofs.view_text.view_text.Goals as goal

pub returns : goal.returns
returns c = λ f same.
    let t = c.args.table.now in
    let v = c.args.layers.now in
    let name = state_name t c.args.translated.now c.in_ok-names.names c.in_ok-names.ensures.names c.requires.translation
    v.state c.requires.layers.state in
    five_pieces c.new-text.result.items (element_line v.place v.steps)
    (module_line (symbols_of t.machine) (exit_line t f v.place v.exit) v.module)
    (state_line (name_of f.translation v.state))
    (tape_lines t v.tapes.one v.tapes.two v.tapes.three) (machine_line t v.stage v.machine v.machine_step)
    c.push_element.new.text.items c.push_where.new.text.items
    c.push_state.new.text.items c.push_tapes.new.text.items c.push_machine.new.text.items c.new-text.ensures.items
    c.in_ok-push_element.ensures.added (c.in_ok-push_where.ensures f same)
    (c.in_ok-push_state.ensures (bennett_state_text (name_of c.args.translated.now v.state)) name
    ∙ ap (λ (x : Translation). c.push_where.new.text.items ++ state_line (name_of x v.state)) (sym same))
    c.in_ok-push_tapes.ensures.added c.in_ok-push_machine.ensures
