use Rattle.std.proofs.Common.{◌≡◌, ◌++◌, List, All, arith, length, map, sym, ap, subst, ◌∙◌}
use Rattle.std.proofs.lemmas.List.{length-map}
use Rattle.bn_network_assembly.specs.Assembled.{limits_of}
use Rattle.bn_quad.specs.Names.{Naming}
use Rattle.bn_quad.specs.Quadruples.{Quadruples}
use Rattle.bn_bennett.specs.Printed.{bennett_state_text}
use Rattle.bn_network.specs.Controls.{IsNumbering}
use Rattle.bn_control.specs.Names.{state_of}
use Rattle.bn_control.specs.declared.name.StateName.{StateName}
use Rattle.bn_reply_layout.specs.ControlText.{column_lines}
use Rattle.bn_reply_layout.specs.Made.{HasStateName}
use Rattle.bn_reply_layout.proofs.TextLemmas.{all_named, joined_text}
use Rattle.bn_reply_layout.proofs.layout_text.layout_text.Goals as goal

pub push_modules-requires-clause-states : goal.push_modules-requires-clause-states
push_modules-requires-clause-states c =
    let states = c.in_ok-states.states.items in
    let numbering = subst (λ (q : Quadruples). IsNumbering q (map state_of states))
    (c.machine-2.ensures.value ∙ c.machine.ensures.value) c.in_ok-states.ensures in
    let few = c.requires.few (map state_of states) numbering in
    let count = length-map states state_of in
    let here = c.len.ensures in
    omega arith

pub push_columns-requires : goal.push_columns-requires
push_columns-requires c =
    let m = c.args.translated.now in
    let states = c.in_ok-states.states.items in
    let translates = c.requires.translation in
    let numbering = subst (λ (q : Quadruples). IsNumbering q (map state_of states))
    (c.machine-2.ensures.value ∙ c.machine.ensures.value) c.in_ok-states.ensures in
    let names = ap (λ (n : Naming). length n.states) c.in_ok-names.ensures.names in
    let count = translates.states ∙ sym (length-map m.names bennett_state_text) ∙ sym names in
    subst (All (HasStateName (length c.in_ok-names.names.states))) (sym c.as_slice.ensures.value)
    (all_named m.machine (length c.in_ok-names.names.states) states translates.machine count numbering)

pub returns : goal.returns
returns c = λ f has.
    let t = c.args.table.now in
    let m = c.args.translated.now in
    let states = c.in_ok-states.states.items in
    let numbering = subst (λ (q : Quadruples). IsNumbering q (map state_of states))
    (c.machine-2.ensures.value ∙ c.machine.ensures.value) c.in_ok-states.ensures in
    let names = ap (λ (n : Naming). n.states) c.in_ok-names.ensures.names in
    let here = c.len.ensures in
    let mapped = length-map states state_of in
    let count : c.len.result ≡ length (map state_of states) = omega arith in
    let columns = c.in_ok-push_columns.ensures ∙ ap (λ (ss : List StateName). c.push_modules.new.text.items
    ++ column_lines c.in_ok-names.names.states 0 (map state_of ss)) c.as_slice.ensures.value in
    joined_text t m (limits_of c.args.windows.now) f c.in_ok-names.names.states (map state_of states)
    c.letters_of-letters.result c.history_of-history.result c.len.result
    c.new-text.result.items c.push_modules.new.text.items c.push_columns.new.text.items
    c.push_control_lines.new.text.items c.push_tapes.new.text.items
    c.requires.translation has numbering names c.letters_of-letters.ensures.number c.history_of-history.ensures.number
    count
    c.new-text.ensures.items c.in_ok-push_modules.ensures columns c.in_ok-push_control_lines.ensures
    c.in_ok-push_tapes.ensures
