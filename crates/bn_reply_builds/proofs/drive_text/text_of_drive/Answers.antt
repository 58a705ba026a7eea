use Rattle.std.proofs.Common.{◌≡◌, ◌++◌, ap, sym, ◌∙◌}
use Rattle.bn_qtable.specs.Rows.{table_of}
use Rattle.bn_boards.specs.Layouts.{Layout, spelled_by}
use Rattle.bn_reply_relations.specs.RunText.{steps_line}
use Rattle.bn_circuits.specs.declared.place.Place.TheVariants.{Enter}
use Rattle.bn_reply_boards.proofs.ShownLemmas.{line_within}
use Rattle.bn_reply_builds.proofs.TextLemmas.{drive_joined}
use Rattle.bn_reply_builds.proofs.drive_text.text_of_drive.Goals as goal

pub returns : goal.returns
returns c = λ f layout elements.
    let t = table_of c.args.names.now.machine.now c.args.names.now.names.now in
    let d = c.args.board.now.config in
    let steps : c.push_counted-2.new.text.items ≡ c.push_outcome.new.text.items ++ steps_line d.steps =
    c.in_ok-push_counted-2.ensures.added ∙ ap (λ n. c.push_outcome.new.text.items ++ steps_line n) c.steps.ensures in
    drive_joined t f c.args.outcome c.args.quadruple_steps d c.args.shown.now c.from.result c.new-text.result.items
    c.push_counted.new.text.items
    c.push_outcome.new.text.items c.push_counted-2.new.text.items c.push_counted-3.new.text.items
    c.push_tapes.new.text.items
    (elements ∙ sym c.len.ensures.number ∙ sym c.from.ensures)
    (c.requires.shown ∙ ap (λ (x : Layout). spelled_by x d.states) (sym layout))
    c.new-text.ensures.items c.in_ok-push_counted.ensures.added c.in_ok-push_outcome.ensures.added steps
    c.in_ok-push_counted-3.ensures.added c.in_ok-push_tapes.ensures.added

pub push_outcome-requires-clause-inside : goal.push_outcome-requires-clause-inside
push_outcome-requires-clause-inside c = λ line is.
    line_within c.args.board.now.net c.args.board.now.config c.len.ensures.kept.reached.good
    (Enter line.element line.line) (sym (c.requires.inside line is))
