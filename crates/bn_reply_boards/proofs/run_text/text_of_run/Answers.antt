use Rattle.std.proofs.Common.{◌≡◌, ◌++◌, sym, ap, ◌∙◌}
use Rattle.bn_reply_relations.specs.RunText.{exit_line, steps_line}
use Rattle.bn_reply_boards.proofs.ShownLemmas.{line_within}
use Rattle.bn_reply_boards.proofs.RunTextLemmas.{run_joined}
use Rattle.bn_reply_boards.proofs.run_text.text_of_run.Goals as goal

pub push_exit-requires-clause-line : goal.push_exit-requires-clause-line
push_exit-requires-clause-line c =
    line_within c.args.board.now.net c.args.board.now.config c.len.ensures.kept.reached.good c.place.result
    c.place.ensures.place

pub returns : goal.returns
returns c = λ f shown.
    let t = c.args.table.now in
    let d = c.args.board.now.config in
    let place : c.push_exit.new.text.items ≡ c.push_counted.new.text.items ++ exit_line t f d.place c.args.exit =
    c.in_ok-push_exit.ensures.added f shown.translation ∙ ap (λ p. c.push_counted.new.text.items
    ++ exit_line t f p c.args.exit) c.place.ensures.place in
    let steps : c.push_counted-2.new.text.items ≡ c.push_exit.new.text.items ++ steps_line d.steps =
    c.in_ok-push_counted-2.ensures.added ∙ ap (λ n. c.push_exit.new.text.items ++ steps_line n) c.steps.ensures in
    run_joined t f d c.args.quadruple_steps c.args.exit c.from.result c.new-text.result.items
    c.push_counted.new.text.items c.push_exit.new.text.items
    c.push_counted-2.new.text.items c.push_rest.new.text.items
    (shown.elements ∙ sym c.len.ensures.number ∙ sym c.from.ensures) c.new-text.ensures.items
    c.in_ok-push_counted.ensures.added place steps (c.in_ok-push_rest.ensures f shown.layout)
