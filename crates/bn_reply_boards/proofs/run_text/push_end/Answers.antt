use Rattle.std.proofs.Common.{◌++◌, drop, ap, ◌∙◌}
use Rattle.std.proofs.lemmas.Result.{on_ok_weaker}
use Rattle.bn_reply_relations.specs.RunText.{output_from, output_line, quadruple_line, tape_lines}
use Rattle.bn_reply.proofs.PieceLemmas.{three_pieces}
use Rattle.bn_reply_boards.proofs.run_text.push_end.Goals as goal

pub returns : goal.returns
returns c =
    let shown = c.args.shown.now in
    let table = c.args.table.now in
    on_ok_weaker c.push_output.result (λ last.
    three_pieces c.args.text.now.items (quadruple_line c.args.quadruple_steps)
    (tape_lines table shown.one shown.two shown.three)
    (output_line table (output_from (drop 1 shown.three.cells))) c.push_counted.new.text.items
    c.push_tapes.new.text.items c.push_output.new.text.items
    c.in_ok-push_counted.ensures.added c.in_ok-push_tapes.ensures.added
    (last ∙ ap (λ cells. c.push_tapes.new.text.items ++ output_line table (output_from (drop 1 cells)))
    c.as_slice.ensures)) c.push_output.ensures
