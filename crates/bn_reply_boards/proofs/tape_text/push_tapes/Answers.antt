use Rattle.std.proofs.Common.{◌++◌}
use Rattle.std.proofs.lemmas.Result.{on_err_weaker}
use Rattle.bn_reply.proofs.FrontLemmas.{behind_first, if_refused, in_first}
use Rattle.bn_reply.proofs.PieceLemmas.{two_pieces}
use Rattle.bn_reply_relations.specs.RunText.{tape_line}
use Rattle.bn_reply_boards.proofs.tape_text.push_tapes.Goals as goal

pub returns-in_err-push_tape-clause-refused : goal.returns-in_err-push_tape-clause-refused
returns-in_err-push_tape-clause-refused c =
    let t = c.args.table.now in
    let s = c.args.shown.now in
    if_refused c.from_residual.result
    (in_first _ _ (tape_line t 1 s.one ++ tape_line t 2 s.two) (tape_line t 3 s.three)
    (in_first _ _ (tape_line t 1 s.one) (tape_line t 2 s.two) c.in_err-push_tape.ensures.refused))

pub returns-in_err-push_tape-2-clause-refused : goal.returns-in_err-push_tape-2-clause-refused
returns-in_err-push_tape-2-clause-refused c =
    let t = c.args.table.now in
    let s = c.args.shown.now in
    if_refused c.from_residual-in_err-push_tape-2.result
    (in_first _ _ (tape_line t 1 s.one ++ tape_line t 2 s.two) (tape_line t 3 s.three)
    (behind_first _ _ _ (tape_line t 1 s.one) (tape_line t 2 s.two) c.in_ok-push_tape.ensures.added
    c.in_err-push_tape-2.ensures.refused))

pub returns-clause-refused : goal.returns-clause-refused
returns-clause-refused c =
    let t = c.args.table.now in
    let s = c.args.shown.now in
    on_err_weaker c.push_tape-3.result (λ last.
    behind_first _ _ _ (tape_line t 1 s.one ++ tape_line t 2 s.two) (tape_line t 3 s.three)
    (two_pieces c.args.text.now.items (tape_line t 1 s.one) (tape_line t 2 s.two) _ _ c.in_ok-push_tape.ensures.added
    c.in_ok-push_tape-2.ensures.added) last) c.push_tape-3.ensures.refused
