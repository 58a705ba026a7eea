use Rattle.std.proofs.Common.{◌++◌}
use Rattle.std.proofs.lemmas.Result.{on_err_weaker}
use Rattle.bn_reply.proofs.FrontLemmas.{behind_first, if_refused, in_first}
use Rattle.bn_reply_builds.specs.DriveText.{drive_tape_line}
use Rattle.bn_reply_builds.proofs.outcome_text.push_tapes.Goals as goal

pub returns-in_err-push_tape-clause-refused : goal.returns-in_err-push_tape-clause-refused
returns-in_err-push_tape-clause-refused c =
    let n = c.args.names.now.names.now in
    let s = c.args.shown.now in
    if_refused c.from_residual.result
    (in_first _ _ (drive_tape_line n.one 1 s.one) (drive_tape_line n.two 2 s.two ++ drive_tape_line n.three 3 s.three)
    c.in_err-push_tape.ensures.refused)

pub returns-in_err-push_tape-2-clause-refused : goal.returns-in_err-push_tape-2-clause-refused
returns-in_err-push_tape-2-clause-refused c =
    let n = c.args.names.now.names.now in
    let s = c.args.shown.now in
    if_refused c.from_residual-in_err-push_tape-2.result
    (behind_first _ _ _ (drive_tape_line n.one 1 s.one)
    (drive_tape_line n.two 2 s.two ++ drive_tape_line n.three 3 s.three) c.in_ok-push_tape.ensures.added
    (in_first _ _ (drive_tape_line n.two 2 s.two) (drive_tape_line n.three 3 s.three)
    c.in_err-push_tape-2.ensures.refused))

pub returns-clause-refused : goal.returns-clause-refused
returns-clause-refused c =
    let n = c.args.names.now.names.now in
    let s = c.args.shown.now in
    on_err_weaker c.push_tape-3.result (λ last.
    behind_first _ _ _ (drive_tape_line n.one 1 s.one)
    (drive_tape_line n.two 2 s.two ++ drive_tape_line n.three 3 s.three) c.in_ok-push_tape.ensures.added
    (behind_first _ _ _ (drive_tape_line n.two 2 s.two) (drive_tape_line n.three 3 s.three)
    c.in_ok-push_tape-2.ensures.added last)) c.push_tape-3.ensures.refused
