use Rattle.std.proofs.Common.{◌∷◌, []}
use Rattle.std.specs.Prelude.{codes}
use Rattle.std.proofs.lemmas.Result.{on_err_weaker}
use Rattle.bn_qtable.specs.Rows.{table_of}
use Rattle.bn_reply.specs.Lines.{line}
use Rattle.bn_reply.proofs.FrontLemmas.{as_it_was, behind_first, if_refused, in_first}
use Rattle.bn_reply_builds.specs.DriveText.{name_in}
use Rattle.bn_reply_builds.specs.Outcomes.{scanned_text}
use Rattle.bn_reply_builds.proofs.outcome_text.push_stop.Goals as goal

pub returns-in_err-push_scanned-clause-refused : goal.returns-in_err-push_scanned-clause-refused
returns-in_err-push_scanned-clause-refused c =
    let n = c.args.names.now.names.now in
    let state = name_in n.states c.args.stop.state in
    let scanned = scanned_text (table_of c.args.names.now.machine.now n) c.args.stop in
    if_refused c.from_residual-in_err-push_scanned.result
    (behind_first _ _ _ (codes "exit stuck ") (line (state ∷ scanned ∷ [])) c.in_ok-push.ensures.added
    (behind_first _ _ _ state (line (scanned ∷ [])) c.in_ok-push_state.ensures.added
    (in_first _ _ scanned (10 ∷ []) c.in_err-push_scanned.ensures.refused)))

pub returns-clause-refused : goal.returns-clause-refused
returns-clause-refused c =
    let n = c.args.names.now.names.now in
    let state = name_in n.states c.args.stop.state in
    let scanned = scanned_text (table_of c.args.names.now.machine.now n) c.args.stop in
    on_err_weaker c.push-2.result (λ same.
    behind_first _ _ _ (codes "exit stuck ") (line (state ∷ scanned ∷ [])) c.in_ok-push.ensures.added
    (behind_first _ _ _ state (line (scanned ∷ [])) c.in_ok-push_state.ensures.added
    (behind_first _ _ _ scanned (10 ∷ []) c.in_ok-push_scanned.ensures.added (as_it_was _ _ _ same))))
    c.push-2.ensures.refused
