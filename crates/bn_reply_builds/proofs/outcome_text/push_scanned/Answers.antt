use Rattle.std.proofs.Common.{◌++◌}
use Rattle.std.specs.Prelude.{codes}
use Rattle.std.proofs.lemmas.Result.{on_err_weaker}
use Rattle.bn_reply.proofs.FrontLemmas.{behind_first, if_refused, in_first}
use Rattle.bn_reply_builds.specs.DriveText.{name_in}
use Rattle.bn_reply_builds.proofs.outcome_text.push_scanned.Goals as goal

pub returns-in_err-push_spaced-clause-refused : goal.returns-in_err-push_spaced-clause-refused
returns-in_err-push_spaced-clause-refused c =
    let n = c.args.names.now.names.now in
    let stop = c.args.stop in
    let one = codes " " ++ name_in n.one stop.one in
    let two = codes " " ++ name_in n.two stop.two in
    let three = codes " " ++ name_in n.three stop.three in
    if_refused c.from_residual.result (in_first _ _ one (two ++ three) c.in_err-push_spaced.ensures.refused)

pub returns-in_err-push_spaced-2-clause-refused : goal.returns-in_err-push_spaced-2-clause-refused
returns-in_err-push_spaced-2-clause-refused c =
    let n = c.args.names.now.names.now in
    let stop = c.args.stop in
    let one = codes " " ++ name_in n.one stop.one in
    let two = codes " " ++ name_in n.two stop.two in
    let three = codes " " ++ name_in n.three stop.three in
    if_refused c.from_residual-in_err-push_spaced-2.result
    (behind_first _ _ _ one (two ++ three) c.in_ok-push_spaced.ensures.added
    (in_first _ _ two three c.in_err-push_spaced-2.ensures.refused))

pub returns-clause-refused : goal.returns-clause-refused
returns-clause-refused c =
    let n = c.args.names.now.names.now in
    let stop = c.args.stop in
    let one = codes " " ++ name_in n.one stop.one in
    let two = codes " " ++ name_in n.two stop.two in
    let three = codes " " ++ name_in n.three stop.three in
    on_err_weaker c.push_spaced-3.result (λ last.
    behind_first _ _ _ one (two ++ three) c.in_ok-push_spaced.ensures.added
    (behind_first _ _ _ two three c.in_ok-push_spaced-2.ensures.added last)) c.push_spaced-3.ensures.refused
