use Rattle.std.proofs.Common.{refl, ap, rules, ◌∙◌}
use Rattle.bn_machine.specs.Standard.{IsStandard}
use Rattle.bn_machine.specs.Verdict.{IsStandardRefusal}
use Rattle.bn_reply_erase.specs.Opened.{first_unfit, second_unfit}
use Rattle.bn_reply_erase.specs.Pairs.{with_second}
use Rattle.bn_reply_erase.proofs.pair.judge_pair.Goals as goal

pub returns-in-Err : goal.returns-in-Err
returns-in-Err c =
    let refusal : IsStandardRefusal c.args.joined.now.first.quints c.in-Err.why = search rules in
    first_unfit c.in-Err.why refusal c.in_ok-why_text-in-Err.ensures.0 c.in_ok-why_text-in-Err.ensures.1 refl

pub returns-in_ok-tell_second-in-Err-check : goal.returns-in_ok-tell_second-in-Err-check
returns-in_ok-tell_second-in-Err-check c =
    let standard : IsStandard c.args.joined.now.first.quints = search rules in
    let refusal : IsStandardRefusal c.args.joined.now.second.quints c.in-Err-check.why = search rules in
    let told = c.in_ok-why_text-in-Err-check.ensures in
    let reply = c.in_ok-tell_second-in-Err-check.ensures in
    second_unfit standard c.in-Err-check.why refusal told.0 (reply.text ∙ ap with_second told.1) reply.status
