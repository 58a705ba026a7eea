use Rattle.std.proofs.Common.{◌≡◌, subst}
use Rattle.bn_rsm.specs.Machines.{machine_table}
use Rattle.bn_equal.specs.Comparisons.{IsComparison}
use Rattle.bn_reply_equal.specs.EqualReply.{ComparisonReplies, difference_text}
use Rattle.bn_reply_equal.proofs.ReplyLemmas.{differ_replies, if_ok}
use Rattle.bn_reply_equal.proofs.equal.reply_text.Goals as goal

pub returns-in-Differ : goal.returns-in-Differ
returns-in-Differ c =
    let m = c.args.first.now in
    let n = c.args.second.now in
    let d = c.in-Differ.difference in
    let is = subst (IsComparison (machine_table m) c.args.state (machine_table n) c.args.other) c.in-Differ.is
    c.in_ok-compare.ensures in
    if_ok (λ text. text.items ≡ difference_text d.word.items d.first d.second)
    (λ text. ComparisonReplies m c.args.state n c.args.other text.items) c.text_of.result
    (λ text told. differ_replies m n c.args.state c.args.other d text.items is told) c.text_of.ensures
