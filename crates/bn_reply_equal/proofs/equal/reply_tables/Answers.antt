use Rattle.std.proofs.Common.{subst}
use Rattle.bn_reply_equal.specs.Replied.{IsReadTable}
use Rattle.bn_reply_equal.specs.declared.read.ReadTable.TheVariants.{Clashing}
use Rattle.bn_reply_equal.proofs.ReplyLemmas.{clash_replies, first_replies}
use Rattle.bn_reply_equal.proofs.equal.reply_tables.Goals as goal

pub returns-in-Clashing : goal.returns-in-Clashing
returns-in-Clashing c =
    clash_replies c.args.state c.args.other c.args.first.now c.args.second.now (Clashing c.in-Clashing.text)
    c.reply_clash.result (subst (IsReadTable c.args.first.now) c.in-Clashing.is c.in_ok-text.ensures)
    c.reply_clash.ensures

pub returns-in-Machine : goal.returns-in-Machine
returns-in-Machine c =
    first_replies c.args.state c.args.other c.args.first.now c.args.second.now c.in-Machine.machine
    c.reply_machine.result (subst (IsReadTable c.args.first.now) c.in-Machine.is c.in_ok-text.ensures)
    c.reply_machine.ensures
