-- A machine that passed has its line.
use Rattle.std.proofs.Common.{refl, subst, ap, ◌∙◌}
use Rattle.bn_reply.specs.Opened.{IsJudged}
use Rattle.bn_reply.specs.TableReply.{fit}
use Rattle.bn_reply_machines.specs.CheckReply.{standard_line}
use Rattle.bn_reply_machines.proofs.check.check_table.Goals as goal

pub returns-in_ok-standard_text-in-Standard : goal.returns-in_ok-standard_text-in-Standard
returns-in_ok-standard_text-in-Standard c =
    let judged = subst (IsJudged c.args.table.now) c.in-Standard.is c.in_ok-reply.ensures.judged in
    let same = c.machine.ensures.value ∙ judged.0 in
    fit judged.1 (record {
      done = refl;
      text_is = c.in_ok-standard_text-in-Standard.ensures ∙ ap standard_line same;
      silent = refl;
    })
