use Rattle.std.proofs.Common.{◌∙◌, ap, refl, subst}
use Rattle.bn_reply.specs.declared.reply.Reply.{Reply}
use Rattle.bn_reply_equal.specs.EqualReply.{second_clashing, second_faulty}
use Rattle.bn_reply_equal.specs.Replied.{IsReadTable}
use Rattle.bn_reply_equal.specs.Second.{with_second}
use Rattle.bn_reply_equal.proofs.ReplyLemmas.{machine_replies}
use Rattle.bn_reply_equal.proofs.equal.reply_machine.Goals as goal

pub returns-in_ok-told-in-Faulty : goal.returns-in_ok-told-in-Faulty
returns-in_ok-told-in-Faulty c first h =
    let faulty = subst (IsReadTable c.args.second.now) c.in-Faulty.is c.in_ok-refusal.ensures in
    second_faulty c.args.machine.now.moves h.moves c.in-Faulty.refusal.items faulty
    (ap (λ (x : Reply). x.text.items) c.of_fault.ensures ∙ c.in_ok-told-in-Faulty.ensures
    ∙ ap with_second c.as_slice.ensures.value)
    (ap (λ (x : Reply). x.status) c.of_fault.ensures) refl

pub returns-in_ok-told-in-Clashing : goal.returns-in_ok-told-in-Clashing
returns-in_ok-told-in-Clashing c first h =
    let clash = subst (IsReadTable c.args.second.now) c.in-Clashing.is c.in_ok-refusal.ensures in
    second_clashing c.args.machine.now h c.in-Clashing.refusal.items clash.0
    (ap (λ (x : Reply). x.text.items) c.of_machine.ensures ∙ c.in_ok-told-in-Clashing.ensures
    ∙ ap with_second c.as_slice-in-Clashing.ensures.value)
    (ap (λ (x : Reply). x.status) c.of_machine.ensures) refl

pub returns-in-Machine : goal.returns-in-Machine
returns-in-Machine c =
    let machine = subst (IsReadTable c.args.second.now) c.in-Machine.is c.in_ok-refusal.ensures in
    machine_replies c.args.machine.now c.args.state c.args.other c.in-Machine.second c.args.second.now
    c.reply_states.result machine c.reply_states.ensures
