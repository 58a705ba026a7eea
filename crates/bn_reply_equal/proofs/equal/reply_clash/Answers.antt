use Rattle.std.proofs.Common.{◌∙◌, ap, refl, subst}
use Rattle.bn_reply.specs.declared.reply.Reply.{Reply}
use Rattle.bn_reply_equal.specs.EqualReply.{clashing, second_faulty}
use Rattle.bn_reply_equal.specs.Replied.{IsReadTable}
use Rattle.bn_reply_equal.specs.Second.{with_second}
use Rattle.bn_reply_equal.proofs.equal.reply_clash.Goals as goal

pub returns-in_ok-told-in-Faulty : goal.returns-in_ok-told-in-Faulty
returns-in_ok-told-in-Faulty c q r first h =
    let faulty = subst (IsReadTable c.args.second.now) c.in-Faulty.is c.in_ok-refusal.ensures in
    second_faulty h.1.0 h.1.1 c.in-Faulty.refusal.items faulty
    (ap (λ (x : Reply). x.text.items) c.of_fault.ensures ∙ c.in_ok-told-in-Faulty.ensures
    ∙ ap with_second c.as_slice.ensures.value)
    (ap (λ (x : Reply). x.status) c.of_fault.ensures) refl

pub returns-in-Clashing : goal.returns-in-Clashing
returns-in-Clashing c q r first h =
    let clash = subst (IsReadTable c.args.second.now) c.in-Clashing.is c.in_ok-refusal.ensures in
    rw c.of_machine.ensures (clashing h.0 clash.1.0 clash.1.1 refl refl)

pub returns-in-Machine : goal.returns-in-Machine
returns-in-Machine c q r first h =
    let machine = subst (IsReadTable c.args.second.now) c.in-Machine.is c.in_ok-refusal.ensures in
    rw c.of_machine-in-Machine.ensures (clashing h.0 c.in-Machine.field-0.moves machine.moves refl refl)
