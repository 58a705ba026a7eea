use Rattle.std.proofs.Common.{Some, refl, subst}
use Rattle.bn_machine.specs.Machine.{Program}
use Rattle.bn_reply_windows.specs.WindowReply.{ends}
use Rattle.bn_reply_windows.specs.WindowRun.{IsFound, limits_of}
use Rattle.bn_reply_windows.proofs.window.window_of_symbols.Goals as goal

pub returns-in_ok-window_text-in-Some : goal.returns-in_ok-window_text-in-Some
returns-in_ok-window_text-in-Some c =
    let found = subst (λ (p : Program). IsFound p c.args.symbols.now c.args.most_steps (Some c.in-Some.window))
    c.machine.ensures.value
    (subst (IsFound c.machine.result.now c.args.symbols.now c.args.most_steps) c.in-Some.is c.in_ok-window.ensures) in
    ends found.0 (limits_of c.in-Some.window) found.1 c.in_ok-window_text-in-Some.ensures refl refl
