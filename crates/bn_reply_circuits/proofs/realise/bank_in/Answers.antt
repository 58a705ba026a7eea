use Rattle.std.proofs.Common.{◌-◌, arith}
use Rattle.bn_reply_circuits.proofs.RealiseLemmas.{bank_will}
use Rattle.bn_reply_circuits.proofs.realise.bank_in.Goals as goal

pub returns-in_ok-config-in-Ok : goal.returns-in_ok-config-in-Ok
returns-in_ok-config-in-Ok c =
    bank_will c.args.rsm.now c.args.state c.args.line (c.args.state - 1) (c.args.line - 1) c.in_ok-config-in-Ok.config
    (record { state_is = omega arith; row_is = omega arith; state_in = omega arith; row_in = omega arith })
    c.in_ok-config-in-Ok.ensures
