use Rattle.std.proofs.Common.{◌+◌, ◌*◌, ◌∙◌, refl, sym, subst}
use Rattle.bn_rsm.specs.Machines.{machine_table, machine_table-IsReversible}
use Rattle.bn_circuits.specs.Wirings.{AreFitting}
use Rattle.bn_circuits.specs.RotaryNets.{IsNetOf}
use Rattle.bn_realise.specs.BankNets.{IsBankOf}
use Rattle.bn_realise.proofs.WireLemmas.{bank-AreFitting, net-IsBankNet}
use Rattle.bn_realise.proofs.make.bank.Goals as goal

pub rotary_net-requires-clause-fitting : goal.rotary_net-requires-clause-fitting
rotary_net-requires-clause-fitting c =
    subst (AreFitting (c.from.result * (c.from-2.result + 1))) (sym c.as_slice.ensures.value)
    (bank-AreFitting (machine_table c.args.rsm.now) c.from.result c.from-2.result c.in_ok-wires.wires.items
    (machine_table-IsReversible c.args.rsm.now) refl (c.from.ensures ∙ c.states-states.ensures)
    (c.from-2.ensures ∙ c.lines_in-lines.ensures) c.in_ok-wires.ensures.wires)

pub of-requires-clause-some_bank : goal.of-requires-clause-some_bank
of-requires-clause-some_bank c =
    let is = subst (IsNetOf c.in-Ok.net (c.from.result * (c.from-2.result + 1))) c.as_slice.ensures.value
    c.in-Ok.ensures.net in
    let made : IsBankOf (record { net = c.in-Ok.net; states = c.states-states.result; lines = c.lines_in-lines.result })
    (machine_table c.args.rsm.now) =
    record {
      states = c.states-states.ensures;
      lines = c.lines_in-lines.ensures;
      net = net-IsBankNet c.in-Ok.net (machine_table c.args.rsm.now) c.from.result c.from-2.result
          c.in_ok-wires.wires.items (c.from.ensures ∙ c.states-states.ensures)
          (c.from-2.ensures ∙ c.lines_in-lines.ensures) c.in_ok-wires.ensures.wires is;
    } in
    record {
      table = machine_table c.args.rsm.now;
      reversible = machine_table-IsReversible c.args.rsm.now;
      square = refl;
      is_bank = made;
    }

pub returns-clause-made : goal.returns-clause-made
returns-clause-made c =
    let is = subst (IsNetOf c.in-Ok.net (c.from.result * (c.from-2.result + 1))) c.as_slice.ensures.value
    c.in-Ok.ensures.net in
    let made : IsBankOf (record { net = c.in-Ok.net; states = c.states-states.result; lines = c.lines_in-lines.result })
    (machine_table c.args.rsm.now) =
    record {
      states = c.states-states.ensures;
      lines = c.lines_in-lines.ensures;
      net = net-IsBankNet c.in-Ok.net (machine_table c.args.rsm.now) c.from.result c.from-2.result
          c.in_ok-wires.wires.items (c.from.ensures ∙ c.states-states.ensures)
          (c.from-2.ensures ∙ c.lines_in-lines.ensures) c.in_ok-wires.ensures.wires is;
    } in
    subst (λ v. IsBankOf v (machine_table c.args.rsm.now)) (sym c.of.ensures) made
