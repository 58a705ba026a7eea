use Rattle.std.proofs.Common.{arith}
use Rattle.bn_circuits.specs.declared.net.TheConstants.{MOST_ELEMENTS}
use Rattle.bn_board.proofs.WireLemmas.{own_room}
use Rattle.bn_board.proofs.DrawnLemmas.{bank-AreFitting, bank_drawn}
use Rattle.bn_board.proofs.wiring.draw_bank.Goals as goal

pub bank_wires-requires : goal.bank_wires-requires
bank_wires-requires c = own_room c.args.net.now c.args.bases.now MOST_ELEMENTS c.requires.modules c.requires.few
    c.requires.bases c.args.number
    c.element.result.now c.element.ensures (omega arith)

pub add-requires : goal.add-requires
add-requires c = record {
  fitting = rw c.as_slice.ensures.value (bank-AreFitting c.args.net.now c.args.bases.now MOST_ELEMENTS
      c.requires.modules c.requires.few c.requires.bases
      c.args.number c.element.result.now c.args.draft.now c.in_ok-own.own.items c.element.ensures c.requires.earlier
      c.in_ok-own.ensures.wires);
}

pub returns : goal.returns
returns c =
    bank_drawn c.args.net.now c.args.bases.now MOST_ELEMENTS c.requires.modules c.requires.few c.requires.bases
    c.args.number
    c.element.result.now c.args.draft.now c.add.new.self c.in_ok-own.own.items c.element.ensures c.requires.earlier
    c.in_ok-own.ensures.wires
    (rw c.as_slice.ensures.value at c.add.ensures.drawn)
