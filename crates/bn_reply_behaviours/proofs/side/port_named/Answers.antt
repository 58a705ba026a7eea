use Rattle.std.proofs.Common.{arith, sym}
use Rattle.bn_reply_behaviours.proofs.ReadingLemmas.{free_port, none_free, none_high, none_written, written_four}
use Rattle.bn_reply_behaviours.proofs.ReadingLemmas.{written_is}
use Rattle.bn_reply_behaviours.proofs.side.port_named.Goals as goal

pub returns-in_default : goal.returns-in_default
returns-in_default c = none_written c.args.net.now.elements c.args.net.now.wires c.requires c.args.side c.args.name.now
    (sym c.in_default.ensures)

pub returns-then-element-from : goal.returns-then-element-from
returns-then-element-from c = none_high c.args.net.now.elements c.args.net.now.wires c.requires c.args.side
    c.args.name.now (c.in-Some.element, c.in-Some.line) (sym c.in-Some.ensures)
    (omega (arith, c.if-element-from.true, c.len.ensures.number))

pub end_at-requires-clause-line : goal.end_at-requires-clause-line
end_at-requires-clause-line c = written_four c.args.net.now.elements c.args.net.now.wires c.requires c.args.side
    c.args.name.now (c.in-Some.element, c.in-Some.line) (sym c.in-Some.ensures)

pub returns-in-None : goal.returns-in-None
returns-in-None c = (
  free_port c.args.net.now.elements c.args.net.now.wires c.args.side
      (record { element = c.in-Some.element; line = c.in-Some.line })
      (omega (arith, c.if-element-from.false, c.len.ensures.number))
      (written_four c.args.net.now.elements c.args.net.now.wires c.requires c.args.side
      c.args.name.now (c.in-Some.element, c.in-Some.line) (sym c.in-Some.ensures)) (sym c.in-None.ensures),
  written_is c.args.net.now.elements c.args.net.now.wires c.requires c.args.side
      c.args.name.now (c.in-Some.element, c.in-Some.line) (sym c.in-Some.ensures),
)

pub returns-in-Some-end_at : goal.returns-in-Some-end_at
returns-in-Some-end_at c = none_free c.args.net.now.elements c.args.net.now.wires c.requires c.args.side
    c.args.name.now (c.in-Some.element, c.in-Some.line) (sym c.in-Some.ensures) c.in-Some-end_at.field-0
    (sym c.in-Some-end_at.ensures)
