use Rattle.std.proofs.Common.{length, drop, decimal, ap, sym, ◌∙◌, arith, length-append, length-drop}
use Rattle.std.proofs.lemmas.Fmt.{length-decimal-le}
use Rattle.bn_netlist.proofs.line_buffer.LineBuffer.put_number.Goals as goal

pub write_digits-self-inside-requires : goal.write_digits-self-inside-requires
write_digits-self-inside-requires c =
    let digits = length-decimal-le 20 c.args.number (omega arith) (omega arith) c.ranges.number.fits in
    let stands = ap length (sym c.self.view_is) ∙ length-drop c.self.inside.begin c.self.inside.bytes in
    (omega arith, omega (arith, c.self.invariant))

pub returns-clause-short : goal.returns-clause-short
returns-clause-short c =
    let digits = length-decimal-le 20 c.args.number (omega arith) (omega arith) c.ranges.number.fits in
    let all = ap length c.write_digits-self-inside.ensures.written
    ∙ length-append (decimal c.args.number) (drop c.self.inside.begin c.self.inside.bytes) in
    let stands = ap length (sym c.self.view_is) in
    omega arith
