use Rattle.std.proofs.Common.{◌≡◌, Some, None, Option, map, IfSome, sym}
use Rattle.bn_circuits.specs.Circuits.{IsOutputOf, source}
use Rattle.bn_circuits.specs.declared.line.Line.{Line}
use Rattle.bn_circuits.proofs.net.Net.line_before.Goals as goal

pub returns-in-Enter-clause-output : goal.returns-in-Enter-clause-output
returns-in-Enter-clause-output g c = by_source c.source.result c.source.ensures.line
  where
    by_source : (o : Option Line) → o ≡ source c.args.self.now.wires
        (record { element = c.in-Enter.element; line = c.in-Enter.line })
        → IfSome o (IsOutputOf (map g.E.Element.table c.args.self.now.elements))
    by_source None is = tt
    by_source (Some from) is =
        let to : Line = record { element = c.in-Enter.element; line = c.in-Enter.line } in
        (c.source.ensures.circuit.wired from to ((c.source.ensures.circuit.one_to_one from to).1 (sym is))).0
