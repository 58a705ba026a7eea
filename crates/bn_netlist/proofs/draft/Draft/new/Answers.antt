use Rattle.std.proofs.Common.{arith}
use Rattle.bn_netlist.proofs.draft.Draft.new.Goals as goal

pub new-requires : goal.new-requires
new-requires c = omega (arith, c.requires)

pub returns-clause-drawn : goal.returns-clause-drawn
returns-clause-drawn c = record {
  elements = c.in-Ok.ensures.ends.elements;
  drawn_if = λ apart. c.in-Ok.ensures;
}
