use Rattle.std.proofs.Common.{◌≡◌, ◌∙◌, List, arith, length, map, replicate, ap, sym, subst}
use Rattle.bn_element.specs.Tables.{Table}
use Rattle.bn_circuits.specs.Faults.{AreFaultless}
use Rattle.bn_element.specs.Rotary.{rotary}
use Rattle.bn_circuits.proofs.WiringsLemmas.{apart-AreFaultless}
use Rattle.bn_circuits.proofs.RotaryNetLemmas.{rotary-tables}
use Rattle.bn_circuits.proofs.rotary.rotary_net.Goals as goal

pub new-requires-clause-faultless : goal.new-requires-clause-faultless
new-requires-clause-faultless c =
    let count : length c.in_ok-elements.elements.items ≡ c.args.count = omega (arith, c.in_ok-elements.ensures.len) in
    let tables : map (λ _. rotary) c.in_ok-elements.elements.items ≡ replicate c.args.count rotary =
    rotary-tables c.in_ok-elements.elements.items ∙ ap (λ n. replicate n rotary) count in
    subst (λ (ts : List Table). AreFaultless ts c.args.wires.now) (sym tables)
    (apart-AreFaultless c.args.count c.args.wires.now c.requires.apart c.requires.fitting)
