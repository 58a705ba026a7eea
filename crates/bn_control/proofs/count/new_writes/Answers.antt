use Rattle.std.proofs.Common.{◌+◌, ap, refl, rules, subst}
use Rattle.bn_quad.specs.declared.quad.Act.TheVariants.{Write}
use Rattle.bn_network.specs.Controls.{ControlState}
use Rattle.bn_control.specs.Names.{listed}
use Rattle.bn_control.specs.Shown.{IsCount, IsNew}
use Rattle.bn_control.proofs.ShownLemmas.{writes_count, writes_same}
use Rattle.bn_control.proofs.count.new_writes.Goals as goal

pub returns-clause-new : goal.returns-clause-new
returns-clause-new c =
    let u = listed c.symbols.result in
    let v = listed c.symbols-2.result in
    let w = listed c.symbols-3.result in
    subst (λ (P : ControlState → Type 0). IsCount (IsNew c.args.quads.now c.args.index P)
    (c.new_write.result + c.new_write-2.result + c.new_write-3.result))
    (writes_same c.args.quad.now (Write 0) c.args.quad.now.next c.written-one.result c.written-two.result
    c.written-three.result u v w (search rules) refl c.written-one.ensures c.written-two.ensures
    c.written-three.ensures (ap listed c.symbols.ensures) (ap listed c.symbols-2.ensures)
    (ap listed c.symbols-3.ensures))
    (writes_count c.args.quads.now c.args.index c.args.quad.now.next c.written-one.result c.written-two.result
    c.written-three.result u v w c.new_write.result c.new_write-2.result c.new_write-3.result
    c.new_write.ensures.new c.new_write-2.ensures.new c.new_write-3.ensures.new)
