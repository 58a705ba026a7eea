use Rattle.std.proofs.Common.{◌∙◌, arith, refl}
use Rattle.bn_circuits.proofs.StatesInRange.{all, beyond, miscounted, next}
use Rattle.bn_circuits.proofs.net.Net.accepts_states.Goals as goal

pub loop-index-preserved : goal.loop-index-preserved
loop-index-preserved g c =
    let low = c.loop-index-test.true in
    let same = c.if-states-len.false in
    let count = c.len.ensures ∙ c.self.inside.elements.ok.0 in
    next g.E.Element.table c.self.inside.elements.items c.args.self.now.elements
    (λ i. (c.self.view_is i).elements) c.args.states.now c.loop-index.index c.index.result.now c.states.result
    (omega arith) c.index.ensures c.states.ensures c.if-states-index.false c.loop-index.invariant

pub returns : goal.returns
returns g c = (
  λ _. all g.E.Element.table c.self.inside.elements.items c.args.self.now.elements
      (λ i. (c.self.view_is i).elements) c.args.states.now c.loop-index.index c.len.result c.if-states-len.false
      (c.len.ensures ∙ c.self.inside.elements.ok.0) c.loop-index-test.false c.loop-index.invariant,
  λ _. refl,
)

pub returns-then-states-len : goal.returns-then-states-len
returns-then-states-len g c = (
  λ no. absurd (cc),
  λ are. absurd (miscounted g.E.Element.table c.self.inside.elements.items c.args.self.now.elements
      (λ i. (c.self.view_is i).elements) c.args.states.now c.len.result
      (c.len.ensures ∙ c.self.inside.elements.ok.0) c.if-states-len.true are),
)

pub returns-then-states-index : goal.returns-then-states-index
returns-then-states-index g c = (
  λ no. absurd (cc),
  λ are.
      let low = c.loop-index-test.true in
      let same = c.if-states-len.false in
      let count = c.len.ensures ∙ c.self.inside.elements.ok.0 in
      absurd (beyond g.E.Element.table c.self.inside.elements.items c.args.self.now.elements
      (λ i. (c.self.view_is i).elements) c.args.states.now c.loop-index.index c.index.result.now c.states.result
      (omega arith) c.index.ensures c.states.ensures low c.if-states-index.true are),
)
