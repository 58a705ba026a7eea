use Rattle.std.proofs.Common.{◌≡◌, ◌++◌, ◌∷◌, [], ◌∙◌, arith, rules}
use Rattle.std.proofs.lemmas.List.{take_all}
use Rattle.bn_packed.proofs.BarLemmas.{count-bars, state-pushed}
use Rattle.bn_packed.proofs.bars.Bars.to_states.Goals as goal

pub get-requires : goal.get-requires
get-requires c =
    omega (
      arith,
      c.loop-element-test.true,
      count-bars c.self.inside.words.items c.args.self.now c.self.inside.count c.self.view_is,
    )

pub loop-element-preserved : goal.loop-element-preserved
loop-element-preserved c =
    let pushed : c.push.new.self.items ≡ c.loop-element.states.items ++ c.get.result ∷ [] = search rules in
    state-pushed c.args.self.now c.loop-element.states.items c.push.new.self.items c.loop-element.element c.get.result
    c.loop-element.invariant
    c.get.ensures.bar pushed

pub returns : goal.returns
returns c =
    c.loop-element.invariant ∙ take_all c.loop-element.element c.args.self.now
    (omega (
      arith,
      c.loop-element-test.false,
      count-bars c.self.inside.words.items c.args.self.now c.self.inside.count c.self.view_is,
    ))
