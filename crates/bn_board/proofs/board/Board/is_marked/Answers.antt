use Rattle.std.proofs.Common.{◌≡◌, ◌∙◌, length, ap, arith}
use Rattle.std.proofs.lemmas.List.{length-map}
use Rattle.bn_element.specs.Rotary.{rotary}
use Rattle.bn_circuits.specs.declared.config.Config.{Config}
use Rattle.bn_board.proofs.board.Board.is_marked.Goals as goal

pub bar-requires : goal.bar-requires
bar-requires c =
    let b = c.args.self.now in
    let kept = c.packed.ensures.kept in
    let there : length c.packed.result.now.config.states ≡ length b.config.states =
    ap (λ (d : Config). length d.states) c.packed.ensures.config in
    let count : length b.config.states ≡ length b.net.elements =
    kept.reached.good.count ∙ length-map b.net.elements (λ _. rotary) in
    omega (arith, there, count, kept.elements, c.requires)
