use Rattle.std.proofs.Common.{◌<◌, arith, ap, ◌∙◌}
use Rattle.std.proofs.lemmas.Iterator.Consumers.{YieldsList-end}
use Rattle.std.proofs.lemmas.Iterator.Splits.{YieldsList-from_str_split}
use Rattle.std.specs.Str.Iter.{split_has_more, split_pattern, split_text}
use Rattle.bn_embed.proofs.split.split_text.Goals as goal

pub returns : goal.returns
returns c =
    let low : 0 < 128 = omega arith in
    let same = c.into_iter-word-iterator.ensures.into_iter_gives in
    let parts = c.split-word-items.ensures in
    let all = YieldsList-from_str_split {s = c.into_iter-word-iterator.result} 0 c.args.text.now low
    (ap (λ s. split_text s) same ∙ parts.text) (ap (λ s. split_has_more s) same ∙ parts.has_more)
    (ap (λ s. split_pattern s) same ∙ parts.pattern) in
    let ends = YieldsList-end all c.loop-word.yielded _ c.loop-word.yielded_by _ _ c.in-None.is c.next.ensures.steps in
    c.loop-word.invariant ∙ ends.0
