use Rattle.std.proofs.Common.{◌≡◌, ℕ, ap, ◌∙◌, replicate, rules}
use Rattle.bn_packed.specs.Bars.{bars_of}
use Rattle.bn_packed.proofs.BarLemmas.{bars-zero}
use Rattle.bn_packed.proofs.bars.Bars.horizontal.Goals as goal

pub returns : goal.returns
returns c =
    let words : c.in_ok-words.words.items ≡ replicate {A = ℕ} c.div_ceil.result 0 = search rules in
    ap (λ ws. bars_of ws c.args.count) words ∙ bars-zero c.div_ceil.result c.args.count
