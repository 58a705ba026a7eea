use Rattle.std.proofs.Common.{◌<◌, arith, sym, ap, subst, length}
use Rattle.bn_packed.proofs.BarLemmas.{length-bars, word-within, read-bar-by}
use Rattle.bn_packed.proofs.bars.Bars.get.Goals as goal

pub index-requires : goal.index-requires
index-requires c =
    let there : c.args.element < c.self.inside.count = omega (
      arith,
      length-bars c.self.inside.words.items c.self.inside.count,
      ap length c.self.view_is,
    ) in
    let within : c.word_of.result < length c.self.inside.words.items =
    subst (λ m. m < length c.self.inside.words.items) (sym c.word_of.ensures)
    (word-within c.self.inside.words.items c.self.inside.count c.args.element c.self.invariant there) in
    omega (arith, within)

pub returns-clause-bar : goal.returns-clause-bar
returns-clause-bar c =
    read-bar-by c.self.inside.words.items c.args.self.now c.self.inside.count c.args.element c.word_of.result
    c.index.result.now c.self.view_is
    c.self.invariant c.requires c.word_of.ensures c.index.ensures
