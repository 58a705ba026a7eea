-- One letter after another.
use Rattle.std.proofs.Common.{◌≡◌, ◌∙◌, ◌++◌, ◌-◌, ap, arith}
use Rattle.bn_standardise.specs.Rules.{back_over_all}
use Rattle.bn_standardise.proofs.ListingLemmas.{back_more, back_none}
use Rattle.bn_standardise.proofs.listing.add_back.Goals as goal

pub loop-letter-init : goal.loop-letter-init
loop-letter-init c = back_none c.args.list.now.items c.args.halt

pub loop-letter-preserved : goal.loop-letter-preserved
loop-letter-preserved c =
    back_more c.args.list.now.items c.loop-letter.list.items c.push.new.self.items c.args.halt c.loop-letter.letter
    c.back_over.result c.loop-letter.auto.letter c.loop-letter.invariant
    c.back_over.ensures c.in_ok-push.ensures.items

pub returns : goal.returns
returns c =
    let end : c.loop-letter.letter ≡ c.args.symbols = omega (arith, c.requires, c.loop-letter.auto.letter-end) in
    c.loop-letter.invariant ∙ ap (λ k. c.args.list.now.items ++ back_over_all c.args.halt 1 (k - 1)) end
