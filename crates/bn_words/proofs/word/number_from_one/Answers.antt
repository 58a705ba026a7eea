use Rattle.std.proofs.Common.{inl, inr}
use Rattle.bn_words.proofs.NoFormLemmas.{no_number_from_one}
use Rattle.bn_words.proofs.word.number_from_one.Goals as goal
use Rattle.bn_words.proofs.word.number_from_one.Goals.{then-number-lt1-via-then-number-lt1}
use Rattle.bn_words.proofs.word.number_from_one.Goals.{then-number-lt1-via-else-number-lt1+then-number-most}

pub returns-then-number-lt1 : goal.returns-then-number-lt1
returns-then-number-lt1 c =
    no_number_from_one c.args.most c.args.word.now c.in_ok-number.number c.requires c.in_ok-number.ensures
    (elim c.then-number-lt1.branch [
      | then-number-lt1-via-then-number-lt1 w ↦ inl w.if-number-lt1.true
      | then-number-lt1-via-else-number-lt1+then-number-most w ↦ inr w.if-number-most.true
    ])
