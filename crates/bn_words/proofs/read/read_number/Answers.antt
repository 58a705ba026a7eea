use Rattle.std.proofs.Common.{inl, inr}
use Rattle.bn_words.proofs.NoFormLemmas.{no_increments}
use Rattle.bn_words.proofs.read.read_number.Goals as goal
use Rattle.bn_words.proofs.read.read_number.Goals.{then-number-lt1-via-then-number-lt1}
use Rattle.bn_words.proofs.read.read_number.Goals.{then-number-lt1-via-else-number-lt1+then-number}

pub returns-then-number-lt1 : goal.returns-then-number-lt1
returns-then-number-lt1 c =
    no_increments c.args.name.now c.args.number.now c.in_ok-number.number c.in-generate.is c.in_ok-number.ensures
    (elim c.then-number-lt1.branch [
      | then-number-lt1-via-then-number-lt1 w ↦ inl w.if-number-lt1.true
      | then-number-lt1-via-else-number-lt1+then-number w ↦ inr w.if-number.true
    ])
