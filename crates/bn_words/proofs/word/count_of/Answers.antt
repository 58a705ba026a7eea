use Rattle.bn_words.proofs.NoFormLemmas.{no_count}
use Rattle.bn_words.proofs.word.count_of.Goals as goal

pub returns-then-number-gt-MOST_COUNT : goal.returns-then-number-gt-MOST_COUNT
returns-then-number-gt-MOST_COUNT c = no_count c.args.word.now c.in_ok-number.number c.in_ok-number.ensures
    c.if-number-gt-MOST_COUNT.true
