use Rattle.bn_words.proofs.NoFormLemmas.{no_drive_steps}
use Rattle.bn_words.proofs.word.drive_steps_of.Goals as goal

pub returns-then-number-gt-MOST_DRIVE_STEPS : goal.returns-then-number-gt-MOST_DRIVE_STEPS
returns-then-number-gt-MOST_DRIVE_STEPS c =
    no_drive_steps c.args.word.now c.in_ok-number.number c.in_ok-number.ensures c.if-number-gt-MOST_DRIVE_STEPS.true
