-- The letters so far stand behind the head, and the window has room for so many only.
use Rattle.std.proofs.Common.{◌-◌}
use Rattle.bn_reply_windows.proofs.LetterLemmas.{HasRead}
use Rattle.bn_reply_windows.proofs.window_run.letters_right.Given as goal

abbrev pub invariant-loop-letters : goal.invariant-loop-letters
invariant-loop-letters l = HasRead l.tape l.letters

abbrev pub decreases-loop-letters : goal.decreases-loop-letters
decreases-loop-letters l = 4194305 - l.letters
