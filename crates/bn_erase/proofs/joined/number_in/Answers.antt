-- The letter's place in the list.
use Rattle.std.proofs.Common.{sym}
use Rattle.bn_erase.proofs.LetterLemmas.{number_found, number_missing}
use Rattle.bn_erase.proofs.joined.number_in.Goals as goal

pub returns-in-Some : goal.returns-in-Some
returns-in-Some c = number_found c.args.letters.now c.args.letter c.in-Some.number (sym c.in-Some.ensures.place)

pub returns-in-None : goal.returns-in-None
returns-in-None c = number_missing c.args.letters.now c.args.letter (sym c.in-None.ensures.place)
