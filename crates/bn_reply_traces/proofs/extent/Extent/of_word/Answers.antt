use Rattle.std.proofs.Common.{◌≡◌, pos, rules, w64, to_z}
use Rattle.bn_reply_traces.proofs.ExtentLemmas.{first_of_word, last_of_word}
use Rattle.bn_reply_traces.proofs.extent.Extent.of_word.Goals as goal

pub returns-clause-first : goal.returns-clause-first
returns-clause-first c = λ word is. first_of_word word

pub returns-clause-last : goal.returns-clause-last
returns-clause-last c = λ word is letters.
    let e : to_z w64 c.args.letters ≡ pos c.args.letters = search rules in
    rw (e, is) (last_of_word word letters)
