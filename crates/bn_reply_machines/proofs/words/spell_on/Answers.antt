use Rattle.std.specs.Prelude.{ℕ, List, refl}
use Rattle.std.proofs.Common.{subst}
use Rattle.bn_quad.specs.Names.{symbols_on}
use Rattle.bn_qtable.specs.TapeWords.{names_of_word, tape_word_of}
use Rattle.bn_reply_machines.specs.NamedWords.{IsFirstUnnamed}
use Rattle.bn_reply_machines.specs.Opened.{IsNaming}
use Rattle.bn_reply_machines.specs.WordsReply.{unnamed}
use Rattle.bn_reply_machines.proofs.words.spell_on.Goals as goal

pub returns-in_ok-unnamed-in-Foreign : goal.returns-in_ok-unnamed-in-Foreign
returns-in_ok-unnamed-in-Foreign c =
    let place = c.in-Foreign.place in
    let word = names_of_word (tape_word_of c.word_on.result) in
    let told = c.in_ok-unnamed-in-Foreign.ensures in
    let first : IsFirstUnnamed c.of.result word place =
    subst (IsNaming c.of.result word) c.in-Foreign.is c.in_ok-symbols.ensures in
    unnamed place
    (subst (λ (w : List (List ℕ)). IsFirstUnnamed (symbols_on c.args.names.now c.args.tape) w place) c.word_on.ensures
    (subst (λ (names : List (List ℕ)). IsFirstUnnamed names word place) c.of.ensures first)) told.text told.status refl
