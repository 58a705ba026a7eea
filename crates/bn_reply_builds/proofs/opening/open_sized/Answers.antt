use Rattle.std.specs.Prelude.{refl}
use Rattle.std.proofs.Common.{subst}
use Rattle.bn_quad.specs.Quadruples.{Quadruples}
use Rattle.bn_qtable.specs.TapeWords.{tape_words_of}
use Rattle.bn_network_assembly.specs.Assembled.{limits_of}
use Rattle.bn_reply_builds.specs.BuildReply.{IsCrowded, IsUncrowded, long, many}
use Rattle.bn_reply_builds.proofs.OpenedLemmas.{sized_opened}
use Rattle.bn_reply_builds.proofs.TableFacts.{inputs_of}
use Rattle.bn_reply_builds.proofs.opening.open_sized.Goals as goal

pub returns-in-Some : goal.returns-in-Some
returns-in-Some c =
    let at = c.in-Some.crowded in
    let told = c.in_ok-too_crowded.ensures in
    let found = subst (λ (q : Quadruples). IsCrowded q at.tape at.symbols) c.machine.ensures.value c.in-Some.ensures
    in
    many at.tape at.symbols found told.text told.status refl

pub returns-in-Some-find_long : goal.returns-in-Some-find_long
returns-in-Some-find_long c =
    let at = c.in-Some-find_long.long in
    let told = c.in_ok-word_too_long.ensures in
    let few = subst IsUncrowded c.machine.ensures.value c.in_default.ensures in
    long few at.tape at.letters c.in-Some-find_long.ensures told.text told.status refl

pub returns : goal.returns
returns c =
    let m = c.args.machine.now in
    let l = limits_of c.args.windows.now in
    let symbols = c.args.symbols.now in
    let few = subst IsUncrowded c.machine.ensures.value c.in_default.ensures in
    let inputs = inputs_of m l symbols.one.now symbols.two.now symbols.three.now c.requires.letters
    c.in_default-find_long.ensures in
    sized_opened (tape_words_of c.args.words.now) m l symbols.one.now symbols.two.now symbols.three.now
    c.requires.machine few inputs c.open_board.result c.open_board.ensures
