use Rattle.std.specs.Prelude.{[]}
use Rattle.std.proofs.Common.{subst}
use Rattle.bn_qtable.specs.TapeWords.{names_on, tape_words_of}
use Rattle.bn_reply_machines.specs.Opened.{IsSpelledWord}
use Rattle.bn_reply_machines.specs.WordsReply.{named, unnamed_line}
use Rattle.bn_reply_machines.proofs.WordsLemmas.{named_as}
use Rattle.bn_reply_machines.proofs.words.spell_words.Goals as goal

pub returns-in-Refused : goal.returns-in-Refused
returns-in-Refused c =
    let words = tape_words_of c.args.words.now in
    let names = c.args.names.now in
    let reply = c.in-Refused.reply in
    named_as (unnamed_line words 1) _ _ names.one (names_on words 1) reply.status reply.text.items []
    (λ one none. absurd none)
    (subst (IsSpelledWord (unnamed_line words 1) names.one (names_on words 1)) c.in-Refused.is c.in_ok-reply.ensures)

pub returns-in-Refused-2 : goal.returns-in-Refused-2
returns-in-Refused-2 c =
    let words = tape_words_of c.args.words.now in
    let names = c.args.names.now in
    let reply = c.in-Refused-2.reply in
    let one = subst (IsSpelledWord (unnamed_line words 1) names.one (names_on words 1)) c.in-Symbols.is
    c.in_ok-reply.ensures in
    named c.in-Symbols.symbols.items one
    (named_as (unnamed_line words 2) _ _ names.two (names_on words 2) reply.status reply.text.items []
    (λ two none. absurd none)
    (subst (IsSpelledWord (unnamed_line words 2) names.two (names_on words 2)) c.in-Refused-2.is
    c.in_ok-reply-2.ensures))

pub returns-in-Refused-3 : goal.returns-in-Refused-3
returns-in-Refused-3 c =
    let words = tape_words_of c.args.words.now in
    let names = c.args.names.now in
    let reply = c.in-Refused-3.reply in
    let one = subst (IsSpelledWord (unnamed_line words 1) names.one (names_on words 1)) c.in-Symbols.is
    c.in_ok-reply.ensures in
    let two = subst (IsSpelledWord (unnamed_line words 2) names.two (names_on words 2)) c.in-Symbols-2.is
    c.in_ok-reply-2.ensures in
    named c.in-Symbols.symbols.items one (named c.in-Symbols-2.symbols.items two
    (named_as (unnamed_line words 3) _ _ names.three (names_on words 3) reply.status reply.text.items []
    (λ three none. absurd none)
    (subst (IsSpelledWord (unnamed_line words 3) names.three (names_on words 3)) c.in-Refused-3.is
    c.in_ok-reply-3.ensures)))
