use Rattle.std.specs.Prelude.{[]}
use Rattle.std.proofs.Common.{subst}
use Rattle.bn_qtable.specs.Rows.{table_of}
use Rattle.bn_qtable.specs.TapeWords.{tape_words_of}
use Rattle.bn_network_assembly.specs.Assembled.{limits_of}
use Rattle.bn_reply_machines.specs.Opened.{AreSpelledWords, IsOpenedUniform}
use Rattle.bn_reply_machines.proofs.AlphabetLemmas.{read_alphabets}
use Rattle.bn_reply_machines.proofs.UniformLemmas.{uniform_refused}
use Rattle.bn_reply_builds.specs.Opened.{IsOpenedSized}
use Rattle.bn_reply_builds.proofs.OpenedLemmas.{NoneTold, named_slices, sized_asked, sized_refused, words_refused}
use Rattle.bn_reply_builds.proofs.TableFacts.{buildable}
use Rattle.bn_reply_builds.proofs.opening.open_build.Goals as goal

pub returns-in-Refused : goal.returns-in-Refused
returns-in-Refused c =
    let words = tape_words_of c.args.words.now in
    let l = limits_of c.args.windows.now in
    let bytes = c.args.bytes.now in
    let reply = c.in-Refused.reply in
    uniform_refused (NoneTold words l) bytes reply.status reply.text.items []
    (subst (IsOpenedUniform bytes) c.in-Refused.is c.in_ok-reply.ensures)

pub spell_words-requires-clause-alphabets : goal.spell_words-requires-clause-alphabets
spell_words-requires-clause-alphabets c =
    let t = table_of c.in-Read.machine c.in-Read.names in
    let read = subst (IsOpenedUniform c.args.bytes.now) c.in-Read.is c.in_ok-reply.ensures in
    read_alphabets c.args.bytes.now t read.0

pub returns-in-Refused-2 : goal.returns-in-Refused-2
returns-in-Refused-2 c =
    let words = tape_words_of c.args.words.now in
    let l = limits_of c.args.windows.now in
    let bytes = c.args.bytes.now in
    let t = table_of c.in-Read.machine c.in-Read.names in
    let read = subst (IsOpenedUniform bytes) c.in-Read.is c.in_ok-reply.ensures in
    let reply = c.in-Refused-2.reply in
    words_refused words l bytes t read.0 read.1 reply.status reply.text.items
    (subst (AreSpelledWords words t.names) c.in-Refused-2.is c.in_ok-reply-2.ensures)

pub open_sized-requires-clause-machine : goal.open_sized-requires-clause-machine
open_sized-requires-clause-machine c =
    let t = table_of c.in-Read.machine c.in-Read.names in
    let read = subst (IsOpenedUniform c.args.bytes.now) c.in-Read.is c.in_ok-reply.ensures in
    buildable c.args.bytes.now t read.0 read.1

pub returns-in-Refused-3 : goal.returns-in-Refused-3
returns-in-Refused-3 c =
    let words = tape_words_of c.args.words.now in
    let l = limits_of c.args.windows.now in
    let bytes = c.args.bytes.now in
    let t = table_of c.in-Read.machine c.in-Read.names in
    let read = subst (IsOpenedUniform bytes) c.in-Read.is c.in_ok-reply.ensures in
    let spelled = subst (AreSpelledWords words t.names) c.in-Symbols.is c.in_ok-reply-2.ensures in
    let one = c.as_slice.result.now in
    let two = c.as_slice-2.result.now in
    let three = c.as_slice-3.result.now in
    let named = named_slices words t.names c.in-Symbols.one.items c.in-Symbols.two.items c.in-Symbols.three.items one
    two three c.as_slice.ensures.value c.as_slice-2.ensures.value c.as_slice-3.ensures.value spelled in
    let reply = c.in-Refused-3.reply in
    sized_refused words l bytes t read.0 read.1 one two three named reply.status reply.text.items
    (subst (IsOpenedSized words t.machine l one two three) c.in-Refused-3.is c.in_ok-reply-3.ensures)

pub returns-in-Made : goal.returns-in-Made
returns-in-Made c =
    let words = tape_words_of c.args.words.now in
    let l = limits_of c.args.windows.now in
    let bytes = c.args.bytes.now in
    let t = table_of c.in-Read.machine c.in-Read.names in
    let read = subst (IsOpenedUniform bytes) c.in-Read.is c.in_ok-reply.ensures in
    let spelled = subst (AreSpelledWords words t.names) c.in-Symbols.is c.in_ok-reply-2.ensures in
    let one = c.as_slice.result.now in
    let two = c.as_slice-2.result.now in
    let three = c.as_slice-3.result.now in
    let named = named_slices words t.names c.in-Symbols.one.items c.in-Symbols.two.items c.in-Symbols.three.items one
    two three c.as_slice.ensures.value c.as_slice-2.ensures.value c.as_slice-3.ensures.value spelled in
    sized_asked words l bytes t read.0 read.1 (buildable bytes t read.0 read.1) one two three named c.in-Made.board
    (subst (IsOpenedSized words t.machine l one two three) c.in-Made.is c.in_ok-reply-3.ensures)
