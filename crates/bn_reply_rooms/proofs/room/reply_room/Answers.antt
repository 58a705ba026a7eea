use Rattle.std.specs.Prelude.{IfOk, []}
use Rattle.std.proofs.Common.{subst}
use Rattle.bn_quad.specs.Quadruples.{Quadruples}
use Rattle.bn_qtable.specs.Rows.{table_of}
use Rattle.bn_qtable.specs.TapeWords.{tape_words_of}
use Rattle.bn_reply_machines.specs.Opened.{AreSpelledWords, IsOpenedUniform}
use Rattle.bn_reply_machines.proofs.AlphabetLemmas.{read_alphabets}
use Rattle.bn_reply_machines.proofs.UniformLemmas.{uniform_refused}
use Rattle.bn_reply_rooms.specs.RoomReply.{TellsRoom, UncrowdedReplies}
use Rattle.bn_reply_rooms.proofs.RoomLemmas.{Told, named_slices, words_answered, words_refused}
use Rattle.bn_reply_rooms.proofs.room.reply_room.Goals as goal

pub returns-in-Refused : goal.returns-in-Refused
returns-in-Refused c =
    let words = tape_words_of c.args.words.now in
    let bytes = c.args.bytes.now in
    let reply = c.in-Refused.reply in
    uniform_refused (Told words c.args.most_steps) bytes reply.status reply.text.items []
    (subst (IsOpenedUniform bytes) c.in-Refused.is c.in_ok-reply.ensures)

pub spell_words-requires-clause-alphabets : goal.spell_words-requires-clause-alphabets
spell_words-requires-clause-alphabets c =
    let t = table_of c.in-Read.machine c.in-Read.names in
    let read = subst (IsOpenedUniform c.args.bytes.now) c.in-Read.is c.in_ok-reply.ensures in
    read_alphabets c.args.bytes.now t read.0

pub returns-in-Refused-2 : goal.returns-in-Refused-2
returns-in-Refused-2 c =
    let words = tape_words_of c.args.words.now in
    let bytes = c.args.bytes.now in
    let t = table_of c.in-Read.machine c.in-Read.names in
    let read = subst (IsOpenedUniform bytes) c.in-Read.is c.in_ok-reply.ensures in
    let reply = c.in-Refused-2.reply in
    words_refused words c.args.most_steps bytes t read.0 read.1 reply.status reply.text.items
    (subst (AreSpelledWords words t.names) c.in-Refused-2.is c.in_ok-reply-2.ensures)

pub returns : goal.returns
returns c =
    let words = tape_words_of c.args.words.now in
    let n = c.args.most_steps in
    let bytes = c.args.bytes.now in
    let t = table_of c.in-Read.machine c.in-Read.names in
    let read = subst (IsOpenedUniform bytes) c.in-Read.is c.in_ok-reply.ensures in
    let spelled = subst (AreSpelledWords words t.names) c.in-Symbols.is c.in_ok-reply-2.ensures in
    let one = c.as_slice.result.now in
    let two = c.as_slice-2.result.now in
    let three = c.as_slice-3.result.now in
    let named = named_slices words t.names c.in-Symbols.one.items c.in-Symbols.two.items c.in-Symbols.three.items one
    two three c.as_slice.ensures.value c.as_slice-2.ensures.value c.as_slice-3.ensures.value spelled in
    words_answered words n bytes t read.0 read.1 one two three named c.room_of_words.result
    (subst (λ (m : Quadruples). IfOk c.room_of_words.result
    (λ r. UncrowdedReplies (TellsRoom m n one two three) m r.status r.text.items [])) c.machine-3.ensures.value
    c.room_of_words.ensures)
