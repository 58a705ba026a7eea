use Rattle.std.proofs.Common.{[], map, Global, refl, subst}
use Rattle.std.specs.String.{string_bytes}
use Rattle.bn_words.specs.Requests.{HasForm, Element, Generate, of_configuration, of_whole, request_of}
use Rattle.bn_reply.proofs.ReplyLemmas.{given_ends, silent_ends}
use Rattle.bn_top.specs.Answers.{Replies}
use Rattle.bn_top.proofs.CallLemmas.{inputless_call, needs_some, stream_call, usage_ends}
use Rattle.bn_top.proofs.Commands.{configuration_reads, whole_reads}
use Rattle.bn_top.proofs.answering.answer_words.Goals as goal

pub returns-in-Some-OnConfiguration-clause-ends : goal.returns-in-Some-OnConfiguration-clause-ends
returns-in-Some-OnConfiguration-clause-ends g c =
    let words = map (string_bytes {Z = Global}) c.args.words.now in
    let asked = c.in-Some-OnConfiguration.asked in
    let form = subst (λ r. HasForm words (request_of r)) c.in-Some-OnConfiguration.field-0-is
    c.in-Some-OnConfiguration.ensures in
    stream_call words (of_configuration asked) form (configuration_reads asked) c.answer_configuration.result _ _
    c.answer_configuration.ensures.ends

pub returns-in-Some-OnConfiguration-clause-unread : goal.returns-in-Some-OnConfiguration-clause-unread
returns-in-Some-OnConfiguration-clause-unread g c = λ needs.
    let words = map (string_bytes {Z = Global}) c.args.words.now in
    let asked = c.in-Some-OnConfiguration.asked in
    let form = subst (λ r. HasForm words (request_of r)) c.in-Some-OnConfiguration.field-0-is
    c.in-Some-OnConfiguration.ensures in
    absurd (needs_some words (of_configuration asked) form (configuration_reads asked) needs)

pub returns-in-Some-OnWhole-clause-ends : goal.returns-in-Some-OnWhole-clause-ends
returns-in-Some-OnWhole-clause-ends g c =
    let words = map (string_bytes {Z = Global}) c.args.words.now in
    let asked = c.in-Some-OnWhole.asked in
    let form = subst (λ r. HasForm words (request_of r)) c.in-Some-OnWhole.field-0-is c.in-Some-OnWhole.ensures in
    stream_call words (of_whole asked) form (whole_reads asked) c.answer_whole.result _ _ c.answer_whole.ensures.ends

pub returns-in-Some-OnWhole-clause-unread : goal.returns-in-Some-OnWhole-clause-unread
returns-in-Some-OnWhole-clause-unread g c = λ needs.
    let words = map (string_bytes {Z = Global}) c.args.words.now in
    let asked = c.in-Some-OnWhole.asked in
    let form = subst (λ r. HasForm words (request_of r)) c.in-Some-OnWhole.field-0-is c.in-Some-OnWhole.ensures in
    absurd (needs_some words (of_whole asked) form (whole_reads asked) needs)

pub answer_whole-requires : goal.answer_whole-requires
answer_whole-requires g c =
    let words = map (string_bytes {Z = Global}) c.args.words.now in
    let form = subst (λ r. HasForm words (request_of r)) c.in-Some-OnWhole.field-0-is c.in-Some-OnWhole.ensures in
    form.allowed

pub reply_generate-requires : goal.reply_generate-requires
reply_generate-requires g c =
    let words = map (string_bytes {Z = Global}) c.args.words.now in
    let form = subst (λ r. HasForm words (request_of r)) c.in-Some-Generate.field-0-is c.in-Some-Generate.ensures in
    form.allowed

pub returns-in-Some-Generate-clause-ends : goal.returns-in-Some-Generate-clause-ends
returns-in-Some-Generate-clause-ends g c =
    let words = map (string_bytes {Z = Global}) c.args.words.now in
    let form = subst (λ r. HasForm words (request_of r)) c.in-Some-Generate.field-0-is c.in-Some-Generate.ensures in
    let k = c.in-Some-Generate.increments in
    let taken = g.K.Sink.taken c.args.sink.now in
    let took = g.K.Sink.taken c.give_reply.new.sink in
    let told = g.W.Watch.told c.args.watch.now in
    let heard = g.W.Watch.told c.reply_generate.new.watch in
    let before = g.K.Sink.faults c.args.sink.now in
    let now = g.K.Sink.faults c.give_reply.new.sink in
    let ends = given_ends (Replies (Generate k) []) c.reply_generate.result c.give_reply.result taken took before now
    told heard
    c.reply_generate.ensures.replied c.reply_generate.ensures.interrupted c.give_reply.ensures.ends in
    inputless_call words (Generate k) form refl c.give_reply.result (g.I.Input.left c.args.input.now) taken took told
    heard
    (g.I.Input.faults c.args.input.now) before now ends c.give_reply.ensures.later

pub reply_element-requires : goal.reply_element-requires
reply_element-requires g c =
    let words = map (string_bytes {Z = Global}) c.args.words.now in
    let form = subst (λ r. HasForm words (request_of r)) c.in-Some-Element.field-0-is c.in-Some-Element.ensures in
    form.allowed.0

pub returns-in-Some-Element-clause-ends : goal.returns-in-Some-Element-clause-ends
returns-in-Some-Element-clause-ends g c =
    let words = map (string_bytes {Z = Global}) c.args.words.now in
    let form = subst (λ r. HasForm words (request_of r)) c.in-Some-Element.field-0-is c.in-Some-Element.ensures in
    let asked = Element c.in-Some-Element.lines c.in-Some-Element.number in
    let given = c.give_reply-in-Some-Element in
    let taken = g.K.Sink.taken c.args.sink.now in
    let took = g.K.Sink.taken given.new.sink in
    let told = g.W.Watch.told c.args.watch.now in
    let before = g.K.Sink.faults c.args.sink.now in
    let now = g.K.Sink.faults given.new.sink in
    let ends = silent_ends (Replies asked []) c.reply_element.result given.result taken took before now told
    c.reply_element.ensures given.ensures.ends in
    inputless_call words asked form refl given.result (g.I.Input.left c.args.input.now) taken took told told
    (g.I.Input.faults c.args.input.now) before now ends given.ensures.later

pub returns-in-None-clause-ends : goal.returns-in-None-clause-ends
returns-in-None-clause-ends g c =
    usage_ends (map (string_bytes {Z = Global}) c.args.words.now) c.in-None.ensures c.finish.result
    (g.I.Input.left c.args.input.now)
    (g.K.Sink.taken c.args.sink.now) (g.K.Sink.taken c.finish.new.sink) (g.W.Watch.told c.args.watch.now)
    (g.I.Input.faults c.args.input.now) (g.K.Sink.faults c.args.sink.now) (g.K.Sink.faults c.finish.new.sink)
    c.finish.ensures.ends c.finish.ensures.later
