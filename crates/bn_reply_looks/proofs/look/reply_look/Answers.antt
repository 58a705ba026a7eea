use Rattle.std.proofs.Common.{[], subst}
use Rattle.bn_network_assembly.specs.Assembled.{limits_of}
use Rattle.bn_network.specs.Starts.{words_on}
use Rattle.bn_qtable.specs.TapeWords.{tape_words_of}
use Rattle.bn_reply_builds.specs.Opened.{IsBuildAsked, IsOpenedBuild}
use Rattle.bn_reply_builds.proofs.OpenedLemmas.{refused_as}
use Rattle.bn_reply_looks.specs.LookReply.{TellsLook}
use Rattle.bn_reply_looks.proofs.BuiltLemmas.{laid_out}
use Rattle.bn_reply_looks.proofs.ReplyLemmas.{asked_names, asked_run, look_replies}
use Rattle.bn_reply_looks.proofs.look.reply_look.Goals as goal

pub build_text-requires-clause-names : goal.build_text-requires-clause-names
build_text-requires-clause-names c =
    let l = limits_of c.args.windows.now in
    let words = tape_words_of c.args.words.now in
    let bytes = c.args.bytes.now in
    let asked : IsBuildAsked words l bytes c.in-Made.machine c.in-Made.names c.in-Made.board =
    subst (IsOpenedBuild words l bytes) c.in-Made.is c.in_ok-reply.ensures in
    asked_names words l bytes c.in-Made.machine c.in-Made.names c.in-Made.board asked

pub build_text-requires-clause-laid : goal.build_text-requires-clause-laid
build_text-requires-clause-laid c =
    let l = limits_of c.args.windows.now in
    let words = tape_words_of c.args.words.now in
    let bytes = c.args.bytes.now in
    let m = c.in-Made.machine in
    let asked : IsBuildAsked words l bytes m c.in-Made.names c.in-Made.board =
    subst (IsOpenedBuild words l bytes) c.in-Made.is c.in_ok-reply.ensures in
    laid_out m asked.build (words_on m asked.one asked.two asked.three) c.run.new.self
    (asked_run words l bytes m c.in-Made.names c.in-Made.board asked c.run.new.self c.run.ensures.same)

pub returns-in-Refused : goal.returns-in-Refused
returns-in-Refused c =
    let l = limits_of c.args.windows.now in
    let words = tape_words_of c.args.words.now in
    let bytes = c.args.bytes.now in
    let reply = c.in-Refused.reply in
    refused_as (λ t one two three. TellsLook c.args.steps t (words_on t.machine one two three)) words l bytes
    reply.status
    reply.text.items [] (subst (IsOpenedBuild words l bytes) c.in-Refused.is c.in_ok-reply.ensures)

pub returns-in_ok-build_text-in-Made : goal.returns-in_ok-build_text-in-Made
returns-in_ok-build_text-in-Made c =
    let l = limits_of c.args.windows.now in
    let words = tape_words_of c.args.words.now in
    let bytes = c.args.bytes.now in
    let asked : IsBuildAsked words l bytes c.in-Made.machine c.in-Made.names c.in-Made.board =
    subst (IsOpenedBuild words l bytes) c.in-Made.is c.in_ok-reply.ensures in
    look_replies words l bytes c.in-Made.machine c.in-Made.names c.in-Made.board asked c.args.steps c.run.new.self
    c.run.ensures.same c.run.ensures.ran.ends c.in_ok-build_text-in-Made.field-0.items
    c.in_ok-build_text-in-Made.ensures.shows
