use Rattle.std.proofs.Common.{◌≡◌, length}
use Rattle.bn_reply.specs.Codes.{code_of}
use Rattle.bn_reply.specs.declared.status.Status.TheVariants.{WriteFault}
use Rattle.bn_embed.proofs.CallLemmas.{ends_full, ends_whole, longer_where}
use Rattle.bn_embed.specs.Words.{words_of}
use Rattle.bn_embed.proofs.answer.hithwelor_answer.Goals as goal

pub returns-then-lay : goal.returns-then-lay
returns-then-lay c =
    let code : c.from-then-lay.result ≡ code_of c.in-Ok.reply.status = cc in
    ends_whole (words_of c.args.words.now) c.args.input.now c.args.output.now c.lay.new.output
    c.as_slice-text.result.now c.from-then-lay.result
    c.in-Ok.reply c.in-Ok.ensures c.as_slice-text.ensures.value c.lay.ensures.laid (c.lay.ensures.whole.0 c.if-lay.true)
    code

pub returns : goal.returns
returns c =
    let code : c.from-else-lay.result ≡ code_of WriteFault = cc in
    let longer = longer_where c.lay.result (length c.as_slice-text.result.now) (length c.args.output.now)
    c.lay.ensures.whole c.if-lay.false in
    ends_full (words_of c.args.words.now) c.args.input.now c.args.output.now c.lay.new.output c.as_slice-text.result.now
    c.from-else-lay.result
    c.in-Ok.reply c.in-Ok.ensures c.as_slice-text.ensures.value c.lay.ensures.laid longer code
