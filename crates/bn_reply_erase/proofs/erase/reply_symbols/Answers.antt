-- The letters that are told are the joint ones.
use Rattle.bn_reply_erase.proofs.AnswerLemmas.{ending_fits}
use Rattle.bn_reply_erase.proofs.erase.reply_symbols.Goals as goal

pub reply_ended-requires-clause-fits : goal.reply_ended-requires-clause-fits
reply_ended-requires-clause-fits c =
    ending_fits c.args.joined.now c.args.first.now c.args.second.now c.requires.standard c.in-Ok.erasing
    c.in-Ok.ensures.made c.args.symbols.now c.requires.letters c.args.steps
    c.in_ok-ended-in-Ok.ended.steps c.in_ok-ended-in-Ok.ended.ending c.in_ok-ended-in-Ok.ensures
