use Rattle.bn_headline.proofs.WindowClosedLemmas.{ends_inside, findings_told, places_told}
use Rattle.bn_headline.proofs.WindowToldLemmas.{found_of, inside_of, told_of}
use Rattle.bn_headline.proofs.auto.reply_run_auto.Goals as goal

pub returns-clause-found : goal.returns-clause-found
returns-clause-found g c =
    found_of c.args.bytes.now c.args.word.now (g.W.Watch.told c.args.watch.now) (g.W.Watch.told c.answer_auto.new.watch)
    findings_told c.answer_auto.result c.answer_auto.ensures.replied

pub returns-clause-told : goal.returns-clause-told
returns-clause-told g c =
    told_of c.args.bytes.now c.args.word.now (g.W.Watch.told c.args.watch.now) (g.W.Watch.told c.answer_auto.new.watch)
    places_told c.answer_auto.result c.answer_auto.ensures.replied

pub returns-clause-inside : goal.returns-clause-inside
returns-clause-inside g c =
    inside_of c.args.bytes.now c.args.word.now (g.W.Watch.told c.args.watch.now)
    (g.W.Watch.told c.answer_auto.new.watch) ends_inside c.answer_auto.result c.answer_auto.ensures.replied
