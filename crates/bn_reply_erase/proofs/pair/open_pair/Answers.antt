use Rattle.bn_reply_erase.proofs.OpenedLemmas.{cut_opened}
use Rattle.bn_reply_erase.proofs.pair.open_pair.Goals as goal

pub returns-in-Some : goal.returns-in-Some
returns-in-Some c = cut_opened c.args.bytes.now c.in-Some.first.now c.in-Some.second.now c.open_tables.result
    c.in-Some.ensures c.open_tables.ensures
