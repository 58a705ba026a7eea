use Rattle.std.proofs.Common.{subst}
use Rattle.bn_reply.specs.Opened.{IsOpenedTable}
use Rattle.bn_reply_erase.proofs.OpenedLemmas.{second_opened}
use Rattle.bn_reply_erase.proofs.pair.open_tables.Goals as goal

pub returns-in-Read : goal.returns-in-Read
returns-in-Read c =
    let reads = subst (IsOpenedTable c.args.first.now) c.in-Read.is c.in_ok-reply.ensures in
    second_opened c.args.first.now c.args.second.now c.in-Read.first c.open_second.result reads c.open_second.ensures
