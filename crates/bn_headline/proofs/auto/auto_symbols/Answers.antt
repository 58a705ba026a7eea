use Rattle.std.proofs.Common.{◌≤◌, length, arith}
use Rattle.bn_base.specs.declared.limits.TheConstants.{MOST_COUNT}
use Rattle.bn_reply_boards.proofs.AnsweredLemmas.{answered_as}
use Rattle.bn_headline.specs.AutoReply.{FindReplies, SearchReplies, searched}
use Rattle.bn_headline.proofs.auto.auto_symbols.Goals as goal

pub run_rounds-requires-clause-given : goal.run_rounds-requires-clause-given
run_rounds-requires-clause-given g c =
    let few : length c.args.symbols.now ≤ MOST_COUNT = search (arith, c.if-letters-gt-MOST_COUNT.false) in
    let asked = c.requires.2 in
    record {
      bytes = c.requires.0;
      letters = c.requires.1;
      given = record { reads = asked.reads; spelled = asked.spelled; few = few };
    }

pub run_rounds-requires-clause-ready : goal.run_rounds-requires-clause-ready
run_rounds-requires-clause-ready g c =
    let asked = c.requires.2 in
    record { translates = asked.translates; within = asked.within; word = asked.is_word }

pub returns : goal.returns
returns g c =
    let few : length c.args.symbols.now ≤ MOST_COUNT = search (arith, c.if-letters-gt-MOST_COUNT.false) in
    answered_as (SearchReplies c.args.table.now c.args.symbols.now) (FindReplies c.args.table.now c.args.symbols.now)
    (λ s text told h. searched few h) c.run_rounds.result (g.W.Watch.told c.args.watch.now)
    (g.W.Watch.told c.run_rounds.new.watch) c.run_rounds.ensures
