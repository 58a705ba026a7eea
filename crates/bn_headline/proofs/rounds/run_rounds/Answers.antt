use Rattle.std.proofs.Common.{List, arith, subst}
use Rattle.std.proofs.lemmas.Result.{err_from_is_err_and}
use Rattle.bn_circuits.specs.declared.place.Place.{Place}
use Rattle.bn_circuits.specs.Watching.{Hears}
use Rattle.bn_network_assembly.specs.Assembled.{limits_of}
use Rattle.bn_headline.specs.AutoReply.{EndReplies}
use Rattle.bn_headline.specs.Laws.{MayWiden}
use Rattle.bn_headline.specs.Rounds.{IsRoundOf, LeavesBy}
use Rattle.bn_headline.proofs.rounds.run_rounds.Given.{Over}
use Rattle.bn_headline.proofs.WindowClosedLemmas.{begin_searches, go_on}
use Rattle.bn_headline.proofs.WindowRoundLemmas.{come_ends, come_on, come_wanting, none_made}
use Rattle.bn_headline.proofs.rounds.run_rounds.Goals as goal

pub first_windows-windows-requires : goal.first_windows-windows-requires
first_windows-windows-requires g c = c.requires.given.given.few

pub loop-round-init : goal.loop-round-init
loop-round-init g c =
    none_made c.args.table.now.machine c.args.symbols.now (limits_of c.first_windows-windows.result)
    (g.W.Watch.told c.args.watch.now) c.first_windows-windows.ensures

pub run_round-requires-clause-windows : goal.run_round-requires-clause-windows
run_round-requires-clause-windows g c =
    (go_on c.requires.given.bytes c.requires.given.letters c.args.table.now c.args.symbols.now c.requires.given.given
    c.loop-round.round
    (limits_of c.loop-round.windows) c.loop-round.invariant.before c.loop-round.invariant.made).small

pub run_round-requires-clause-fits : goal.run_round-requires-clause-fits
run_round-requires-clause-fits g c =
    (go_on c.requires.given.bytes c.requires.given.letters c.args.table.now c.args.symbols.now c.requires.given.given
    c.loop-round.round
    (limits_of c.loop-round.windows) c.loop-round.invariant.before c.loop-round.invariant.made).fits

-- the end by which the signal left, and what the watch heard
short : (g : Over) (c : goal.After-windows-in-Short-1 g) → (places : List Place)
    × LeavesBy c.args.table.now.machine c.args.symbols.now (limits_of c.loop-round.windows) c.in-Short.tape
    c.in-Short.side places
    × Hears (g.W.Watch.told c.loop-round.watch) places (g.W.Watch.told c.run_round.new.watch)
short g c =
    subst (λ r. IsRoundOf (EndReplies c.args.table.now c.args.symbols.now (limits_of c.loop-round.windows))
    (LeavesBy c.args.table.now.machine c.args.symbols.now (limits_of c.loop-round.windows)) r
    (g.W.Watch.told c.loop-round.watch) (g.W.Watch.told c.run_round.new.watch))
    c.in-Short.is c.in_ok-reply.ensures.came

wider : (g : Over) (c : goal.After-windows-in-Short-1 g) → MayWiden (limits_of c.loop-round.windows) c.in-Short.tape
    c.in-Short.side
wider g c =
    (go_on c.requires.given.bytes c.requires.given.letters c.args.table.now c.args.symbols.now c.requires.given.given
    c.loop-round.round
    (limits_of c.loop-round.windows) c.loop-round.invariant.before c.loop-round.invariant.made).wider c.in-Short.tape
    c.in-Short.side (short g c).0 (short g c).1

pub widen-windows-requires-clause-end : goal.widen-windows-requires-clause-end
widen-windows-requires-clause-end g c = (wider g c).end

pub widen-windows-requires-clause-some : goal.widen-windows-requires-clause-some
widen-windows-requires-clause-some g c = (wider g c).some

pub widen-windows-requires-clause-low : goal.widen-windows-requires-clause-low
widen-windows-requires-clause-low g c = (wider g c).low

pub loop-round-preserved : goal.loop-round-preserved
loop-round-preserved g c =
    let one = subst (λ r. IsRoundOf (EndReplies c.args.table.now c.args.symbols.now (limits_of c.loop-round.windows))
    (LeavesBy c.args.table.now.machine c.args.symbols.now (limits_of c.loop-round.windows)) r
    (g.W.Watch.told c.loop-round.watch) (g.W.Watch.told c.run_round.new.watch))
    c.in-Short.is c.in_ok-reply.ensures.came in
    come_on c.args.table.now c.args.symbols.now c.loop-round.round (limits_of c.loop-round.windows)
    (g.W.Watch.told c.args.watch.now) (g.W.Watch.told c.loop-round.watch)
    c.loop-round.invariant c.in-Short.tape c.in-Short.side (g.W.Watch.told c.run_round.new.watch) one
    (limits_of c.widen-windows.result) c.widen-windows.ensures

pub returns-in-Ended : goal.returns-in-Ended
returns-in-Ended g c =
    let ended = subst (λ r. IsRoundOf (EndReplies c.args.table.now c.args.symbols.now (limits_of c.loop-round.windows))
    (LeavesBy c.args.table.now.machine c.args.symbols.now (limits_of c.loop-round.windows)) r
    (g.W.Watch.told c.loop-round.watch) (g.W.Watch.told c.run_round.new.watch))
    c.in-Ended.is c.in_ok-reply.ensures.came in
    come_ends c.args.table.now c.args.symbols.now c.loop-round.round (limits_of c.loop-round.windows)
    (g.W.Watch.told c.args.watch.now) (g.W.Watch.told c.loop-round.watch)
    c.loop-round.invariant c.in-Ended.reply (g.W.Watch.told c.run_round.new.watch) ended

pub returns-in_err-reply : goal.returns-in_err-reply
returns-in_err-reply g c =
    let none = err_from_is_err_and c.from_residual.result c.from_residual.ensures.1 in
    let begins = begin_searches c.requires.given.bytes c.requires.given.letters c.args.table.now c.args.symbols.now
    c.requires.given.given c.loop-round.round
    (limits_of c.loop-round.windows) c.loop-round.invariant.before c.loop-round.invariant.made in
    rw none.1 (come_wanting c.args.table.now c.args.symbols.now c.loop-round.round (limits_of c.loop-round.windows)
    (g.W.Watch.told c.args.watch.now) (g.W.Watch.told c.loop-round.watch)
    c.loop-round.invariant none.0 (g.W.Watch.told c.run_round.new.watch) begins c.in_err-reply.ensures.interrupted)

pub unreachable-requires : goal.unreachable-requires
unreachable-requires g c =
    let few = (go_on c.requires.given.bytes c.requires.given.letters c.args.table.now c.args.symbols.now
    c.requires.given.given c.loop-round.round
    (limits_of c.loop-round.windows) c.loop-round.invariant.before c.loop-round.invariant.made).few in
    omega (arith, few, c.loop-round-test.false)
