use Rattle.std.specs.Prelude.{None}
use Rattle.std.proofs.Common.{subst}
use Rattle.bn_network_assembly.specs.Assembled.{limits_of}
use Rattle.bn_boards.specs.Flats.{Flat, IsAccepted}
use Rattle.bn_reply_boards.specs.Opened.{IsMade, IsOpenedWindow}
use Rattle.bn_reply_boards.proofs.RunLemmas.{made_letters, made_names, made_start}
use Rattle.bn_table.proofs.MachineLemmas.{tables_machines}
use Rattle.bn_boards.proofs.ExitLemmas.{exits-one}
use Rattle.bn_boards.proofs.ClosedLemmas.{run_to_exit}
use Rattle.bn_headline.proofs.WindowClosedLemmas.{named}
use Rattle.bn_reply_relations.proofs.ClosedLemmas.{moments}
use Rattle.bn_headline.proofs.WindowLemmas.{asked_accepted, large_ends, run_as}
use Rattle.bn_headline.proofs.round.run_round.Given.{Over}
use Rattle.bn_headline.proofs.round.run_round.Goals as goal

opened : (g : Over) (c : goal.After-run_window-arg-1 g)
    → (f : Flat) × IsMade c.args.table.now.machine (limits_of c.args.windows.now) c.args.symbols.now f
    c.args.translated.now c.in-Made.board
opened g c =
    subst (IsOpenedWindow c.args.table.now.machine (limits_of c.args.windows.now) c.args.symbols.now
    c.args.translated.now) c.in-Made.is
    (c.in_ok-reply.ensures c.args.table.now.machine c.requires.ready.translates)

may : (g : Over) (c : goal.After-run_window-arg-1 g) → IsAccepted c.args.table.now.machine c.args.symbols.now
    (limits_of c.args.windows.now) (opened g c).0
may g c =
    asked_accepted tables_machines c.args.table.now c.args.symbols.now c.requires.given (limits_of c.args.windows.now)
    c.requires.windows (opened g c).0 (opened g c).1.comes

pub run_window-requires-clause-names : goal.run_window-requires-clause-names
run_window-requires-clause-names g c =
    made_names None c.args.table.now (limits_of c.args.windows.now) c.args.symbols.now (opened g c).0
    c.args.translated.now c.in-Made.board (opened g c).1
    (may g c) exits-one run_to_exit

pub run_window-requires-clause-one : goal.run_window-requires-clause-one
run_window-requires-clause-one g c =
    (made_letters c.args.table.now.machine (limits_of c.args.windows.now) c.args.symbols.now (opened g c).0
    c.args.translated.now c.in-Made.board (opened g c).1).0

pub run_window-requires-clause-three : goal.run_window-requires-clause-three
run_window-requires-clause-three g c =
    (made_letters c.args.table.now.machine (limits_of c.args.windows.now) c.args.symbols.now (opened g c).0
    c.args.translated.now c.in-Made.board (opened g c).1).1

pub returns-in-Refused : goal.returns-in-Refused
returns-in-Refused g c =
    large_ends c.args.table.now c.args.symbols.now (limits_of c.args.windows.now) c.in-Refused.reply
    (g.W.Watch.told c.args.watch.now)
    (subst (IsOpenedWindow c.args.table.now.machine (limits_of c.args.windows.now) c.args.symbols.now
    c.args.translated.now) c.in-Refused.is
    (c.in_ok-reply.ensures c.args.table.now.machine c.requires.ready.translates))

pub returns-in-Made : goal.returns-in-Made
returns-in-Made g c =
    let t = c.args.table.now in
    let l = limits_of c.args.windows.now in
    let symbols = c.args.symbols.now in
    let made = subst (IsOpenedWindow t.machine l symbols c.args.translated.now) c.in-Made.is
    (c.in_ok-reply.ensures t.machine c.requires.ready.translates) in
    let f : Flat = made.0 in
    let accepted : IsAccepted t.machine symbols l f =
    asked_accepted tables_machines t symbols c.requires.given l c.requires.windows f made.1.comes in
    run_as t symbols l f made.1.comes accepted named moments
    c.run_window.result (g.W.Watch.told c.args.watch.now) (g.W.Watch.told c.run_window.new.watch)
    (c.run_window.ensures f (made_start t.machine l symbols f c.args.translated.now c.in-Made.board made.1))
