use Rattle.std.proofs.Common.{ap, ◌∙◌}
use Rattle.std.proofs.lemmas.Result.{err_from_is_err_and}
use Rattle.bn_network_assembly.specs.Assembled.{limits_of}
use Rattle.bn_boards.specs.Layouts.{Layout, symbol_count_at}
use Rattle.bn_headline.proofs.WindowLemmas.{ran_ended, ran_short, ran_wanting}
use Rattle.bn_headline.proofs.round.run_window.Goals as goal

pub returns-in-Window : goal.returns-in-Window
returns-in-Window g c = λ f start.
    ran_short c.args.table.now f c.args.translated.now c.run_to_exit-ran.new.board (limits_of c.args.windows.now)
    c.run_to_exit-ran.result.exit
    c.run_to_exit-ran.result.quadruple_steps (g.W.Watch.told c.args.watch.now)
    (g.W.Watch.told c.run_to_exit-ran.new.watch)
    (c.run_to_exit-ran.ensures.ran f c.args.translated.now start) c.in-Window.tape c.in-Window.side c.in-Window.is

pub found_text-requires-clause-names : goal.found_text-requires-clause-names
found_text-requires-clause-names g c = c.requires.names c.run_to_exit-ran.result.exit c.run_to_exit-ran.ensures.exit

pub found_text-requires-clause-one : goal.found_text-requires-clause-one
found_text-requires-clause-one g c = ap (λ (x : Layout). symbol_count_at x 1) c.run_to_exit-ran.ensures.layout
    ∙ c.requires.one

pub found_text-requires-clause-three : goal.found_text-requires-clause-three
found_text-requires-clause-three g c = ap (λ (x : Layout). symbol_count_at x 3) c.run_to_exit-ran.ensures.layout
    ∙ c.requires.three

pub returns-in_ok-text-in_default : goal.returns-in_ok-text-in_default
returns-in_ok-text-in_default g c = λ f start.
    let ran = c.run_to_exit-ran.ensures.ran f c.args.translated.now start in
    ran_ended c.args.table.now f c.args.translated.now c.run_to_exit-ran.new.board (limits_of c.args.windows.now)
    c.run_to_exit-ran.result.exit
    c.run_to_exit-ran.result.quadruple_steps (g.W.Watch.told c.args.watch.now)
    (g.W.Watch.told c.run_to_exit-ran.new.watch) ran
    c.in_default.not-Window (record { text = c.in_ok-text-in_default.text; status = c.status_of.result })
    c.status_of.ensures (c.in_ok-text-in_default.ensures f ran.shown)

pub returns-in_err-text-in_default : goal.returns-in_err-text-in_default
returns-in_err-text-in_default g c = λ f start.
    let none = err_from_is_err_and c.from_residual.result c.from_residual.ensures.1 in
    rw none.1 (ran_wanting c.args.table.now f c.args.translated.now c.run_to_exit-ran.new.board
    (limits_of c.args.windows.now) c.run_to_exit-ran.result.exit
    c.run_to_exit-ran.result.quadruple_steps (g.W.Watch.told c.args.watch.now)
    (g.W.Watch.told c.run_to_exit-ran.new.watch)
    (c.run_to_exit-ran.ensures.ran f c.args.translated.now start) c.in_default.not-Window none.0)
