use Rattle.std.proofs.Common.{ap, ◌∙◌}
use Rattle.std.proofs.lemmas.Result.{err_from_is_err_and}
use Rattle.bn_circuits.specs.Stepping.{places}
use Rattle.bn_boards.specs.Layouts.{Layout, symbol_count_at}
use Rattle.bn_boards.specs.Flats.{flat_start}
use Rattle.bn_reply_relations.specs.RunReply.{budget, exit_status}
use Rattle.bn_reply_relations.specs.Laws.{found_text}
use Rattle.bn_reply_boards.specs.Running.{TellsFound}
use Rattle.bn_reply_boards.proofs.AnsweredLemmas.{answered_told, answered_late}
use Rattle.bn_reply_boards.proofs.RunLemmas.{ran_tells, ran_told}
use Rattle.bn_reply_boards.proofs.run.run_board.Goals as goal

pub text_of_run-requires-clause-names : goal.text_of_run-requires-clause-names
text_of_run-requires-clause-names g c = c.requires.names c.run_to_exit-ran.result.exit c.run_to_exit-ran.ensures.exit

pub text_of_run-requires-clause-one : goal.text_of_run-requires-clause-one
text_of_run-requires-clause-one g c = ap (λ (x : Layout). symbol_count_at x 1) c.run_to_exit-ran.ensures.layout
    ∙ c.requires.one

pub text_of_run-requires-clause-three : goal.text_of_run-requires-clause-three
text_of_run-requires-clause-three g c = ap (λ (x : Layout). symbol_count_at x 3) c.run_to_exit-ran.ensures.layout
    ∙ c.requires.three

pub returns : goal.returns
returns g c = λ f start.
    let ran = c.run_to_exit-ran.ensures.ran f c.args.translated.now start in
    answered_told (TellsFound c.args.given c.args.table.now f)
    (record { text = c.in_ok-text.text; status = c.status_of.result })
    (places f.circuit (budget f c.args.given) (flat_start f)) (g.W.Watch.told c.args.watch.now)
    (g.W.Watch.told c.run_to_exit-ran.new.watch)
    (ran_tells c.args.given f c.args.translated.now c.args.board.now start c.args.table.now c.run_to_exit-ran.new.board
    c.run_to_exit-ran.result.exit
    c.run_to_exit-ran.result.quadruple_steps (g.W.Watch.told c.args.watch.now)
    (g.W.Watch.told c.run_to_exit-ran.new.watch) ran c.status_of.result
    c.in_ok-text.text.items c.status_of.ensures c.in_ok-text.ensures)
    ran.hears

pub returns-in_err-text : goal.returns-in_err-text
returns-in_err-text g c = λ f start.
    let none = err_from_is_err_and c.from_residual.result c.from_residual.ensures.1 in
    let ran = c.run_to_exit-ran.ensures.ran f c.args.translated.now start in
    rw none.1 (answered_late (TellsFound c.args.given c.args.table.now f) none.0
    (exit_status c.run_to_exit-ran.result.exit)
    (found_text c.args.given c.args.table.now f c.run_to_exit-ran.result.exit)
    (places f.circuit (budget f c.args.given) (flat_start f))
    (g.W.Watch.told c.args.watch.now) (g.W.Watch.told c.run_to_exit-ran.new.watch)
    (ran_told c.args.given f c.args.translated.now c.args.board.now start c.args.table.now c.run_to_exit-ran.new.board
    c.run_to_exit-ran.result.exit
    c.run_to_exit-ran.result.quadruple_steps (g.W.Watch.told c.args.watch.now)
    (g.W.Watch.told c.run_to_exit-ran.new.watch) ran)
    ran.hears)
