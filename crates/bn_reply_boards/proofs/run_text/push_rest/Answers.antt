use Rattle.std.proofs.Common.{sym, subst}
use Rattle.std.proofs.lemmas.Result.{on_ok_weaker}
use Rattle.bn_boards.specs.declared.spelled.Spelled.{Spelled}
use Rattle.bn_reply_boards.specs.Shown.{HaveLetters}
use Rattle.bn_reply_boards.proofs.ShownLemmas.{shown_letters}
use Rattle.bn_reply_boards.proofs.RunTextLemmas.{end_rest, other_rest}
use Rattle.bn_reply_boards.proofs.run_text.push_rest.Goals as goal

pub push_end-requires-clause-one : goal.push_end-requires-clause-one
push_end-requires-clause-one c =
    subst (λ (s : Spelled). HaveLetters c.args.table.now 1 s.one.cells) (sym c.in_ok-shown.ensures)
    (shown_letters c.args.table.now 1 c.args.board.now.layout c.args.board.now.config.states (λ _. c.requires.one))

pub push_end-requires-clause-three : goal.push_end-requires-clause-three
push_end-requires-clause-three c =
    subst (λ (s : Spelled). HaveLetters c.args.table.now 3 s.three.cells) (sym c.in_ok-shown.ensures)
    (shown_letters c.args.table.now 3 c.args.board.now.layout c.args.board.now.config.states (λ _. c.requires.three))

pub returns-in-End : goal.returns-in-End
returns-in-End c =
    on_ok_weaker c.push_end.result (λ last f layout.
    end_rest c.args.table.now f c.args.board.now.config c.args.quadruple_steps c.args.board.now.layout
    c.in_ok-shown.shown layout c.in_ok-shown.ensures c.args.exit
    c.args.text.now.items c.push_end.new.text.items c.in-End.is last) c.push_end.ensures

pub push_tapes-requires : goal.push_tapes-requires
push_tapes-requires c = record {
  one = subst (λ (s : Spelled). HaveLetters c.args.table.now 1 s.one.cells) (sym c.in_ok-shown.ensures)
      (shown_letters c.args.table.now 1 c.args.board.now.layout c.args.board.now.config.states (λ _. c.requires.one));
  three = subst (λ (s : Spelled). HaveLetters c.args.table.now 3 s.three.cells) (sym c.in_ok-shown.ensures)
      (shown_letters c.args.table.now 3 c.args.board.now.layout c.args.board.now.config.states (λ _. c.requires.three));
}

pub returns : goal.returns
returns c =
    on_ok_weaker c.push_tapes.result (λ last f layout.
    other_rest c.args.table.now f c.args.board.now.config c.args.quadruple_steps c.args.board.now.layout
    c.in_ok-shown.shown layout c.in_ok-shown.ensures c.args.exit
    c.args.text.now.items c.push_tapes.new.text.items c.in_default.not-End last) c.push_tapes.ensures.added
