use Rattle.std.proofs.Common.{◌∙◌, ap, sym, subst}
use Rattle.std.proofs.lemmas.Result.{IfOk-weaker}
use Rattle.bn_boards.specs.Layouts.{IsExit, Layout, spelled_by}
use Rattle.bn_reply_builds.proofs.OutcomeLemmas.{not_inside}
use Rattle.bn_reply_builds.proofs.outcome.outcome_of.Goals as goal

pub returns-in-Enter-clause-left : goal.returns-in-Enter-clause-left
returns-in-Enter-clause-left c = λ f d e is machine layout fits leaves.
    absurd (not_inside f c.args.board.now.config.place c.args.board.now.config.states d e leaves c.in-Enter.element
    c.in-Enter.line
    (sym c.place.ensures.place ∙ c.in-Enter.is))

pub returns-in-Left-clause-left : goal.returns-in-Left-clause-left
returns-in-Left-clause-left c =
    let place = c.args.board.now.config.place in
    let states = c.args.board.now.config.states in
    IfOk-weaker c.outcome_left.result _ _ (λ o told f d e is machine layout fits leaves.
    told f place states c.in-Left.line d e is machine (sym c.place.ensures.place ∙ c.in-Left.is)
    (subst (λ b. IsExit b place c.exit_of.result) (sym layout) c.exit_of.ensures)
    (c.requires.shown ∙ ap (λ (b : Layout). spelled_by b states) (sym layout)) fits leaves) c.outcome_left.ensures.left
