use Rattle.std.proofs.Common.{◌≡◌, ◌++◌, ◌∷◌, [], ap, ◌∙◌}
use Rattle.std.specs.Prelude.{codes, decimal}
use Rattle.std.proofs.lemmas.Result.{on_err_weaker}
use Rattle.bn_reply.specs.Lines.{line}
use Rattle.bn_reply.proofs.FrontLemmas.{as_it_was, behind_first, if_refused}
use Rattle.bn_reply_relations.specs.RunText.{side_text}
use Rattle.bn_reply_boards.proofs.run_text.push_window.Goals as goal

pub returns-in_err-push_u64-clause-refused : goal.returns-in_err-push_u64-clause-refused
returns-in_err-push_u64-clause-refused c = if_refused c.from_residual-in_err-push_u64.result
    (behind_first _ _ _ (codes "exit window ") (line (decimal c.args.tape ∷ codes " " ∷ side_text c.args.side ∷ []))
    c.in_ok-push.ensures.added (as_it_was _ _ _ c.in_err-push_u64.ensures.err))

pub returns-in-Left-clause-refused : goal.returns-in-Left-clause-refused
returns-in-Left-clause-refused c =
    let number : c.push_u64.new.out.items ≡ c.push.new.text.items ++ decimal c.args.tape =
    c.in_ok-push_u64.ensures.ok ∙ ap (λ n. c.push.new.text.items ++ decimal n) c.from.ensures in
    on_err_weaker c.push-in-Left.result (λ same.
    behind_first _ _ _ (codes "exit window ") (line (decimal c.args.tape ∷ codes " " ∷ side_text c.args.side ∷ []))
    c.in_ok-push.ensures.added (behind_first _ _ _ (decimal c.args.tape)
    (line (codes " " ∷ side_text c.args.side ∷ [])) number (as_it_was _ _ _ same))) c.push-in-Left.ensures.refused

pub returns-in-Right-clause-refused : goal.returns-in-Right-clause-refused
returns-in-Right-clause-refused c =
    let number : c.push_u64.new.out.items ≡ c.push.new.text.items ++ decimal c.args.tape =
    c.in_ok-push_u64.ensures.ok ∙ ap (λ n. c.push.new.text.items ++ decimal n) c.from.ensures in
    on_err_weaker c.push-in-Right.result (λ same.
    behind_first _ _ _ (codes "exit window ") (line (decimal c.args.tape ∷ codes " " ∷ side_text c.args.side ∷ []))
    c.in_ok-push.ensures.added (behind_first _ _ _ (decimal c.args.tape)
    (line (codes " " ∷ side_text c.args.side ∷ [])) number (as_it_was _ _ _ same))) c.push-in-Right.ensures.refused
