use Rattle.std.proofs.Common.{rules, ◌≡◌, ◌++◌}
use Rattle.std.specs.Prelude.{codes}
use Rattle.std.proofs.lemmas.Result.{on_err_weaker}
use Rattle.bn_reply.specs.Lines.{position_text}
use Rattle.bn_reply.proofs.FrontLemmas.{as_it_was, behind_first, if_refused, in_first}
use Rattle.bn_reply_relations.specs.RunText.{head_text}
use Rattle.bn_reply_boards.proofs.tape_text.push_bounds.Goals as goal

pub returns-in_err-push_head-clause-refused : goal.returns-in_err-push_head-clause-refused
returns-in_err-push_head-clause-refused c =
    let first = position_text c.args.shown.now.first in
    let head = head_text c.args.shown.now.head in
    let begun : c.push_position.new.text.items ≡ c.push.new.text.items ++ first = search rules in
    if_refused c.from_residual-in_err-push_head.result
    (behind_first _ _ _ (codes " from ") (first ++ (codes " head " ++ (head ++ codes ":"))) c.in_ok-push.ensures.added
    (behind_first _ _ _ first (codes " head " ++ (head ++ codes ":")) begun
    (behind_first _ _ _ (codes " head ") (head ++ codes ":") c.in_ok-push-2.ensures.added
    (in_first _ _ head (codes ":") c.in_err-push_head.ensures.refused))))

pub returns-clause-refused : goal.returns-clause-refused
returns-clause-refused c =
    let first = position_text c.args.shown.now.first in
    let head = head_text c.args.shown.now.head in
    let begun : c.push_position.new.text.items ≡ c.push.new.text.items ++ first = search rules in
    on_err_weaker c.push-3.result (λ same.
    behind_first _ _ _ (codes " from ") (first ++ (codes " head " ++ (head ++ codes ":"))) c.in_ok-push.ensures.added
    (behind_first _ _ _ first (codes " head " ++ (head ++ codes ":")) begun
    (behind_first _ _ _ (codes " head ") (head ++ codes ":") c.in_ok-push-2.ensures.added
    (behind_first _ _ _ head (codes ":") c.in_ok-push_head.ensures.added (as_it_was _ _ _ same)))))
    c.push-3.ensures.refused
