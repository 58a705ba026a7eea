use Rattle.std.proofs.Common.{rules, ◌≡◌, ◌++◌, ap, ◌∙◌, w64}
use Rattle.std.specs.Prelude.{codes, decimal}
use Rattle.std.proofs.lemmas.Int.{to_z-of_z}
use Rattle.std.proofs.lemmas.Result.{on_err_weaker, on_ok_weaker}
use Rattle.bn_reply.specs.Lines.{position_text}
use Rattle.bn_reply.proofs.FrontLemmas.{as_it_was, behind_first, if_refused, of_equal}
use Rattle.bn_reply_boards.proofs.PieceLemmas.{four_pieces}
use Rattle.bn_reply_views.proofs.view_text.push_cell.Goals as goal

pub returns-clause-added : goal.returns-clause-added
returns-clause-added c =
    on_ok_weaker c.push_position.result (λ last.
    four_pieces c.args.text.now.items (codes "module tape ") (decimal c.args.tape) (codes " cell ")
    (position_text c.args.position) c.push.new.text.items c.push_u64.new.out.items
    c.push-2.new.text.items c.push_position.new.text.items c.in_ok-push.ensures.added
    (c.in_ok-push_u64.ensures.ok ∙ ap (λ n. c.push.new.text.items ++ decimal n) c.from.ensures)
    c.in_ok-push-2.ensures.added
    (last ∙ ap (λ p. c.push-2.new.text.items ++ position_text p) (to_z-of_z w64 c.args.position (search rules))))
    c.push_position.ensures.added

pub returns-in_err-push_u64-clause-refused : goal.returns-in_err-push_u64-clause-refused
returns-in_err-push_u64-clause-refused c = if_refused c.from_residual-in_err-push_u64.result
    (behind_first _ _ _ (codes "module tape ")
    (decimal c.args.tape ++ (codes " cell " ++ position_text c.args.position)) c.in_ok-push.ensures.added
    (as_it_was _ _ _ c.in_err-push_u64.ensures.err))

pub returns-in_err-push-2-clause-refused : goal.returns-in_err-push-2-clause-refused
returns-in_err-push-2-clause-refused c =
    let tape = decimal c.args.tape in
    let position = position_text c.args.position in
    let number : c.push_u64.new.out.items ≡ c.push.new.text.items ++ tape =
    c.in_ok-push_u64.ensures.ok ∙ ap (λ n. c.push.new.text.items ++ decimal n) c.from.ensures in
    if_refused c.from_residual-in_err-push-2.result
    (behind_first _ _ _ (codes "module tape ") (tape ++ (codes " cell " ++ position)) c.in_ok-push.ensures.added
    (behind_first _ _ _ tape (codes " cell " ++ position) number (as_it_was _ _ _ c.in_err-push-2.ensures.refused)))

pub returns-clause-refused : goal.returns-clause-refused
returns-clause-refused c =
    let tape = decimal c.args.tape in
    let position = position_text c.args.position in
    let number : c.push_u64.new.out.items ≡ c.push.new.text.items ++ tape =
    c.in_ok-push_u64.ensures.ok ∙ ap (λ n. c.push.new.text.items ++ decimal n) c.from.ensures in
    on_err_weaker c.push_position.result (λ last.
    behind_first _ _ _ (codes "module tape ") (tape ++ (codes " cell " ++ position)) c.in_ok-push.ensures.added
    (behind_first _ _ _ tape (codes " cell " ++ position) number
    (behind_first _ _ _ (codes " cell ") position c.in_ok-push-2.ensures.added
    (of_equal _ _ _ position (ap (λ p. position_text p) (to_z-of_z w64 c.args.position (search rules))) last))))
    c.push_position.ensures.refused
