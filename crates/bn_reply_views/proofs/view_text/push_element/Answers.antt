use Rattle.std.proofs.Common.{◌∷◌, []}
use Rattle.std.specs.Prelude.{codes, decimal}
use Rattle.std.proofs.lemmas.Result.{on_err_weaker}
use Rattle.bn_netlist_laws.specs.Sentences.{place_text}
use Rattle.bn_reply.specs.Lines.{line}
use Rattle.bn_reply.proofs.FrontLemmas.{as_it_was, behind_first, if_refused, in_first}
use Rattle.bn_reply_views.proofs.view_text.push_element.Goals as goal

pub returns-in_err-push_place-clause-refused : goal.returns-in_err-push_place-clause-refused
returns-in_err-push_place-clause-refused c =
    let place = place_text c.args.place in
    let rest = line (codes " steps " ∷ decimal c.args.steps ∷ []) in
    if_refused c.from_residual-in_err-push_place.result
    (behind_first _ _ _ (codes "element ") (line (place ∷ codes " steps " ∷ decimal c.args.steps ∷ []))
    c.in_ok-push.ensures.added (in_first _ _ place rest c.in_err-push_place.ensures.refused))

pub returns-in_err-push-2-clause-refused : goal.returns-in_err-push-2-clause-refused
returns-in_err-push-2-clause-refused c =
    let place = place_text c.args.place in
    let rest = line (codes " steps " ∷ decimal c.args.steps ∷ []) in
    if_refused c.from_residual-in_err-push-2.result
    (behind_first _ _ _ (codes "element ") (line (place ∷ codes " steps " ∷ decimal c.args.steps ∷ []))
    c.in_ok-push.ensures.added (behind_first _ _ _ place rest c.in_ok-push_place.ensures.added
    (as_it_was _ _ _ c.in_err-push-2.ensures.refused)))

pub returns-in_err-push_u64-clause-refused : goal.returns-in_err-push_u64-clause-refused
returns-in_err-push_u64-clause-refused c =
    let place = place_text c.args.place in
    let rest = line (codes " steps " ∷ decimal c.args.steps ∷ []) in
    if_refused c.from_residual-in_err-push_u64.result
    (behind_first _ _ _ (codes "element ") (line (place ∷ codes " steps " ∷ decimal c.args.steps ∷ []))
    c.in_ok-push.ensures.added (behind_first _ _ _ place rest c.in_ok-push_place.ensures.added
    (behind_first _ _ _ (codes " steps ") (line (decimal c.args.steps ∷ [])) c.in_ok-push-2.ensures.added
    (as_it_was _ _ _ c.in_err-push_u64.ensures.err))))

pub returns-clause-refused : goal.returns-clause-refused
returns-clause-refused c =
    let place = place_text c.args.place in
    let rest = line (codes " steps " ∷ decimal c.args.steps ∷ []) in
    on_err_weaker c.push-3.result (λ same.
    behind_first _ _ _ (codes "element ") (line (place ∷ codes " steps " ∷ decimal c.args.steps ∷ []))
    c.in_ok-push.ensures.added (behind_first _ _ _ place rest c.in_ok-push_place.ensures.added
    (behind_first _ _ _ (codes " steps ") (line (decimal c.args.steps ∷ [])) c.in_ok-push-2.ensures.added
    (behind_first _ _ _ (decimal c.args.steps) (10 ∷ []) c.in_ok-push_u64.ensures.ok (as_it_was _ _ _ same)))))
    c.push-3.ensures.refused
