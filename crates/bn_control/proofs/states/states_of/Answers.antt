use Rattle.std.proofs.Common.{◌≡◌, ◌∷◌, ◌++◌, List, [], map, ap, subst, sym, ◌∙◌}
use Rattle.bn_control.specs.declared.name.StateName.{StateName}
use Rattle.bn_control.specs.declared.name.StateName.TheVariants.{End}
use Rattle.bn_control.specs.Ordered.{AreNames}
use Rattle.bn_control.proofs.OrderedLemmas.{in_their_order}
use Rattle.bn_control.proofs.StatesLemmas.{awaiting, moving, gathered_states}
use Rattle.bn_control.proofs.states.states_of.Goals as goal

pub returns-clause-ordered : goal.returns-clause-ordered
returns-clause-ordered c m u is entries moves =
    let first : c.push.new.self.items ≡ End ∷ [] = c.in_ok-push.ensures.items
    ∙ ap (λ (l : List StateName). l ++ End ∷ []) c.new-states.ensures.items in
    let raw = c.in_ok-push_moving.ensures ∙ ap (λ (l : List StateName). l ++ map moving c.args.moves.now)
    (c.in_ok-push_awaiting.ensures ∙ ap (λ (l : List StateName). l ++ map awaiting c.args.entries.now) first) in
    let gathered = subst (AreNames m) (sym raw) (gathered_states m u is c.args.entries.now entries c.args.moves.now
    moves) in
    in_their_order m c.push_moving.new.states.items c.in_ok-ordered.ordered.items gathered
    c.in_ok-ordered.ensures.rising c.in_ok-ordered.ensures.each c.in_ok-ordered.ensures.only
