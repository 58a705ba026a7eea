-- No name is among those that are there already.
use Rattle.std.proofs.Common.{◌≡◌, ◌∙◌, ap, subst, sym, List, ℕ}
use Rattle.std.specs.Prelude.{Contains}
use Rattle.bn_quad.specs.Names.{Naming, naming_of, with_state}
use Rattle.bn_qtable.proofs.Gathering.{new-name, one-name}
use Rattle.bn_qtable.proofs.lists.gather_states.Goals as goal

pub add_state-requires-clause-new : goal.add_state-requires-clause-new
add_state-requires-clause-new c =
    let P : List (List ℕ) → Type 0 = λ xs. Contains xs c.get.result.now in
    λ h. new-name c.args.list.now c.states.number c.get.result.now c.requires.apart c.get.ensures
    (subst P (ap (λ (n : Naming). n.states) c.states.invariant) h)

pub states-preserved : goal.states-preserved
states-preserved c =
    let added : c.add_state.new.self ≡ with_state c.states.names c.get.result.now = c.in_ok-add_state.ensures.ok in
    let old = c.args.names.now in
    added ∙ ap (λ (n : Naming). with_state n c.get.result.now) c.states.invariant
    ∙ ap (λ (xs : List (List ℕ)). naming_of xs old.one old.two old.three)
    (sym (one-name c.args.list.now c.states.number c.get.result.now c.get.ensures))
