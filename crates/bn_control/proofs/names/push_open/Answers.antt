use Rattle.std.proofs.Common.{inl, inr, sym, ap, ◌∙◌, append_assoc, append-nil, [], ◌∷◌, ◌++◌}
use Rattle.bn_control.proofs.OpenLemmas.{not_left, left}
use Rattle.bn_control.specs.declared.name.StateName.TheVariants.{Reads}
use Rattle.bn_control.specs.declared.name.Symbols.TheVariants.{Empty}
use Rattle.bn_control.proofs.StateNameLemmas.{none_open, more_open, same_open}
use Rattle.bn_control.proofs.names.push_open.Goals.{then-state-final_state+then-not-is_left+in_ok-push}
use Rattle.bn_control.proofs.names.push_open.Goals.{else-state-final_state}
use Rattle.bn_control.proofs.names.push_open.Goals.{else-state-final_state-via-then-state-final_state+else-not-is_left}
use Rattle.bn_control.proofs.names.push_open.Goals.{else-state-final_state-via-else-state-final_state}
use Rattle.bn_control.proofs.names.push_open.Goals as goal

pub loop-state-init : goal.loop-state-init
loop-state-init c = ([], none_open c.args.machine.now, sym (append-nil c.args.names.now.items))

pub loop-state-preserved : goal.loop-state-preserved
loop-state-preserved c =
    let opened = c.loop-state.invariant.0 in
    elim c.if-state-final_state.branch [
      | then-state-final_state+then-not-is_left+in_ok-push w ↦ (
          let none = not_left c.args.machine.now w.quads.result.now w.quads.ensures.value c.loop-state.state
          (w.is_left.ensures.no w.if-not-is_left.true) in
          let more = more_open c.args.machine.now c.loop-state.state opened
          (λ e. w.if-state-final_state.true (e ∙ sym c.final_state.ensures)) none c.loop-state.invariant.1 in (
            opened ++ (Reads c.loop-state.state 0 Empty ∷ []),
            more,
            (λ i. (w.names-is i).items) ∙ w.in_ok-push.ensures.items
                ∙ ap (λ l. l ++ (Reads c.loop-state.state 0 Empty ∷ [])) c.loop-state.invariant.2
                ∙ append_assoc c.args.names.now.items opened (Reads c.loop-state.state 0 Empty ∷ []),
          ))
      | else-state-final_state w ↦ elim w.else-state-final_state.branch [
        | else-state-final_state-via-then-state-final_state+else-not-is_left x ↦ (
          opened,
          same_open c.args.machine.now c.loop-state.state opened (inr
              (left c.args.machine.now x.quads.result.now x.quads.ensures.value c.loop-state.state
              (x.is_left.ensures.yes x.if-not-is_left.false))) c.loop-state.invariant.1,
          (λ i. (w.names-is i).items) ∙ c.loop-state.invariant.2,
        )
        | else-state-final_state-via-else-state-final_state x ↦ (
          opened,
          same_open c.args.machine.now c.loop-state.state opened (inl
              (x.if-state-final_state.false ∙ c.final_state.ensures)) c.loop-state.invariant.1,
          (λ i. (w.names-is i).items) ∙ c.loop-state.invariant.2,
        )
      ]
    ]
