use Rattle.std.proofs.Common.{suc, inl, inr, subst, sym, ◌∙◌, arith, add-one}
use Rattle.bn_control.specs.Shown.{IsCount, IsOpenBelow}
use Rattle.bn_control.proofs.OpenLemmas.{not_left, left, open_more, open_same}
use Rattle.bn_control.proofs.count.open_count.Goals.{then-state-final_state+then-not-is_left, else-state-final_state}
use Rattle.bn_control.proofs.count.open_count.Goals.{else-state-final_state-via-then-state-final_state+else-not-is_left}
use Rattle.bn_control.proofs.count.open_count.Goals.{else-state-final_state-via-else-state-final_state}
use Rattle.bn_control.proofs.count.open_count.Goals as goal

pub loop-state-preserved : goal.loop-state-preserved
loop-state-preserved c = let few = c.loop-state.invariant.1 in elim c.if-state-final_state.branch [
  | then-state-final_state+then-not-is_left w ↦ (
      let none = not_left c.args.machine.now w.quads.result.now w.quads.ensures.value c.loop-state.state
      (w.is_left.ensures.no w.if-not-is_left.true) in
      let more = open_more c.args.machine.now c.loop-state.state c.loop-state.count
      (λ e. w.if-state-final_state.true (e ∙ sym c.final_state.ensures)) none c.loop-state.invariant.0 in
      let count = w.count-is in (
        rw add-one (subst (IsCount (IsOpenBelow c.args.machine.now (suc c.loop-state.state))) (sym w.count-is) more),
        omega arith,
      ))
  | else-state-final_state w ↦ elim w.else-state-final_state.branch [
    | else-state-final_state-via-then-state-final_state+else-not-is_left x ↦ (
        let same = open_same c.args.machine.now c.loop-state.state c.loop-state.count
        (inr (left c.args.machine.now x.quads.result.now x.quads.ensures.value c.loop-state.state
        (x.is_left.ensures.yes x.if-not-is_left.false))) c.loop-state.invariant.0 in
        let count = w.count-is in (
          rw add-one (subst (IsCount (IsOpenBelow c.args.machine.now (suc c.loop-state.state))) (sym w.count-is) same),
          omega arith,
        ))
    | else-state-final_state-via-else-state-final_state x ↦ (
        let same = open_same c.args.machine.now c.loop-state.state c.loop-state.count
        (inl (x.if-state-final_state.false ∙ c.final_state.ensures)) c.loop-state.invariant.0 in
        let count = w.count-is in (
          rw add-one (subst (IsCount (IsOpenBelow c.args.machine.now (suc c.loop-state.state))) (sym w.count-is) same),
          omega arith,
        ))
  ]
]
