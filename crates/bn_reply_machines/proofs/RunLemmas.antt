-- Steps in a window, one after another.
use Rattle.std.proofs.Common.{◌≡◌, ℕ, ◌+◌, subst, ap, ◌∙◌, arith}
use Rattle.bn_lists.proofs.RunsLemmas.{runs_more}
use Rattle.bn_machine.specs.Machine.{Program, MachineRunsTo, moment}
use Rattle.bn_machine.specs.MachineCalls.{IsTurn}
use Rattle.bn_machine.specs.Window.{Room, Windowed, within, with_tape}
use Rattle.bn_machine.specs.declared.machine.Turn.{Turn}
use Rattle.bn_machine.specs.declared.machine.Turn.TheVariants as turns
use Rattle.bn_reply_machines.specs.MachineRun.{Reached, IsRun}

-- two windows with the same sides
same_room : (w v : Windowed) → v ≡ with_tape w v.tape → within v.left v.right ≡ within w.left w.right
same_room w v e = ap (λ (x : Windowed). within x.left x.right) e

pub one_step_more : (p : Program) (made state : ℕ) (w : Windowed) (at : ℕ) (v : Windowed) (after : ℕ) (u : Windowed)
    → Reached p made state w at v →
    IsTurn p turns.Moved at v after u → Reached p (made + 1) state w after u
one_step_more p made state w at v after u r turn = record {
  same = turn.1 ∙ ap (λ (x : Windowed). with_tape x u.tape) r.same;
  run =
      let step : MachineRunsTo (within w.left w.right) p (moment at v) (moment after u) =
      subst (λ (room : Room). MachineRunsTo room p (moment at v) (moment after u))
      (same_room w v r.same) turn.0 in
      runs_more (MachineRunsTo (within w.left w.right) p) made (moment state w) (moment at v) (moment after u) r.run
      step;
}

-- the turn behind the last of the steps that were asked for
pub last_turn : (p : Program) (n made state : ℕ) (w : Windowed) (at : ℕ) (v : Windowed) (turn : Turn) (after : ℕ)
    (u : Windowed) → made ≡ n →
    Reached p made state w at v → IsTurn p turn at v after u → IsRun p n state w n turn after u
last_turn p n made state w at v turn after u e r turn_is = record {
  at = at;
  tape = v;
  reached = subst (λ (i : ℕ). Reached p i state w at v) e r;
  in_time = omega arith;
  last = turn_is;
  early = λ h. absurd (omega arith);
}
