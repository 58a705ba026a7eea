-- The run of a machine on a tape in a window with its extent, step by step.
use Rattle.std.proofs.Common.{◌≡◌, ℕ, ◌+◌, max, refl, subst, arith}
use Rattle.bn_machine.specs.Machine.{Program, moment}
use Rattle.bn_machine.specs.MachineCalls.{IsTurn}
use Rattle.bn_machine.specs.Window.{Windowed, within}
use Rattle.bn_machine.proofs.MachineStepLemmas.{goes_anywhere}
use Rattle.bn_machine.specs.declared.machine.Turn.{Turn}
use Rattle.bn_machine.specs.declared.machine.Turn.TheVariants as turns
use Rattle.bn_reply_machines.specs.MachineRun.{Reached}
use Rattle.bn_reply_machines.proofs.RunLemmas.{one_step_more}
use Rattle.bn_extents.specs.Extents.{HasExtent, cells_left, cells_right}
use Rattle.bn_extents.proofs.ExtentLemmas.{extent_more, extent_start}
use Rattle.bn_reply_windows.specs.WindowRun.{IsMeasured}
use Rattle.bn_reply_windows.specs.declared.extent.Extent.{Extent}

-- what the steps so far have led to
pub record IsMeasuredSoFar (p : Program) (made state : ℕ) (w : Windowed) (at : ℕ) (v : Windowed) (extent : Extent) :
    Type 0 where
  pub reached : Reached p made state w at v
  pub extends : HasExtent p made (moment state w) (moment at v) extent.left extent.right

pub measured_start : (p : Program) (state : ℕ) (w : Windowed) (extent : Extent) → extent.left ≡ 0 → extent.right ≡ 0
    → IsMeasuredSoFar p 0 state w state w extent
measured_start p state w extent left right = record {
  reached = record { same = refl; run = refl };
  extends = rw (left, right) (extent_start p (moment state w));
}

pub measured_more : (p : Program) (made state : ℕ) (w : Windowed) (at : ℕ) (v : Windowed) (extent : Extent)
    (after : ℕ) (u : Windowed) (wider : Extent) → IsMeasuredSoFar p made state w at v extent
    → IsTurn p turns.Moved at v after u → wider.left ≡ max extent.left (cells_left u.tape.head)
    → wider.right ≡ max extent.right (cells_right u.tape.head)
    → IsMeasuredSoFar p (made + 1) state w after u wider
measured_more p made state w at v extent after u wider h turn left right = record {
  reached = one_step_more p made state w at v after u h.reached turn;
  extends = rw (left, right) (extent_more p made (moment state w) (moment at v) (moment after u) extent.left
      extent.right
      h.extends (goes_anywhere (within v.left v.right) p (moment at v) (moment after u) turn.0));
}

pub measured_all : (p : Program) (n made state : ℕ) (w : Windowed) (at : ℕ) (v : Windowed) (extent : Extent)
    (turn : Turn) (after : ℕ) (u : Windowed) → made ≡ n → IsMeasuredSoFar p made state w at v extent
    → IsTurn p turn at v after u → IsMeasured p n state w n extent turn after u
measured_all p n made state w at v extent turn after u e h turn_is = record {
  at = at;
  tape = v;
  reached = subst (λ (i : ℕ). Reached p i state w at v) e h.reached;
  extends = subst (λ (i : ℕ). HasExtent p i (moment state w) (moment at v) extent.left extent.right) e h.extends;
  in_time = omega arith;
  last = turn_is;
  early = λ h. absurd (omega arith);
}
