-- The least window of a run that halts or is stuck, by its extent.
use Rattle.std.proofs.Common.{◌≡◌, ℕ, suc, ◌+◌, ◌<◌, ◌≤◌, List, length, refl, subst, arith}
use Rattle.std.specs.Prelude.{ℤ, pos, negsuc, ◌+ℤ◌, ◌≤ℤ◌}
use Rattle.std.proofs.lemmas.Int.{ints}
use Rattle.bn_lists.specs.Runs.{Reaches}
use Rattle.bn_lists.proofs.FiniteLemmas.{runs_stop_once}
use Rattle.bn_machine.specs.Machine.{IsFinal, IsMachineStuck, MachineRunsTo, Moment, Program, start}
use Rattle.bn_machine.specs.Outcome.{ComesOut, Copies, HasRoom, Limits, Outcome, Halted, Stuck}
use Rattle.bn_machine.specs.Outcome.{copied, halts, leaves, output_short, runs_out, sticks, work_short}
use Rattle.bn_machine.specs.Run.{IsOutput}
use Rattle.bn_machine.specs.Tape.{scanned}
use Rattle.bn_machine.specs.Window.{anywhere, within}
use Rattle.bn_machine.proofs.MachineStepLemmas.{final_not_going, final_not_stuck, run_anywhere, steps_are_functions}
use Rattle.bn_machine.proofs.MachineStepLemmas.{stuck_not_going}
use Rattle.bn_machine.proofs.OutputLemmas.{output_once}
use Rattle.bn_extents.specs.Extents.{HasExtent, cells_right}
use Rattle.bn_extents.specs.Formula.{halted_limits, stuck_limits}
use Rattle.bn_extents.specs.LeastWindow.{AreAtMost, FitsRun, IsLeastWindow, IsOwnEnd}
use Rattle.bn_extents.proofs.ExtentLemmas.{run_wider}

-- a position is no further right than the cells that it lies right of 0
right_of : (p : ℤ) → p ≤ℤ pos (cells_right p)
right_of (pos n) = omega (arith, ints)
right_of (negsuc n) = omega (arith, ints)

cells_by : (p : ℤ) (r : ℕ) → p ≤ℤ pos r → cells_right p ≤ r
cells_by (pos n) r h = omega (arith, ints)
cells_by (negsuc n) r h = omega arith

-- ---- ends

module _ (p : Program) where
  -- no step leads on from an end of the machine itself
  ended : (k : Limits) (j : ℕ) (m : Moment) (o : Outcome) → IsOwnEnd o → ComesOut p k j m o → (d : Moment)
      → MachineRunsTo anywhere p m d → ⊥
  ended k j m o own (halts y final out copies) d step = final_not_going anywhere p m d final step
  ended k j m o own (sticks stuck e) d step = stuck_not_going anywhere p m d stuck step
  ended k j m o own (runs_out d' goes at e) d step = absurd (subst IsOwnEnd e own)
  ended k j m o own (leaves d' side goes early beyond e) d step = absurd (subst IsOwnEnd e own)

  copied_room : (k : Limits) (head : ℤ) (y : List ℕ) (o : Outcome) → IsOwnEnd o → Copies k head y o
      → HasRoom k head (suc (length y))
  copied_room k head y o own (copied room e) = room (suc (length y)) (omega arith) (omega arith)
  copied_room k head y o own (work_short j short beyond e) = absurd (subst IsOwnEnd e own)
  copied_room k head y o own (output_short j short inside past e) = absurd (subst IsOwnEnd e own)

  -- a window in which the machine halts has room for the copy of its output
  halted_room : (k : Limits) (j : ℕ) (m : Moment) (o : Outcome) (y : List ℕ) → IsOwnEnd o → IsFinal p m
      → IsOutput m.tape y → ComesOut p k j m o → HasRoom k m.tape.head (suc (length y))
  halted_room k j m o y own final out (halts z final' out' copies) = subst
      (λ (x : List ℕ). HasRoom k m.tape.head (suc (length x))) (output_once m.tape z y out' out)
      (copied_room k m.tape.head z o own copies)
  halted_room k j m o y own final out (sticks stuck e) = absurd (final_not_stuck p m final stuck)
  halted_room k j m o y own final out (runs_out d goes at e) = absurd (subst IsOwnEnd e own)
  halted_room k j m o y own final out (leaves d side goes early beyond e) = absurd (subst IsOwnEnd e own)

  module _ (word : List ℕ) (i left right : ℕ) (c : Moment) (x : HasExtent p i (start p word) c left right)
      (last : (d : Moment) → MachineRunsTo anywhere p c d → ⊥) where
    -- limits that fit end where the machine does
    same_end : (k : Limits) (f : FitsRun p word k) → (f.steps ≡ i) × (f.comes_out.moment ≡ c)
    same_end k f = runs_stop_once (MachineRunsTo anywhere p) (steps_are_functions anywhere p) f.steps i (start p word)
        f.comes_out.moment c (run_anywhere (within k.left k.right) p f.steps (start p word) f.comes_out.moment
        f.comes_out.run) (run_anywhere (within left right) p i (start p word) c x.run)
        (ended k f.steps f.comes_out.moment f.outcome f.own f.comes_out.ends) last

    same_run : (k : Limits) → FitsRun p word k → Reaches (MachineRunsTo (within k.left k.right) p) i (start p word) c
    same_run k f =
        let same = same_end k f in
        subst (λ (j : ℕ). Reaches (MachineRunsTo (within k.left k.right) p) j (start p word) c) same.0
        (subst (λ (m : Moment). Reaches (MachineRunsTo (within k.left k.right) p) f.steps (start p word) m) same.1
        f.comes_out.run)

    enough_steps : (k : Limits) → FitsRun p word k → i ≤ k.steps
    enough_steps k f = subst (λ (j : ℕ). j ≤ k.steps) (same_end k f).0 f.comes_out.in_time

    -- ---- halted

    module _ (final : IsFinal p c) (y : List ℕ) (out : IsOutput c.tape y) where
      abbrev halted : Limits
      halted = halted_limits (length word) left right i c.tape.head (length y)

      copy_room : (j : ℕ) → 0 < j → j ≤ length y + 1 → HasRoom halted c.tape.head j
      copy_room j some early =
          let far : (c.tape.head +ℤ pos (suc (length y)))
          ≤ℤ pos (cells_right (c.tape.head +ℤ pos (suc (length y)))) =
          right_of (c.tape.head +ℤ pos (suc (length y))) in
          let most : cells_right (c.tape.head +ℤ pos (suc (length y))) ≤ halted.right = omega arith in
          record { work = omega (arith, ints); output = early }

      halted_fits : FitsRun p word halted
      halted_fits = record {
        room = omega arith;
        steps = i;
        outcome = Halted y;
        comes_out = record {
          moment = c;
          run = run_wider left right left halted.right p i (start p word) c (omega arith) (omega arith) x.run;
          in_time = omega arith;
          ends = halts y final out (copied copy_room refl);
        };
        own = tt;
      }

      halted_least : (k : Limits) → FitsRun p word k → AreAtMost halted k
      halted_least k f =
          let run = same_run k f in
          let same = same_end k f in
          let ends : ComesOut p k f.steps c f.outcome = subst (λ (m : Moment). ComesOut p k f.steps m f.outcome) same.1
          f.comes_out.ends in
          let room : HasRoom k c.tape.head (suc (length y)) = halted_room k f.steps c f.outcome y f.own final out ends
          in
          let near : right ≤ k.right = x.right_is_least k.left k.right run in
          let word_room : length word ≤ k.right = f.room in
          let far : cells_right (c.tape.head +ℤ pos (suc (length y))) ≤ k.right =
          cells_by (c.tape.head +ℤ pos (suc (length y))) k.right room.work in
          let copies : suc (length y) ≤ k.output = room.output in
          record {
            left = x.left_is_least k.left k.right run;
            right = omega arith;
            steps = enough_steps k f;
            output = omega arith;
          }

      pub halted_window : IsLeastWindow p word halted
      halted_window = record { fits = halted_fits; least = halted_least }

    -- ---- stuck

    module _ (stuck : IsMachineStuck p c) where
      abbrev stopped : Limits
      stopped = stuck_limits (length word) left right i

      stuck_fits : FitsRun p word stopped
      stuck_fits = record {
        room = omega arith;
        steps = i;
        outcome = Stuck c.state (scanned c.tape);
        comes_out = record {
          moment = c;
          run = run_wider left right left stopped.right p i (start p word) c (omega arith) (omega arith) x.run;
          in_time = omega arith;
          ends = sticks stuck refl;
        };
        own = tt;
      }

      stuck_least : (k : Limits) → FitsRun p word k → AreAtMost stopped k
      stuck_least k f =
          let run = same_run k f in
          let near : right ≤ k.right = x.right_is_least k.left k.right run in
          let word_room : length word ≤ k.right = f.room in
          record {
            left = x.left_is_least k.left k.right run;
            right = omega arith;
            steps = enough_steps k f;
            output = omega arith;
          }

      pub stuck_window : IsLeastWindow p word stopped
      stuck_window = record { fits = stuck_fits; least = stuck_least }
