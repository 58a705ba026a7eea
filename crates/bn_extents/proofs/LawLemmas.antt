-- The laws on least windows.
use Rattle.std.proofs.Common.{◌≡◌, ℕ, zero, suc, ◌+◌, ◌<◌, ◌≤◌, ◌⊎◌, inl, inr, max, List, length, subst, arith}
use Rattle.std.specs.Prelude.{ℤ, pos, ◌+ℤ◌, ◌≤ℤ◌}
use Rattle.std.proofs.lemmas.Int.{ints}
use Rattle.std.proofs.lemmas.Bool.{cases_lt}
use Rattle.bn_lists.specs.Runs.{Reaches}
use Rattle.bn_machine.specs.Machine.{MachineRunsTo, Moment, Program, start}
use Rattle.bn_machine.specs.Outcome.{ComesOut, Copies, HasOutcome, Limits, Outcome, Halted, Outside, Stuck}
use Rattle.bn_machine.specs.Outcome.{copied, halts, leaves, output_short, runs_out, sticks, work_short}
use Rattle.bn_machine.specs.Run as free
use Rattle.bn_machine.specs.Window.{anywhere}
use Rattle.bn_machine.proofs.MachineStepLemmas.{final_not_going, stuck_not_going}
use Rattle.bn_machine.proofs.OutcomeLemmas.{outcome_exists}
use Rattle.bn_extents.specs.Extents.{HasExtent, cells_left, cells_right}
use Rattle.bn_extents.specs.LeastWindow.{AreAtMost, IsLeastWindow, IsOwnEnd}
use Rattle.bn_extents.specs.Laws.{HasLeastWindow, IsTooSmall, LargerWindowsEndAlike, LeastWindowIsOne}
use Rattle.bn_extents.specs.Laws.{SmallerWindowsAreTooSmall}
use Rattle.bn_extents.proofs.ExtentLemmas.{extent_more, extent_start, last_step, run_wider}
use Rattle.bn_extents.proofs.LeastLemmas.{halted_window, stuck_window}

-- each run has an extent
pub extent_exists : (p : Program) (n : ℕ) (c d : Moment) → Reaches (MachineRunsTo anywhere p) n c d
    → (left : ℕ) × (right : ℕ) × HasExtent p n c d left right
extent_exists p zero c d run = (0, 0, subst (λ (m : Moment). HasExtent p 0 c m 0 0) run (extent_start p c))
extent_exists p (suc n) c d run =
    let last = last_step (MachineRunsTo anywhere p) n c d run in
    let before = extent_exists p n c last.0 last.1 in
    let sum : n + 1 ≡ suc n = omega arith in (
      max before.0 (cells_left d.tape.head),
      max before.1 (cells_right d.tape.head),
      subst (λ (k : ℕ). HasExtent p k c d (max before.0 (cells_left d.tape.head))
          (max before.1 (cells_right d.tape.head))) sum
          (extent_more p n c last.0 d before.0 before.1 before.2 last.2),
    )

pub least_window_exists : HasLeastWindow
least_window_exists p word n h = by_end h.comes_out.ends
  where
    x : (left : ℕ) × (right : ℕ) × HasExtent p h.steps (start p word) h.comes_out.moment left right
    x = extent_exists p h.steps (start p word) h.comes_out.moment h.comes_out.run

    by_end : free.EndsAt p n h.steps h.comes_out.moment h.ending → (l : Limits) × IsLeastWindow p word l
    by_end (free.halts y final out e) = (
      _,
      halted_window p word h.steps x.0 x.1 h.comes_out.moment x.2
          (λ d step. final_not_going anywhere p h.comes_out.moment d final step) final y out,
    )
    by_end (free.sticks stuck e) = (
      _,
      stuck_window p word h.steps x.0 x.1 h.comes_out.moment x.2
          (λ d step. stuck_not_going anywhere p h.comes_out.moment d stuck step) stuck,
    )
    by_end (free.runs d step all e) = absurd (h.ended e)

-- two limits that are each at most the other
same_limits : (k l : Limits) → AreAtMost k l → AreAtMost l k → k ≡ l
same_limits k l a b =
    let left : k.left ≡ l.left = let x = a.left in let y = b.left in omega arith in
    let right : k.right ≡ l.right = let x = a.right in let y = b.right in omega arith in
    let steps : k.steps ≡ l.steps = let x = a.steps in let y = b.steps in omega arith in
    let output : k.output ≡ l.output = let x = a.output in let y = b.output in omega arith in
    λ i. record { left = left i; right = right i; steps = steps i; output = output i }

pub least_window_is_one : LeastWindowIsOne
least_window_is_one p word k l a b = same_limits k l (a.least l b.fits) (b.least k a.fits)

-- ---- larger windows

larger_copies : (k l : Limits) (head : ℤ) (y : List ℕ) (o : Outcome) → IsOwnEnd o → AreAtMost k l → Copies k head y o
    → Copies l head y o
larger_copies k l head y o own more (copied room e) = copied (λ j some early.
    let here = room j some early in
    let work : (head +ℤ pos j) ≤ℤ pos k.right = here.work in
    let wider : k.right ≤ l.right = more.right in
    let output : j ≤ k.output = here.output in
    let longer : k.output ≤ l.output = more.output in
    record { work = omega (arith, ints); output = omega arith }) e
larger_copies k l head y o own more (work_short j short beyond e) = absurd (subst IsOwnEnd e own)
larger_copies k l head y o own more (output_short j short inside past e) = absurd (subst IsOwnEnd e own)

larger_ends : (p : Program) (k l : Limits) (i : ℕ) (c : Moment) (o : Outcome) → IsOwnEnd o → AreAtMost k l
    → ComesOut p k i c o → ComesOut p l i c o
larger_ends p k l i c o own more (halts y final out copies) = halts y final out
    (larger_copies k l c.tape.head y o own more copies)
larger_ends p k l i c o own more (sticks stuck e) = sticks stuck e
larger_ends p k l i c o own more (runs_out d goes at e) = absurd (subst IsOwnEnd e own)
larger_ends p k l i c o own more (leaves d side goes early beyond e) = absurd (subst IsOwnEnd e own)

pub larger_windows_end_alike : LargerWindowsEndAlike
larger_windows_end_alike p word k l i o own more h = record {
  moment = h.moment;
  run = run_wider k.left k.right l.left l.right p i (start p word) h.moment more.left more.right h.run;
  in_time = let early : i ≤ k.steps = h.in_time in let longer : k.steps ≤ l.steps = more.steps in omega arith;
  ends = larger_ends p k l i h.moment o own more h.ends;
}

-- ---- smaller windows

pub smaller_windows_are_too_small : SmallerWindowsAreTooSmall
smaller_windows_are_too_small p word k l least smaller = by_room (cases_lt k.right (length word))
  where
    found : (i : ℕ) × (o : Outcome) × HasOutcome p word k i o
    found = outcome_exists p word k

    by_outcome : length word ≤ k.right → (i : ℕ) (o : Outcome) → HasOutcome p word k i o → IsTooSmall p word k
    by_outcome room i (Halted y) h = absurd (smaller (least.least k (record
        { room = room; steps = i; outcome = Halted y; comes_out = h; own = tt })))
    by_outcome room i (Stuck state symbol) h = absurd (smaller (least.least k (record
        { room = room; steps = i; outcome = Stuck state symbol; comes_out = h; own = tt })))
    by_outcome room i (Outside tape side) h = inr (i, tape, side, h)

    by_room : (k.right < length word) ⊎ (length word ≤ k.right) → IsTooSmall p word k
    by_room (inl short) = inl short
    by_room (inr room) = by_outcome room found.0 found.1 found.2
