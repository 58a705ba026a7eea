-- Runs of a machine that halt in a window.
use Rattle.std.specs.Prelude.{◌≡◌, ℕ, zero, suc, ◌+◌, ◌<◌, ◌≤◌, ℤ, pos, ◌+ℤ◌, ◌-ℤ◌, ◌≤ℤ◌, List, length, max}
use Rattle.std.proofs.Common.{refl, subst, arith}
use Rattle.std.proofs.lemmas.Int.{ints}
use Rattle.bn_lists.specs.Runs.{Reaches}
use Rattle.bn_machine.specs.Machine.{Program, Moment, MachineRunsTo, IsFinal, start}
use Rattle.bn_machine.specs.Window.{Room, anywhere, within, Allows, IsBetween}
use Rattle.bn_machine.specs.Run.{IsOutput}
use Rattle.bn_machine.specs.Run as free
use Rattle.bn_machine.specs.Outcome.{Limits, Halted, HasRoom, copied, work_short, output_short}
use Rattle.bn_machine.specs.Outcome.{ComesOut, halts, sticks, runs_out, leaves, HasOutcome}
use Rattle.bn_machine.proofs.MachineStepLemmas.{goes_anywhere, goes_inside, head_near, head_after, run_anywhere}
use Rattle.bn_machine.proofs.OutcomeLemmas.{ending_once}
use Rattle.bn_machine.proofs.TurnsLemmas.{after_inside}
use Rattle.bn_bennett_laws.specs.Laws.{HaltsAfter}
use Rattle.bn_erase_laws.specs.EraseWindows.{HaltsRightOfStart, right_window_for, window_for}
use Rattle.bn_erase_laws.specs.EraseWindows.{window_of_both}
use Rattle.bn_erase_laws.specs.EraseWindowLaws.{HaltsInGreaterWindows, WindowsOfBothSuffice, StepsGiveWindow}

-- ---- rooms

wider : (a b c d : ℕ) → a ≤ c → b ≤ d → (z : ℤ) → IsBetween a b z → IsBetween c d z
wider a b c d low high z h =
    let above : (pos 0 -ℤ pos a) ≤ℤ z = h.above in
    let below : z ≤ℤ pos b = h.below in
    record { above = omega (arith, ints); below = omega (arith, ints) }

-- a run in a room is one in each room that allows as much
in_more_room : (room other : Room) → ((z : ℤ) → Allows room z → Allows other z) → (p : Program) (i : ℕ) (c d : Moment)
    → Reaches (MachineRunsTo room p) i c d → Reaches (MachineRunsTo other p) i c d
in_more_room room other more p zero c d run = run
in_more_room room other more p (suc i) c d run = (
  run.0,
  goes_inside other p c run.0 (more run.0.tape.head run.1.1.stays) (goes_anywhere room p c run.0 run.1),
  in_more_room room other more p i run.0 d run.2,
)

-- ---- halting

-- what is known of a moment at which a bounded run halts with the output y
pub record HaltsAt (p : Program) (l : Limits) (c : Moment) (y : List ℕ) : Type 0 where
  pub final : IsFinal p c
  pub output : IsOutput c.tape y
  pub room : (j : ℕ) → 0 < j → j ≤ length y + 1 → HasRoom l c.tape.head j

pub halts_at : (p : Program) (l : Limits) (i : ℕ) (c : Moment) (y : List ℕ) → ComesOut p l i c (Halted y)
    → HaltsAt p l c y
halts_at p l i c y (halts z final out (copied room why)) =
    let same : z ≡ y = cc in
    subst (HaltsAt p l c) same (record { final = final; output = out; room = room })
halts_at p l i c y (halts z final out (work_short j short beyond why)) = absurd (cc)
halts_at p l i c y (halts z final out (output_short j short inside past why)) = absurd (cc)
halts_at p l i c y (sticks stuck why) = absurd (cc)
halts_at p l i c y (runs_out d goes full why) = absurd (cc)
halts_at p l i c y (leaves d side goes early beyond why) = absurd (cc)

pub halts_after : (p : Program) (word : List ℕ) (l : Limits) (v : ℕ) (y : List ℕ) → HasOutcome p word l v (Halted y)
    → HaltsAfter p word v y
halts_after p word l v y h =
    let at = halts_at p l v h.moment y h.ends in
    record {
      moment = h.moment;
      run = run_anywhere (within l.left l.right) p v (start p word) h.moment h.run;
      final = at.final;
      output = at.output;
    }

-- a machine halts once
pub halts_once : (p : Program) (word : List ℕ) (i j : ℕ) (y z : List ℕ) → HaltsAfter p word i y → HaltsAfter p word j z
    → (i ≡ j) × (y ≡ z)
halts_once p word i j y z h k =
    let first : free.HasEnding p word (i + j) i (free.Halted y) = record {
      moment = h.moment;
      run = h.run;
      in_time = omega arith;
      ends = free.halts y h.final h.output refl;
    } in
    let second : free.HasEnding p word (i + j) j (free.Halted z) = record {
      moment = k.moment;
      run = k.run;
      in_time = omega arith;
      ends = free.halts z k.final k.output refl;
    } in
    let same = ending_once p word (i + j) i j (free.Halted y) (free.Halted z) first second in
    let words : free.Halted y ≡ free.Halted z = same.1 in
    (same.0, cc)

-- ---- windows

pub halts-greater : HaltsInGreaterWindows
halts-greater p word a b v y inside h =
    let at = halts_at p a v h.moment y h.ends in
    let left : a.left ≤ b.left = inside.left in
    let right : a.right ≤ b.right = inside.right in
    let steps : a.steps ≤ b.steps = inside.steps in
    let output : a.output ≤ b.output = inside.output in
    let in_time : v ≤ a.steps = h.in_time in
    record {
      moment = h.moment;
      run = in_more_room (within a.left a.right) (within b.left b.right)
          (wider a.left a.right b.left b.right left right)
          p v (start p word) h.moment h.run;
      in_time = omega arith;
      ends = halts y at.final at.output (copied (λ j low high. more at j low high right output) refl);
    }
  where
    more : HaltsAt p a h.moment y → (j : ℕ) → 0 < j → j ≤ length y + 1 → a.right ≤ b.right → a.output ≤ b.output
        → HasRoom b h.moment.tape.head j
    more at j low high right output =
        let room = at.room j low high in
        let work : (h.moment.tape.head +ℤ pos j) ≤ℤ pos a.right = room.work in
        let cells : j ≤ a.output = room.output in
        record { work = omega (arith, ints); output = omega arith }

pub windows-suffice : WindowsOfBothSuffice
windows-suffice p q x y a b v w there back from_zero = record {
  there = halts-greater p x a (window_of_both a b) v y (record {
    left = omega arith;
    right = omega arith;
    steps = omega arith;
    output = omega arith;
  }) there;
  back = halts-greater q y b (record {
    left = 0;
    right = max a.output b.right;
    steps = max a.steps b.steps;
    output = max a.right b.output;
  }) w x (record {
    left = omega arith;
    right = omega arith;
    steps = omega arith;
    output = omega arith;
  }) back;
}

-- ---- steps

module _ (p : Program) (left : ℕ) (right : ℕ) where
  -- so many steps from a head that has so many cells before it stay in the window, where they stay right of its left
  -- end
  near_run : (i : ℕ) (c d : Moment) (other : ℕ) → (c.tape.head +ℤ pos i) ≤ℤ pos right
      → Reaches (MachineRunsTo (within left other) p) i c d → Reaches (MachineRunsTo (within left right) p) i c d
  near_run zero c d other near run = run
  near_run (suc i) c d other near run =
      let close = head_near (within left other) p c run.0 run.1 in
      let high : run.0.tape.head ≤ℤ (c.tape.head +ℤ pos 1) = close.1 in
      let above : (pos 0 -ℤ pos left) ≤ℤ run.0.tape.head = run.1.1.stays.above in (
        run.0,
        goes_inside (within left right) p c run.0 (record { above = above; below = omega (arith, ints) })
            (goes_anywhere (within left other) p c run.0 run.1),
        near_run i run.0 d other (omega (arith, ints)) run.2,
      )

-- copying has room where the head has come no further than the steps
copies_room : (left v k : ℕ) (h : ℤ) → h ≤ℤ pos v → (j : ℕ) → 0 < j → j ≤ k + 1
    → HasRoom (record { left = left; right = v + k + 1; steps = v; output = k + 1 }) h j
copies_room left v k h near j low high = record { work = omega (arith, ints); output = high }

in_window_for : (p : Program) (word : List ℕ) (v : ℕ) (y : List ℕ) → HaltsAfter p word v y
    → HasOutcome p word (window_for v (length y)) v (Halted y)
in_window_for p word v y h =
    let near = head_after anywhere p word v h.moment h.run in
    record {
      moment = h.moment;
      run = after_inside v (v + length y + 1) p word v h.moment (omega arith) (omega arith) h.run;
      in_time = omega arith;
      ends = halts y h.final h.output (copied (copies_room v v (length y) h.moment.tape.head near.below) refl);
    }

in_right_window : (p : Program) (word : List ℕ) (v : ℕ) (y : List ℕ) → HaltsRightOfStart p word v y
    → HasOutcome p word (right_window_for v (length y)) v (Halted y)
in_right_window p word v y h =
    let near = head_after (within 0 h.right) p word v h.moment h.run in
    record {
      moment = h.moment;
      run = near_run p 0 (v + length y + 1) v (start p word) h.moment h.right (omega (arith, ints)) h.run;
      in_time = omega arith;
      ends = halts y h.final h.output (copied (copies_room 0 v (length y) h.moment.tape.head near.below) refl);
    }

pub steps-give : StepsGiveWindow
steps-give p q x y v w there back =
    windows-suffice p q x y (window_for v (length y)) (right_window_for w (length x)) v w
    (in_window_for p x v y there) (in_right_window q y w x back) refl
