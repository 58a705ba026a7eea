-- The extent of a run, step by step, and that of a run on the front of a word.
use Rattle.std.proofs.Common.{◌≡◌, ℕ, zero, suc, ◌+◌, ◌≤◌, max, refl, subst, arith}
use Rattle.std.specs.Prelude.{ℤ, pos, negsuc, ◌+ℤ◌, ◌≤ℤ◌}
use Rattle.std.proofs.lemmas.Int.{ints}
use Rattle.bn_lists.specs.Runs.{Reaches}
use Rattle.bn_lists.proofs.RunsLemmas.{runs_end_once, runs_more}
use Rattle.bn_machine.specs.Machine.{MachineRunsTo, Moment, Program}
use Rattle.bn_machine.specs.Steps.{AgreesUpTo}
use Rattle.bn_machine.specs.Window.{IsBetween, anywhere, within}
use Rattle.bn_machine.proofs.MachineStepLemmas.{agrees_step, agrees_turned, goes_anywhere, goes_inside}
use Rattle.bn_machine.proofs.MachineStepLemmas.{head_near, run_anywhere, steps_are_functions}
use Rattle.bn_extents.specs.Extents.{HasExtent, cells_left, cells_right}

-- ---- positions

between_more : (left right l r : ℕ) (p : ℤ) → left ≤ l → right ≤ r → IsBetween left right p → IsBetween l r p
between_more left right l r p low high h = record {
  above = omega (arith, ints, h.above);
  below = omega (arith, ints, h.below);
}

between_cells : (left right : ℕ) (p : ℤ) → cells_left p ≤ left → cells_right p ≤ right → IsBetween left right p
between_cells left right (pos n) low high = record { above = omega (arith, ints); below = omega (arith, ints) }
between_cells left right (negsuc n) low high = record { above = omega (arith, ints); below = omega (arith, ints) }

cells_between : (left right : ℕ) (p : ℤ) → IsBetween left right p → (cells_left p ≤ left) × (cells_right p ≤ right)
cells_between left right (pos n) h = (omega arith, let e = h.below in omega (arith, ints))
cells_between left right (negsuc n) h = (let e = h.above in omega (arith, ints), omega arith)

-- ---- runs in windows

-- a run in a window is one in each larger window
pub run_wider : (left right l r : ℕ) (p : Program) (n : ℕ) (c d : Moment) → left ≤ l → right ≤ r
    → Reaches (MachineRunsTo (within left right) p) n c d → Reaches (MachineRunsTo (within l r) p) n c d
run_wider left right l r p zero c d low high run = run
run_wider left right l r p (suc n) c d low high run = (
  run.0,
  goes_inside (within l r) p c run.0
      (between_more left right l r run.0.tape.head low high run.1.1.stays)
      (goes_anywhere (within left right) p c run.0 run.1),
  run_wider left right l r p n run.0 d low high run.2,
)

-- the last step of a run
pub last_step : {S : Type 0} (step : S → S → Type 0) (n : ℕ) (c e : S) → Reaches step (suc n) c e
    → (d : S) × Reaches step n c d × step d e
last_step step zero c e run = (c, refl, subst (λ x. step c x) run.2 run.1)
last_step step (suc n) c e run =
    let rest = last_step step n run.0 e run.2 in
    (rest.0, (run.0, run.1, rest.1), rest.2)

-- ---- extents

pub extent_start : (p : Program) (c : Moment) → HasExtent p 0 c c 0 0
extent_start p c = record {
  run = refl;
  left_is_least = λ l r run. omega arith;
  right_is_least = λ l r run. omega arith;
}

-- the last step of a run in a window: the run before it, and its head
before_last : (p : Program) (n l r : ℕ) (c d e : Moment) → Reaches (MachineRunsTo anywhere p) n c d
    → Reaches (MachineRunsTo (within l r) p) (suc n) c e
    → Reaches (MachineRunsTo (within l r) p) n c d × IsBetween l r e.tape.head
before_last p n l r c d e known run =
    let last = last_step (MachineRunsTo (within l r) p) n c e run in
    let same : last.0 ≡ d = runs_end_once (MachineRunsTo anywhere p) (steps_are_functions anywhere p) n c last.0 d
    (run_anywhere (within l r) p n c last.0 last.1) known in
    (subst (λ x. Reaches (MachineRunsTo (within l r) p) n c x) same last.1, last.2.1.stays)

-- one step more
pub extent_more : (p : Program) (n : ℕ) (c d e : Moment) (left right : ℕ) → HasExtent p n c d left right
    → MachineRunsTo anywhere p d e
    → HasExtent p (n + 1) c e (max left (cells_left e.tape.head)) (max right (cells_right e.tape.head))
extent_more p n c d e left right h step = record {
  run = runs_more (MachineRunsTo (within wide_left wide_right) p) n c d e
      (run_wider left right wide_left wide_right p n c d (omega arith) (omega arith) h.run)
      (goes_inside (within wide_left wide_right) p d e
      (between_cells wide_left wide_right e.tape.head (omega arith) (omega arith)) step);
  left_is_least = λ l r run. at_least_left l r (next run);
  right_is_least = λ l r run. at_least_right l r (next run);
}
  where
    wide_left : ℕ
    wide_left = max left (cells_left e.tape.head)

    wide_right : ℕ
    wide_right = max right (cells_right e.tape.head)

    next : {l r : ℕ} → Reaches (MachineRunsTo (within l r) p) (n + 1) c e
        → Reaches (MachineRunsTo (within l r) p) n c d × IsBetween l r e.tape.head
    next {l} {r} run = before_last p n l r c d e (run_anywhere (within left right) p n c d h.run)
        (let sum : n + 1 ≡ suc n = omega arith in subst (λ k. Reaches (MachineRunsTo (within l r) p) k c e) sum run)

    at_least_left : (l r : ℕ) → Reaches (MachineRunsTo (within l r) p) n c d × IsBetween l r e.tape.head
        → max left (cells_left e.tape.head) ≤ l
    at_least_left l r both =
        let first : left ≤ l = h.left_is_least l r both.0 in
        let last : cells_left e.tape.head ≤ l = (cells_between l r e.tape.head both.1).0 in
        omega arith

    at_least_right : (l r : ℕ) → Reaches (MachineRunsTo (within l r) p) n c d × IsBetween l r e.tape.head
        → max right (cells_right e.tape.head) ≤ r
    at_least_right l r both =
        let first : right ≤ r = h.right_is_least l r both.0 in
        let last : cells_right e.tape.head ≤ r = (cells_between l r e.tape.head both.1).1 in
        omega arith

-- ---- moments that agree

-- runs in a window from two moments that agree up to a position that no head passes
pub run_alike : (b : ℤ) (l r : ℕ) (p : Program) (n : ℕ) (c d e : Moment) → AgreesUpTo b c d
    → (c.tape.head +ℤ pos n) ≤ℤ b → Reaches (MachineRunsTo (within l r) p) n c e
    → (f : Moment) × Reaches (MachineRunsTo (within l r) p) n d f × AgreesUpTo b e f
run_alike b l r p zero c d e a h run = (d, refl, subst (λ m. AgreesUpTo b m d) run a)
run_alike b l r p (suc n) c d e a h run =
    let near = head_near (within l r) p c run.0 run.1 in
    let up : run.0.tape.head ≤ℤ (c.tape.head +ℤ pos 1) = near.1 in
    let inside : c.tape.head ≤ℤ b = omega (arith, ints) in
    let further : (run.0.tape.head +ℤ pos n) ≤ℤ b = omega (arith, ints) in
    let step = agrees_step b p c d run.0 a inside (goes_anywhere (within l r) p c run.0 run.1) in
    let stays : IsBetween l r step.0.tape.head = subst (IsBetween l r) step.2.head run.1.1.stays in
    let rest = run_alike b l r p n run.0 step.0 e step.2 further run.2 in
    (rest.0, (step.0, goes_inside (within l r) p d step.0 stays step.1, rest.1), rest.2)

-- they end at the one moment at which the other's run is known to end
run_to : (b : ℤ) (l r : ℕ) (p : Program) (n : ℕ) (c d e f : Moment) → AgreesUpTo b c d → (c.tape.head +ℤ pos n) ≤ℤ b
    → Reaches (MachineRunsTo anywhere p) n d f → Reaches (MachineRunsTo (within l r) p) n c e
    → Reaches (MachineRunsTo (within l r) p) n d f
run_to b l r p n c d e f a h known run =
    let alike = run_alike b l r p n c d e a h run in
    let same : alike.0 ≡ f = runs_end_once (MachineRunsTo anywhere p) (steps_are_functions anywhere p) n d alike.0 f
    (run_anywhere (within l r) p n d alike.0 alike.1) known in
    subst (λ x. Reaches (MachineRunsTo (within l r) p) n d x) same alike.1

-- and have the same extent
pub extent_alike : (b : ℤ) (p : Program) (n : ℕ) (c d e f : Moment) (left right : ℕ) → AgreesUpTo b c d
    → (c.tape.head +ℤ pos n) ≤ℤ b → HasExtent p n c e left right → Reaches (MachineRunsTo anywhere p) n d f
    → HasExtent p n d f left right
extent_alike b p n c d e f left right a h x known = record {
  run = run_to b left right p n c d e f a h known x.run;
  left_is_least = λ l r run. x.left_is_least l r (back l r run);
  right_is_least = λ l r run. x.right_is_least l r (back l r run);
}
  where
    near : (d.tape.head +ℤ pos n) ≤ℤ b
    near = let e : c.tape.head ≡ d.tape.head = a.head in omega (arith, ints)

    back : (l r : ℕ) → Reaches (MachineRunsTo (within l r) p) n d f → Reaches (MachineRunsTo (within l r) p) n c e
    back l r run = run_to b l r p n d c f e (agrees_turned b c d a) near
        (run_anywhere (within left right) p n c e x.run) run
