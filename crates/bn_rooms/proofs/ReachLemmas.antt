-- How far the heads of a run go, step by step.
use Rattle.std.proofs.Common.{◌≡◌, ℕ, zero, suc, ◌+◌, ◌≤◌, max, refl, subst, arith}
use Rattle.std.specs.Prelude.{ℤ, pos, negsuc, ◌≤ℤ◌}
use Rattle.std.proofs.lemmas.Int.{ints}
use Rattle.bn_lists.specs.Runs.{Reaches}
use Rattle.bn_lists.proofs.FiniteLemmas.{runs_mapped}
use Rattle.bn_lists.proofs.RunsLemmas.{runs_end_once, runs_more}
use Rattle.bn_machine.specs.Outcome.{Limits}
use Rattle.bn_machine.specs.Window.{IsBetween}
use Rattle.bn_extents.specs.Extents.{cells_left, cells_right}
use Rattle.bn_extents.specs.LeastWindow.{AreAtMost}
use Rattle.bn_extents.proofs.ExtentLemmas.{last_step}
use Rattle.bn_quad.specs.Quadruples.{AreAllowed, Configuration, Quadruples, QuadruplesRunTo, Rooms, everywhere}
use Rattle.bn_quad.proofs.QuadStepLemmas.{goes_everywhere, goes_function}
use Rattle.bn_bennett_laws.specs.Stages.{rooms_of}
use Rattle.bn_rooms.specs.OneSided.{OneSidedStep}
use Rattle.bn_rooms.specs.Reach.{HasReach, no_reach, reach_to}

-- ---- positions

between_more : (left right l r : ℕ) (p : ℤ) → left ≤ l → right ≤ r → IsBetween left right p → IsBetween l r p
between_more left right l r p low high h = record {
  above = omega (arith, ints, h.above);
  below = omega (arith, ints, h.below);
}

between_cells : (left right : ℕ) (p : ℤ) → cells_left p ≤ left → cells_right p ≤ right → IsBetween left right p
between_cells left right (pos n) low high = record { above = omega (arith, ints); below = omega (arith, ints) }
between_cells left right (negsuc n) low high = record { above = omega (arith, ints); below = omega (arith, ints) }

cells_between : (left right : ℕ) (p : ℤ) → IsBetween left right p → (cells_left p ≤ left) × (cells_right p ≤ right)
cells_between left right (pos n) h = (omega arith, let e = h.below in omega (arith, ints))
cells_between left right (negsuc n) h = (let e = h.above in omega (arith, ints), omega arith)

right_between : (right : ℕ) (p : ℤ) → pos 0 ≤ℤ p → cells_right p ≤ right → IsBetween 0 right p
right_between right (pos n) low high = record { above = omega (arith, ints); below = omega (arith, ints) }
right_between right (negsuc n) low high = absurd (omega (arith, ints, low))

-- ---- steps

pub allowed_more : (k l : Limits) (d : Configuration ℕ) → AreAtMost k l → AreAllowed (rooms_of k) d
    → AreAllowed (rooms_of l) d
allowed_more k l d more h = record {
  one = between_more k.left k.right l.left l.right d.one.head more.left more.right h.one;
  two = between_more 0 k.steps 0 l.steps d.two.head (omega arith) more.steps h.two;
  three = between_more 0 k.output 0 l.output d.three.head (omega arith) more.output h.three;
}

-- a step is one in all rooms that allow its end
pub goes_in : (rooms other : Rooms) (p : Quadruples) (c d : Configuration ℕ) → AreAllowed other d
    → QuadruplesRunTo rooms p c d → QuadruplesRunTo other p c d
goes_in rooms other p c d stays g = (
  g.0,
  record { going = g.1.going; rule = g.1.rule; first = g.1.first; gives = g.1.gives; stays = stays },
)

pub goes_free : (rooms : Rooms) (p : Quadruples) (c d : Configuration ℕ) → QuadruplesRunTo rooms p c d
    → QuadruplesRunTo everywhere p c d
goes_free rooms p c d g = (g.0, goes_everywhere rooms p g.0 c d g.1)

pub room_one_sided : (l : Limits) (p : Quadruples) (c d : Configuration ℕ) → QuadruplesRunTo (rooms_of l) p c d
    → OneSidedStep p c d
room_one_sided l p c d g = record {
  goes = goes_free (rooms_of l) p c d g;
  two = let e = g.1.stays.two.above in omega (arith, ints, e);
  three = let e = g.1.stays.three.above in omega (arith, ints, e);
}

-- ---- runs

pub run_free : (rooms : Rooms) (p : Quadruples) (n : ℕ) (c d : Configuration ℕ)
    → Reaches (QuadruplesRunTo rooms p) n c d
    → Reaches (QuadruplesRunTo everywhere p) n c d
run_free rooms p n c d run = runs_mapped (QuadruplesRunTo rooms p) (QuadruplesRunTo everywhere p)
    (λ a b g. goes_free rooms p a b g) n c d run

pub run_one_sided : (l : Limits) (p : Quadruples) (n : ℕ) (c d : Configuration ℕ)
    → Reaches (QuadruplesRunTo (rooms_of l) p) n c d → Reaches (OneSidedStep p) n c d
run_one_sided l p n c d run = runs_mapped (QuadruplesRunTo (rooms_of l) p) (OneSidedStep p)
    (λ a b g. room_one_sided l p a b g) n c d run

pub one_sided_free : (p : Quadruples) (n : ℕ) (c d : Configuration ℕ) → Reaches (OneSidedStep p) n c d
    → Reaches (QuadruplesRunTo everywhere p) n c d
one_sided_free p n c d run = runs_mapped (OneSidedStep p) (QuadruplesRunTo everywhere p) (λ a b g. g.goes) n c d run

pub run_wider : (k l : Limits) (p : Quadruples) (n : ℕ) (c d : Configuration ℕ) → AreAtMost k l
    → Reaches (QuadruplesRunTo (rooms_of k) p) n c d → Reaches (QuadruplesRunTo (rooms_of l) p) n c d
run_wider k l p n c d more run = runs_mapped (QuadruplesRunTo (rooms_of k) p) (QuadruplesRunTo (rooms_of l) p)
    (λ a b g. goes_in (rooms_of k) (rooms_of l) p a b (allowed_more k l b more g.1.stays) g) n c d run

-- ---- how far

pub reach_start : (p : Quadruples) (c : Configuration ℕ) → HasReach p 0 c c no_reach
reach_start p c = record {
  run = refl;
  least = λ k run. record { left = omega arith; right = omega arith; steps = omega arith; output = omega arith };
}

at_most_reach : (l : Limits) (d : Configuration ℕ) → AreAtMost l (reach_to l d)
at_most_reach l d = record { left = omega arith; right = omega arith; steps = omega arith; output = omega arith }

allowed_reach : (l : Limits) (d : Configuration ℕ) → pos 0 ≤ℤ d.two.head → pos 0 ≤ℤ d.three.head
    → AreAllowed (rooms_of (reach_to l d)) d
allowed_reach l d two three = record {
  one = between_cells (max l.left (cells_left d.one.head)) (max l.right (cells_right d.one.head)) d.one.head
      (omega arith) (omega arith);
  two = right_between (max l.steps (cells_right d.two.head)) d.two.head two (omega arith);
  three = right_between (max l.output (cells_right d.three.head)) d.three.head three (omega arith);
}

reach_within : (l k : Limits) (d : Configuration ℕ) → AreAtMost l k → AreAllowed (rooms_of k) d
    → AreAtMost (reach_to l d) k
reach_within l k d more h =
    let one = cells_between k.left k.right d.one.head h.one in
    let two = cells_between 0 k.steps d.two.head h.two in
    let three = cells_between 0 k.output d.three.head h.three in
    let left : l.left ≤ k.left = more.left in
    let right : l.right ≤ k.right = more.right in
    let steps : l.steps ≤ k.steps = more.steps in
    let output : l.output ≤ k.output = more.output in
    let one_left : cells_left d.one.head ≤ k.left = one.0 in
    let one_right : cells_right d.one.head ≤ k.right = one.1 in
    let two_right : cells_right d.two.head ≤ k.steps = two.1 in
    let three_right : cells_right d.three.head ≤ k.output = three.1 in
    record { left = omega arith; right = omega arith; steps = omega arith; output = omega arith }

-- the last step of a run in limits: the run before it, and where its heads are
before_last : (p : Quadruples) (n : ℕ) (k : Limits) (c d e : Configuration ℕ)
    → Reaches (QuadruplesRunTo everywhere p) n c d → Reaches (QuadruplesRunTo (rooms_of k) p) (suc n) c e
    → Reaches (QuadruplesRunTo (rooms_of k) p) n c d × AreAllowed (rooms_of k) e
before_last p n k c d e known run =
    let last = last_step (QuadruplesRunTo (rooms_of k) p) n c e run in
    let same : last.0 ≡ d = runs_end_once (QuadruplesRunTo everywhere p) (goes_function everywhere p) n c last.0 d
    (run_free (rooms_of k) p n c last.0 last.1) known in
    (subst (λ (x : Configuration ℕ). Reaches (QuadruplesRunTo (rooms_of k) p) n c x) same last.1, last.2.1.stays)

-- one step more
pub reach_more : (p : Quadruples) (n : ℕ) (c d e : Configuration ℕ) (l : Limits) → HasReach p n c d l
    → OneSidedStep p d e → HasReach p (n + 1) c e (reach_to l e)
reach_more p n c d e l h step = record {
  run = runs_more (QuadruplesRunTo (rooms_of (reach_to l e)) p) n c d e
      (run_wider l (reach_to l e) p n c d (at_most_reach l e) h.run)
      (goes_in everywhere (rooms_of (reach_to l e)) p d e (allowed_reach l e step.two step.three) step.goes);
  least = λ k run.
      let sum : n + 1 ≡ suc n = omega arith in
      let before = before_last p n k c d e (run_free (rooms_of l) p n c d h.run)
      (subst (λ (i : ℕ). Reaches (QuadruplesRunTo (rooms_of k) p) i c e) sum run) in
      reach_within l k e (h.least k before.0) before.1;
}

-- each run on one-sided tapes has a reach
pub reach_exists : (p : Quadruples) (n : ℕ) (c d : Configuration ℕ) → Reaches (OneSidedStep p) n c d
    → (l : Limits) × HasReach p n c d l
reach_exists p zero c d run = (
  no_reach,
  subst (λ (x : Configuration ℕ). HasReach p 0 c x no_reach) run (reach_start p c),
)
reach_exists p (suc n) c d run =
    let last = last_step (OneSidedStep p) n c d run in
    let before = reach_exists p n c last.0 last.1 in
    let sum : n + 1 ≡ suc n = omega arith in (
      reach_to before.0 d,
      subst (λ (i : ℕ). HasReach p i c d (reach_to before.0 d)) sum
          (reach_more p n c last.0 d before.0 before.1 last.2),
    )
