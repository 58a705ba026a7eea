-- How far the head of a machine goes (this project's own definition; Bennett 1973 for the machine).
use Rattle.std.specs.Prelude.{ℕ, suc, ◌≤◌, ℤ, pos, negsuc}
use Rattle.bn_lists.specs.Runs.{Reaches}
use Rattle.bn_machine.specs.Machine.{MachineRunsTo, Moment, Program}
use Rattle.bn_machine.specs.Window.{within}

-- how many cells a position lies left of 0, and how many right of 0
abbrev pub cells_left : ℤ → ℕ
cells_left (pos n) = 0
cells_left (negsuc n) = suc n

abbrev pub cells_right : ℤ → ℕ
cells_right (pos n) = n
cells_right (negsuc n) = 0

-- After each of its steps, the run of n steps from c to d has its head between -left and right, and no window with an
-- end nearer to 0 does. Therefore -left is the least position that a step reaches, or 0 if that is not negative;
-- right is the greatest one, or 0 if that is negative.
pub record HasExtent (p : Program) (n : ℕ) (c d : Moment) (left right : ℕ) : Type 0 where
  pub run : Reaches (MachineRunsTo (within left right) p) n c d
  pub left_is_least : (l r : ℕ) → Reaches (MachineRunsTo (within l r) p) n c d → left ≤ l
  pub right_is_least : (l r : ℕ) → Reaches (MachineRunsTo (within l r) p) n c d → right ≤ r
