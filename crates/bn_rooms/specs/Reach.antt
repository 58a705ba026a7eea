-- How far the heads of a machine of quadruples go (this project's own definition; Bennett 1973 for the quadruples).
use Rattle.std.specs.Prelude.{ℕ, max, List, length}
use Rattle.bn_lists.specs.Runs.{Reaches}
use Rattle.bn_machine.specs.Outcome.{Limits}
use Rattle.bn_extents.specs.Extents.{cells_left, cells_right}
use Rattle.bn_extents.specs.LeastWindow.{AreAtMost}
use Rattle.bn_quad.specs.Quadruples.{Configuration, Quadruples, QuadruplesRunTo}
use Rattle.bn_bennett_laws.specs.Stages.{rooms_of}

-- After each of its steps, the run of n steps from c to d has its heads within these limits, and each of their four
-- numbers is the least of all limits for which it has.
pub record HasReach (p : Quadruples) (n : ℕ) (c d : Configuration ℕ) (l : Limits) : Type 0 where
  pub run : Reaches (QuadruplesRunTo (rooms_of l) p) n c d
  pub least : (k : Limits) → Reaches (QuadruplesRunTo (rooms_of k) p) n c d → AreAtMost l k

-- the limits of a head that has not moved
abbrev pub no_reach : Limits
no_reach = record { left = 0; right = 0; steps = 0; output = 0 }

-- these limits, and as far as the heads of the configuration
abbrev pub reach_to : Limits → Configuration ℕ → Limits
reach_to l d = record {
  left = max l.left (cells_left d.one.head);
  right = max l.right (cells_right d.one.head);
  steps = max l.steps (cells_right d.two.head);
  output = max l.output (cells_right d.three.head);
}

-- these limits, with room for a word on each tape
abbrev pub with_words : Limits → List ℕ → List ℕ → List ℕ → Limits
with_words l one two three = record {
  left = l.left;
  right = max l.right (length one);
  steps = max l.steps (length two);
  output = max l.output (length three);
}
