-- Runs of a machine of quadruples on tapes of which the second and the third are one-sided: they begin at cell 0, as in
-- the windows of its circuit (Bennett 1973 for the quadruples; the one-sided tapes are this project's own profile).
use Rattle.std.specs.Prelude.{◌≡◌, ℕ, ◌<◌, ◌≤◌, ◌⊎◌, pos, ◌≤ℤ◌, ◌<ℤ◌}
use Rattle.bn_lists.specs.Runs.{Reaches}
use Rattle.bn_quad.specs.Quadruples.{Configuration, IsQuadrupleStuck, Quadruples, QuadruplesRunTo, everywhere}
use Rattle.bn_quad.specs.Quadruples.{final_state_of}

-- One step of the machine after which the heads of tapes 2 and 3 are not left of cell 0.
pub record OneSidedStep (p : Quadruples) (c d : Configuration ℕ) : Type 0 where
  pub goes : QuadruplesRunTo everywhere p c d
  pub two : pos 0 ≤ℤ d.two.head
  pub three : pos 0 ≤ℤ d.three.head

-- this is the least of the tapes 2 and 3 whose head is left of cell 0
pub data IsFirstLeft (d : Configuration ℕ) (tape : ℕ) : Type 0 where
  second : d.two.head <ℤ pos 0 → tape ≡ 2 → IsFirstLeft d tape
  third : pos 0 ≤ℤ d.two.head → d.three.head <ℤ pos 0 → tape ≡ 3 → IsFirstLeft d tape

-- the machine has halted or is stuck
abbrev pub HasEnded : Quadruples → Configuration ℕ → Type 0
HasEnded p c = (c.state ≡ final_state_of p.rules) ⊎ IsQuadrupleStuck p c

-- The machine halts or is stuck within n steps from c, and no head leaves a one-sided tape before.
pub record EndsWithin (p : Quadruples) (c : Configuration ℕ) (n : ℕ) : Type 0 where
  pub steps : ℕ
  pub last : Configuration ℕ
  pub in_time : steps ≤ n
  pub run : Reaches (OneSidedStep p) steps c last
  pub ended : HasEnded p last

-- One of the first n steps from c, the first of them that does so, moves a head left of cell 0 on tape 2 or 3; the
-- least such tape is this one.
pub record LeavesWithin (p : Quadruples) (c : Configuration ℕ) (n tape : ℕ) : Type 0 where
  pub steps : ℕ
  pub last : Configuration ℕ
  pub next : Configuration ℕ
  pub in_time : steps < n
  pub run : Reaches (OneSidedStep p) steps c last
  pub goes : QuadruplesRunTo everywhere p last next
  pub left : IsFirstLeft next tape

-- The machine makes n steps from c, in which no head leaves a one-sided tape, and does not halt and is not stuck then.
pub record RunsOn (p : Quadruples) (c : Configuration ℕ) (n : ℕ) : Type 0 where
  pub last : Configuration ℕ
  pub next : Configuration ℕ
  pub run : Reaches (OneSidedStep p) n c last
  pub goes : QuadruplesRunTo everywhere p last next
