-- The run of a machine on a tape in a window, with the extent of its head.
use Rattle.std.specs.Prelude.{◌≡◌, ◌≢◌, ℕ, suc, ◌<◌, ◌≤◌, ◌+◌, pos, ◌+ℤ◌, ◌≤ℤ◌, ◌⊎◌, List, Option, Some, None}
use Rattle.bn_machine.specs.Machine.{Program, moment}
use Rattle.bn_machine.specs.MachineCalls.{IsTurn}
use Rattle.bn_machine.specs.Outcome.{Limits}
use Rattle.bn_machine.specs.Run.{HasEnding, Running}
use Rattle.bn_machine.specs.Tape.{Tape, cell}
use Rattle.bn_machine.specs.Window.{Windowed}
use Rattle.bn_machine.specs.declared.machine.Turn.{Turn}
use Rattle.bn_machine.specs.declared.machine.Turn.TheVariants as turns
use Rattle.bn_machine.specs.declared.tape.TheConstants.Tape.{GREATEST_SIDE}
use Rattle.bn_reply_machines.specs.MachineRun.{Reached}
use Rattle.bn_extents.specs.Extents.{HasExtent}
use Rattle.bn_extents.specs.LeastWindow.{EndsWithin, IsLeastWindow}
use Rattle.bn_reply_windows.specs.declared.extent.Extent.{Extent}
use Rattle.bn_reply_windows.specs.declared.window_run.LeastWindow.{LeastWindow}

-- exactly this many letters are directly right of the head, and then a blank
pub record HasLetters (t : Tape) (k : ℕ) : Type 0 where
  pub letters : (j : ℕ) → j < k → cell t (t.head +ℤ pos (suc j)) ≢ 0
  pub ended : cell t (t.head +ℤ pos (suc k)) ≡ 0

-- The number of letters directly right of the head of a tape in a window; if they reach position 2,097,152, the last
-- that a tape can have, the rest of the word, of this many letters, continues them.
pub record HasOutputLength (w : Windowed) (rest k : ℕ) : Type 0 where
  pub near : ℕ
  pub letters : HasLetters w.tape near
  pub inside : (w.tape.head +ℤ pos near) ≤ℤ pos w.right
  pub whole : ((w.tape.head +ℤ pos near ≢ pos GREATEST_SIDE) × (k ≡ near))
      ⊎ ((w.tape.head +ℤ pos near ≡ pos GREATEST_SIDE) × (k ≡ near + rest))

-- From a state and a tape, this many steps, at most n, in which the head has this extent, lead to where the machine
-- returns this turn and leaves this state and tape. If it makes fewer steps than n, the turn is no further step.
pub record IsMeasured (p : Program) (n state : ℕ) (w : Windowed) (made : ℕ) (extent : Extent) (turn : Turn)
    (after : ℕ) (v : Windowed) : Type 0 where
  pub at : ℕ
  pub tape : Windowed
  pub reached : Reached p made state w at tape
  pub extends : HasExtent p made (moment state w) (moment at tape) extent.left extent.right
  pub in_time : made ≤ n
  pub last : IsTurn p turn at tape after v
  pub early : made < n → turn ≢ turns.Moved

-- the limits of a window
abbrev pub limits_of : LeastWindow → Limits
limits_of w = record { left = w.left; right = w.right; steps = w.steps; output = w.output }

-- the least window of a run that ends within n steps; none of one that still runs after n steps
abbrev pub IsFound : Program → List ℕ → ℕ → Option LeastWindow → Type 0
IsFound p word n (Some w) = EndsWithin p word n × IsLeastWindow p word (limits_of w)
IsFound p word n None = HasEnding p word n n Running
