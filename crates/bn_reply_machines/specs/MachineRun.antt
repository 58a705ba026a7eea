-- A run on a tape in a window, and the run of a whole word that it represents.
use Rattle.std.specs.Prelude.{◌≡◌, ◌≢◌, ℕ, ◌≤◌, ◌<◌, ℤ, pos, ◌+ℤ◌, ◌≤ℤ◌, List, length, ◌++◌, ◌⊎◌, All}
use Rattle.bn_lists.specs.Runs.{Reaches}
use Rattle.bn_machine.specs.Tape.{cell}
use Rattle.bn_machine.specs.Machine.{Program, MachineRunsTo, moment}
use Rattle.bn_machine.specs.MachineCalls.{IsTurn}
use Rattle.bn_machine.specs.Run.{IsOutput}
use Rattle.bn_machine.specs.Run as free
use Rattle.bn_machine.specs.Window.{Windowed, within, with_tape}
use Rattle.bn_table.specs.Rows.{Named}
use Rattle.bn_machine.specs.declared.machine.Turn.{Turn}
use Rattle.bn_machine.specs.declared.machine.Turn.TheVariants as turns
use Rattle.bn_reply_machines.specs.declared.machine_run.Ending.{Ending}
use Rattle.bn_reply_machines.specs.declared.machine_run.Ending.TheVariants.{Halted, Stuck, Running}
use Rattle.bn_machine.specs.declared.tape.TheConstants.Tape.{GREATEST_SIDE}

-- This many steps lead from a state and a tape in a window to another state and tape in that window.
pub record Reached (p : Program) (made state : ℕ) (w : Windowed) (at : ℕ) (v : Windowed) : Type 0 where
  pub same : v ≡ with_tape w v.tape
  pub run : Reaches (MachineRunsTo (within w.left w.right) p) made (moment state w) (moment at v)

-- From a state and a tape, this many steps, at most n, lead to where the machine returns this turn and leaves this
-- state and tape. If it makes fewer steps than n, the turn is no further step.
pub record IsRun (p : Program) (n state : ℕ) (w : Windowed) (made : ℕ) (turn : Turn) (after : ℕ)
    (v : Windowed) : Type 0 where
  pub at : ℕ
  pub tape : Windowed
  pub reached : Reached p made state w at tape
  pub in_time : made ≤ n
  pub last : IsTurn p turn at tape after v
  pub early : made < n → turn ≢ turns.Moved

-- this symbol, which is not the blank, is at the position, which is in the window
pub record IsLetterAt (w : Windowed) (position : ℤ) (symbol : ℕ) : Type 0 where
  pub inside : position ≤ℤ pos w.right
  pub stands : cell w.tape position ≡ symbol
  pub letter : symbol ≢ 0

-- The output on a tape in a window; if it reaches position 2,097,152, the last that a tape can have, the rest of the
-- word continues it.
pub record IsWholeOutput (w : Windowed) (rest y : List ℕ) : Type 0 where
  pub near : List ℕ
  pub output : IsOutput w.tape near
  pub inside : (w.tape.head +ℤ pos (length near)) ≤ℤ pos w.right
  pub whole : ((w.tape.head +ℤ pos (length near) ≢ pos GREATEST_SIDE) × (y ≡ near))
      ⊎ ((w.tape.head +ℤ pos (length near) ≡ pos GREATEST_SIDE) × (y ≡ near ++ rest))

-- the turn does not say that the head would leave the window
abbrev pub StaysInside : Turn → Type 0
StaysInside (turns.Left side) = ⊥
StaysInside _ = Unit {0}

-- the result of a run that ends with this turn and this tape, given the rest of the word beyond the tape
abbrev pub IsEndingOf : Turn → Windowed → List ℕ → Ending → Type 0
IsEndingOf turns.Final w rest (Halted output) = IsWholeOutput w rest output.items
IsEndingOf (turns.Stuck state symbol) w rest (Stuck at seen) = (at ≡ state) × (seen ≡ symbol)
IsEndingOf turns.Moved w rest Running = Unit {0}
IsEndingOf _ w rest _ = ⊥

-- the result as it is stated of runs without ends
abbrev pub ending_of : Ending → free.Ending
ending_of (Halted output) = free.Halted output.items
ending_of (Stuck state symbol) = free.Stuck state symbol
ending_of Running = free.Running

-- the states and symbols of the result are the table's
abbrev pub FitsTable : Named → Ending → Type 0
FitsTable t (Halted output) = All (λ symbol. symbol < t.machine.symbols) output.items
FitsTable t (Stuck state symbol) = (state < t.machine.states) × (symbol < t.machine.symbols)
FitsTable t Running = Unit {0}
