-- The automatic window of a machine and a word: from the first window on, the end that was too short is doubled until
-- the machine's own bounded run halts or is stuck inside, or the circuit would have too many elements (Bennett 1973 for
-- the machine; the search is this project's own profile). No circuit is part of it but for the number of elements.
use Rattle.std.specs.Prelude.{◌≡◌, ℕ, ◌<◌, ◌≤◌, List}
use Rattle.bn_lists.specs.Runs.{Reaches}
use Rattle.bn_machine.specs.Machine.{Program}
use Rattle.bn_machine.specs.Outcome.{Limits, Halted, Stuck, Outside, HasOutcome}
use Rattle.bn_machine.specs.declared.quint.Side.{Side}
use Rattle.bn_circuits.specs.declared.net.TheConstants.{MOST_ELEMENTS}
use Rattle.bn_reply_relations.specs.Windows.{CountsElements}
use Rattle.bn_network_assembly.specs.Widening.{first_window, widened}

-- the result: a window, or the number of elements of the first circuit that is too large
pub data Finding : Type 0 where
  Found : Limits → Finding
  Large : ℕ → Finding

-- the circuit of this machine in this window is not too large
pub record HasBoard (p : Program) (w : Limits) : Type 0 where
  pub count : ℕ
  pub counts : CountsElements p w count
  pub few : count ≤ MOST_ELEMENTS

-- One round leads from w to v: the circuit is not too large, the bounded run leaves by an end, and this end is widened.
pub record Widens (p : Program) (word : List ℕ) (w v : Limits) : Type 0 where
  pub board : HasBoard p w
  pub time : ℕ
  pub tape : ℕ
  pub side : Side
  pub outside : HasOutcome p word w time (Outside tape side)
  pub next : v ≡ widened w tape side

-- The search stops at w: the circuit is too large, or the bounded run halts or is stuck.
pub data Stops (p : Program) (word : List ℕ) (w : Limits) (a : Finding) : Type 0 where
  too_large : (count : ℕ) → CountsElements p w count → MOST_ELEMENTS < count → a ≡ Large count → Stops p word w a
  halts : HasBoard p w → (i : ℕ) (y : List ℕ) → HasOutcome p word w i (Halted y) → a ≡ Found w → Stops p word w a
  sticks : HasBoard p w → (i state symbol : ℕ) → HasOutcome p word w i (Stuck state symbol) → a ≡ Found w
      → Stops p word w a

-- From the first window the search makes n rounds, and stops with this result.
pub record HasFinding (p : Program) (word : List ℕ) (n : ℕ) (a : Finding) : Type 0 where
  pub last : Limits
  pub rounds : Reaches (Widens p word) n (first_window word) last
  pub stops : Stops p word last a
