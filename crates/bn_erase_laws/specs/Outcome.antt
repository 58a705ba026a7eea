-- The outcomes of a run of the erasing machine of at most n steps.
use Rattle.std.specs.Prelude.{◌≡◌, ◌≢◌, ℕ, ◌≤◌, pos, List}
use Rattle.bn_lists.specs.Runs.{Reaches}
use Rattle.bn_machine.specs.Machine.{Program}
use Rattle.bn_machine.specs.Run.{IsOutput}
use Rattle.bn_machine.specs.Tape.{Tape}
use Rattle.bn_quad.specs.Quadruples.{Configuration, HasNoRule}
use Rattle.bn_erase_laws.specs.Erasing.{erasing, erasing_start, erasing_final, ErasingSteps}
use Rattle.bn_erase_laws.specs.declared.name.ErasingName.{ErasingName}

-- the run halts with these words on the work tape and the output tape, is stuck in this state, or is still running
pub data ErasingOutcome : Type 0 where
  Halted : List ℕ → List ℕ → ErasingOutcome
  Stuck : ErasingName → ErasingOutcome
  Running : ErasingOutcome

-- the tape with its head at 0, so that its output is the word from cell 1 on
abbrev pub rewound : Tape → Tape
rewound t = record { cells = t.cells; head = pos 0 }

-- after i of n steps the run has this outcome at c: it is in the final state, no quadruple applies, or another step
-- would follow the n-th
pub data ErasingComesOut (p q : Program) (n i : ℕ) (c : Configuration ErasingName) (o : ErasingOutcome) : Type 0 where
  halts : (work output : List ℕ) → c.state ≡ erasing_final q → IsOutput (rewound c.one) work
      → IsOutput (rewound c.three) output → o ≡ Halted work output → ErasingComesOut p q n i c o
  sticks : c.state ≢ erasing_final q → HasNoRule (erasing p q) c → o ≡ Stuck c.state → ErasingComesOut p q n i c o
  runs : (d : Configuration ErasingName) → ErasingSteps p q c d → i ≡ n → o ≡ Running → ErasingComesOut p q n i c o

-- the run from x of at most n steps has this outcome after i steps
pub record HasErasingOutcome (p q : Program) (x : List ℕ) (n i : ℕ) (o : ErasingOutcome) : Type 0 where
  pub moment : Configuration ErasingName
  pub run : Reaches (ErasingSteps p q) i (erasing_start p x) moment
  pub in_time : i ≤ n
  pub ends : ErasingComesOut p q n i moment o
