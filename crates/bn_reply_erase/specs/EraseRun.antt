-- A run of the erasing machine on tapes in windows, and the run on tapes without ends that it represents.
use Rattle.std.specs.Prelude.{◌≡◌, ℕ, ◌<◌, ◌≤◌, List, length, All}
use Rattle.bn_lists.specs.Runs.{Reaches}
use Rattle.bn_machine.specs.Machine.{Program}
use Rattle.bn_machine.specs.Run.{IsOutput}
use Rattle.bn_quad.specs.Quadruples.{QuadruplesRunTo, Quadruples}
use Rattle.bn_quad.specs.Calls.{AreSameWindows, IsQuadTurn, configuration, rooms_of}
use Rattle.bn_quad.specs.declared.tapes.Tapes.{Tapes}
use Rattle.bn_quad.specs.declared.tapes.QuadTurn.{QuadTurn}
use Rattle.bn_quad.specs.declared.tapes.QuadTurn.TheVariants as turns
use Rattle.bn_bennett_laws.specs.Stages.{IsStandardMachine}
use Rattle.bn_erase_laws.specs.Outcome as free
use Rattle.bn_erase_laws.specs.Outcome.{HasErasingOutcome, rewound}
use Rattle.bn_erase.specs.Joint.{IsJoint, Joint}
use Rattle.bn_erase.specs.Made.{Erasure, IsErasing, name_of}
use Rattle.bn_reply_erase.specs.declared.run.Ending.{Ending}
use Rattle.bn_reply_erase.specs.declared.run.Ending.TheVariants.{Halted, Stuck, Running}

-- two machines over one alphabet, both in standard form
pub record AreOf (j : Joint) (first second : Program) : Type 0 where
  pub joint : IsJoint j
  pub first_is : first ≡ j.first
  pub second_is : second ≡ j.second
  pub first_standard : IsStandardMachine j.first
  pub second_standard : IsStandardMachine j.second

-- From a state and tapes in windows, this many steps lead to another state and tapes in those windows.
pub record Reached (p : Quadruples) (made state : ℕ) (w : Tapes) (at : ℕ) (v : Tapes) : Type 0 where
  pub same : AreSameWindows w v
  pub run : Reaches (QuadruplesRunTo (rooms_of w) p) made (configuration state w) (configuration at v)

-- the turn is a step
abbrev pub IsStep : QuadTurn → Type 0
IsStep (turns.Moved quad) = Unit {0}
IsStep _ = ⊥

-- From a state and tapes, this many steps, at most n, lead to where the machine returns this turn and leaves this
-- state and these tapes. If it makes fewer steps than n, the turn is no further step.
pub record IsRun (p : Quadruples) (n state : ℕ) (w : Tapes) (made : ℕ) (turn : QuadTurn) (after : ℕ)
    (v : Tapes) : Type 0 where
  pub at : ℕ
  pub tapes : Tapes
  pub reached : Reached p made state w at tapes
  pub in_time : made ≤ n
  pub last : IsQuadTurn p turn at tapes after v
  pub early : made < n → IsStep turn → ⊥

-- the turn does not say that a head would leave its window
abbrev pub StaysInside : QuadTurn → Type 0
StaysInside (turns.Left tape side) = ⊥
StaysInside _ = Unit {0}

-- the result of a run that ends with this turn and leaves this state and these tapes
abbrev pub ComesOutOf : QuadTurn → ℕ → Tapes → Ending → Type 0
ComesOutOf turns.Final state v (Halted work output) =
    IsOutput (rewound v.one.tape) work.items × IsOutput (rewound v.three.tape) output.items
ComesOutOf turns.Stuck state v (Stuck at) = at ≡ state
ComesOutOf (turns.Moved quad) state v Running = Unit {0}
ComesOutOf _ state v _ = ⊥

-- the result as it is stated of runs over names
abbrev pub outcome_of : Erasure → Ending → free.ErasingOutcome
outcome_of e (Halted work output) = free.Halted work.items output.items
outcome_of e (Stuck state) = free.Stuck (name_of e state)
outcome_of e Running = free.Running

-- the state of an ending is one of the machine's
abbrev pub IsEndingOf : Erasure → Ending → Type 0
IsEndingOf e (Stuck state) = state < e.machine.states
IsEndingOf e _ = Unit {0}

-- the machine is the erasing machine of two machines in standard form
pub record IsErasingOfSome (e : Erasure) : Type 0 where
  pub first : Program
  pub second : Program
  pub erasing : IsErasing first second e
  pub first_standard : IsStandardMachine first
  pub second_standard : IsStandardMachine second

-- this is the result of the run of the erasing machine from a word after this many steps, of at most n, for any two
-- machines in standard form that it is composed from
pub record HasEnded (e : Erasure) (word : List ℕ) (n steps : ℕ) (ending : Ending) : Type 0 where
  pub state : (p q : Program) → IsErasing p q e → IsStandardMachine p → IsStandardMachine q → IsEndingOf e ending
  pub comes_out : (p q : Program) → IsErasing p q e → IsStandardMachine p → IsStandardMachine q
      → HasErasingOutcome p q word n steps (outcome_of e ending)

-- the ending's words are of the joint letters, and its state is one of the machine's
abbrev pub FitsLetters : Joint → Erasure → Ending → Type 0
FitsLetters j e (Halted work output) =
    All (λ symbol. symbol < length j.letters) work.items × All (λ symbol. symbol < length j.letters) output.items
FitsLetters j e (Stuck state) = state < e.machine.states
FitsLetters j e Running = Unit {0}
