-- The statements of this crate's laws.
use Rattle.std.specs.Prelude.{◌≡◌, ◌≢◌, ℕ, ◌+◌, ◌*◌, ◌<◌, ◌≤◌, List, [], ◌++◌, length, Option, Some, ◌⊎◌}
use Rattle.bn_io.specs.Told.{Grows}
use Rattle.bn_machine.specs.Machine.{Program}
use Rattle.bn_circuits.specs.Stepping.{back, run}
use Rattle.bn_circuits.specs.declared.place.Place.TheVariants.{Enter}
use Rattle.bn_boards.specs.Flats.{Flat, flat_start}
use Rattle.bn_boards.specs.Costs.{HasCost}
use Rattle.bn_reply_relations.specs.ToldRuns.{IsGiven, run_words}
use Rattle.bn_reply_relations.specs.RunText.{steps_line}
use Rattle.bn_reply.specs.declared.limits.TheConstants.{MOST_INPUT_BYTES}
use Rattle.bn_reply_relations.specs.Windows.{ComesTo}
use Rattle.bn_machine.specs.Outcome.{Limits, Outcome, Halted}
use Rattle.bn_circuits.specs.declared.net.TheConstants.{MOST_ELEMENTS}
use Rattle.bn_gen.specs.Increments.{IsRoundCount, incrementer}
use Rattle.bn_gen.specs.Text.{increments_table, increments_text}
use Rattle.bn_reply_boards.specs.GenerateReply.{number, window}
use Rattle.bn_reply_boards.specs.GenerateLaws.{TellsGenerated}
use Rattle.bn_network.specs.Controls.{ControlState, IsNumbering}
use Rattle.bn_network.specs.Networks.{elements_by}
use Rattle.bn_bennett_laws.specs.Stages.{IsStandardMachine}
use Rattle.bn_table.specs.Rows.{FitsTable, Named}
use Rattle.bn_bennett.specs.Translation.{Translation, IsTranslation}
use Rattle.bn_reply.specs.declared.status.Status.{Status}
use Rattle.bn_reply_relations.specs.Laws.{TookReplies}
use Rattle.bn_headline.specs.Elements.{elements, most_steps}
use Rattle.bn_headline.specs.Generated.{TellsIncrements, binary}
use Rattle.bn_headline.specs.MachineHeadline.{IsOwnRun, MachineHeadline, MachineHeadlineWithin, TookRun, least_steps}

-- the network of a machine has this many elements
abbrev pub ElementsAreCounted : Type 0
ElementsAreCounted =
    (p : Program) (l : Limits) (t : Translation) (names : List ControlState)
    → IsStandardMachine p → FitsTable p → IsTranslation p t → IsNumbering t.machine names
    → elements_by t.machine l (length names) ≡ elements p l

-- A table whose machine is in standard form, a word of its letters that fits, and limits within their bounds have an
-- own run, and only one: so the headline speaks of each, and says one thing.
pub record HasOneRun (bytes word : List ℕ) (l : Limits) (t : Named) (symbols : List ℕ) : Type 0 where
  pub steps : ℕ
  pub outcome : Outcome
  pub own : IsOwnRun bytes word l t symbols steps outcome
  pub one : (i : ℕ) (o : Outcome) → IsOwnRun bytes word l t symbols i o → (i ≡ steps) × (o ≡ outcome)

abbrev pub OwnRunsAreOne : Type 0
OwnRunsAreOne =
    (bytes word : List ℕ) (l : Limits) (t : Named) (symbols : List ℕ) → IsGiven bytes word l t symbols
    → length symbols ≤ l.right → HasOneRun bytes word l t symbols

-- if the sink received the reply to a run, it received what the machine's own run names
abbrev pub RepliesTellMachine : Type 0
RepliesTellMachine =
    (words : List (List ℕ)) (bytes : List ℕ) (status : Status) (taken took : Option (List ℕ))
    → TookReplies words bytes status taken took
    → MachineHeadline words bytes status taken took × MachineHeadlineWithin words bytes status taken took

-- ---- what the headline leaves open

-- Two texts are equal, or they differ at most in the number of element steps.
pub record DifferInSteps (text other : List ℕ) : Type 0 where
  pub front : List ℕ
  pub behind : List ℕ
  pub cost : ℕ
  pub second : ℕ
  pub one : text ≡ front ++ (steps_line cost ++ behind)
  pub two : other ≡ front ++ (steps_line second ++ behind)

-- Two answers for which the headline holds, to the same arguments and bytes from the same sink on, have one status, and
-- one text, or two that differ in the number of element steps alone.
abbrev pub AgreeAs : List ℕ → List ℕ → Type 0
AgreeAs text other = (text ≡ other) ⊎ DifferInSteps text other

abbrev pub HeadlinesAgree : Type 0
HeadlinesAgree =
    (words : List (List ℕ)) (bytes word : List ℕ) (l : Limits) → words ≡ run_words word l []
    → length bytes ≤ MOST_INPUT_BYTES
    → (t : Named) (symbols : List ℕ) (i : ℕ) (o : Outcome) → IsOwnRun bytes word l t symbols i o
    → (status other : Status) (taken took taken_too : List ℕ)
    → MachineHeadline words bytes status (Some taken) (Some took)
    → MachineHeadline words bytes other (Some taken) (Some taken_too) → (status ≡ other) × AgreeAs took taken_too

-- ---- the machines of increments

-- Each has few enough elements, and its own run halts after 10k + 1 steps with 11 + k in binary; so there are 40k + 25
-- steps of the reversible machine.
pub record RunsOfIncrements (k : ℕ) : Type 0 where
  pub own : IsOwnRun (increments_text k) number (window k) (increments_table k) (binary 11) (10 * k + 1)
      (Halted (binary (11 + k)))
  pub few : elements (incrementer k) (window k) ≤ MOST_ELEMENTS
  pub quadruple_steps : 4 * (10 * k + 1) + 4 * length (binary (11 + k)) + 5 ≡ 40 * k + 25

abbrev pub IncrementsRun : Type 0
IncrementsRun = (k : ℕ) → IsRoundCount k → RunsOfIncrements k

-- their elements
abbrev pub IncrementsAreCounted : Type 0
IncrementsAreCounted =
    (elements (incrementer 1) (window 1) ≡ 14136) × (elements (incrementer 2) (window 2) ≡ 55078)
    × (elements (incrementer 3) (window 3) ≡ 144476) × (elements (incrementer 4) (window 4) ≡ 301770)

-- what reports the outcome of such a run reports this one
abbrev pub GeneratedTellsMachine : Type 0
GeneratedTellsMachine =
    (k : ℕ) (status : Status) (text : List ℕ) (taken took : Option (List ℕ)) → IsRoundCount k
    → TellsGenerated k status text → Grows taken took text
    → TookRun (TellsIncrements k) (least_steps (10 * k + 1) (Halted (binary (11 + k))))
    (most_steps (incrementer k) (window k)) status taken took

-- ---- the circuit

-- A circuit's signal is inside at each step below its cost, and outside at its cost; and from each of these steps as
-- many steps back lead back: from the exit to the start.
pub record RunsBack (f : Flat) : Type 0 where
  pub cost : ℕ
  pub has_cost : HasCost f cost
  pub inside : (n : ℕ) → n < cost → (e : ℕ) × (i : ℕ) × ((run f.circuit (flat_start f) n).place ≡ Enter e i)
  pub left : (e i : ℕ) → (run f.circuit (flat_start f) cost).place ≢ Enter e i
  pub backward : (r s : ℕ) → r + s ≤ cost
      → back f.circuit (run f.circuit (flat_start f) (r + s)) s ≡ run f.circuit (flat_start f) r
  pub restored : back f.circuit (run f.circuit (flat_start f) cost) cost ≡ flat_start f

abbrev pub BoardsReturn : Type 0
BoardsReturn =
    (bytes word : List ℕ) (l : Limits) (t : Named) (symbols : List ℕ) (f : Flat) → IsGiven bytes word l t symbols
    → ComesTo t.machine l symbols f → RunsBack f
