-- The statements of the laws of this crate, each a field of `Laws`.
use Rattle.std.specs.Prelude.{◌≡◌, ℕ, List, length, Some, slice_get, option_map, true, false}
use Rattle.bn_lists.specs.Runs.{Reaches}
use Rattle.bn_circuits.specs.Circuits.{Goes}
use Rattle.bn_circuits.specs.Stepping.{run, back}
use Rattle.bn_farm.specs.declared.event.Event.{Event}
use Rattle.bn_farm.specs.Farms.{FarmBoard, IsAdmitted, IsFarm, Tick, after_steps, alone, at_board, circuit_in}
use Rattle.bn_farm.specs.Farms.{farm_after, in_config, own, play, ticks, ticks_of}
use Rattle.bn_farm.specs.Undo.{AllLawful, steps_between, moving, undoing}
use Rattle.bn_farm.specs.TextLaws.{UndoingIsASchedule, FarmsAreReadBack, FarmsHaveTexts, FarmTextsAreOne}
use Rattle.bn_farm.specs.declared.farm_reader.TheConstants.{MOST_FARM_BYTES}
use Rattle.std.specs.Prelude.{◌^◌}

-- a line of n ticks leaves its circuit where a run of n steps does, forward or backward, and changes no other
abbrev pub LinesAreRuns : Type 0
LinesAreRuns =
    (farm : List FarmBoard) (e : Event) → play farm (ticks_of e) ≡ at_board (after_steps e.forward e.count) e.board farm

-- each circuit ends where its own ticks alone leave it, whatever ticks of other circuits come between them
abbrev pub BoardsAreApart : Type 0
BoardsAreApart =
    (farm : List FarmBoard) (es : List Tick) (i : ℕ)
    → slice_get (play farm es) i ≡ option_map (λ b. alone b (own i es)) (slice_get farm i)

-- two schedules with the same ticks for each board end in the same farm
abbrev pub OrderIsFree : Type 0
OrderIsFree =
    (farm : List FarmBoard) (first second : List Event)
    → ((i : ℕ) (b : FarmBoard) → slice_get farm i ≡ Some b → own i (ticks first) ≡ own i (ticks second))
    → farm_after farm first ≡ farm_after farm second

-- if each circuit of a farm can be written, this holds after all ticks
abbrev pub FarmsStay : Type 0
FarmsStay = (farm : List FarmBoard) (es : List Tick) → IsFarm farm → IsFarm (play farm es)

-- the change of the step count in a run, forward or backward, is the number of steps made
abbrev pub CountsAreSteps : Type 0
CountsAreSteps =
    ((b : FarmBoard) (n : ℕ) → IsAdmitted b
    → Reaches (Goes (circuit_in b)) (steps_between true b.spelling.config (run (circuit_in b) b.spelling.config n))
    b.spelling.config (run (circuit_in b) b.spelling.config n))
    × ((b : FarmBoard) (n : ℕ) → IsAdmitted b
    → Reaches (Goes (circuit_in b)) (steps_between false b.spelling.config (back (circuit_in b) b.spelling.config n))
    (back (circuit_in b) b.spelling.config n) b.spelling.config)

-- running the undoing schedule restores every circuit
abbrev pub UndoingRestores : Type 0
UndoingRestores =
    (farm : List FarmBoard) (schedule : List Event) → IsFarm farm
    → farm_after (farm_after farm schedule) (undoing farm schedule) ≡ farm

-- the undoing schedule's own undoing schedule is the list of the lines that made steps, each with the number made
abbrev pub UndoingTwice : Type 0
UndoingTwice =
    (farm : List FarmBoard) (schedule : List Event) → IsFarm farm
    → undoing (farm_after farm schedule) (undoing farm schedule) ≡ moving farm schedule

-- the undoing schedule of any schedule is a schedule of the same farm
abbrev pub UndoingIsLawful : Type 0
UndoingIsLawful =
    (farm : List FarmBoard) (schedule : List Event) → IsFarm farm → AllLawful (length farm) (undoing farm schedule)

-- ticks keep the number of circuits, and change only the configuration of each
abbrev pub BoardsKeepCircuits : Type 0
BoardsKeepCircuits =
    ((farm : List FarmBoard) (es : List Tick) → length (play farm es) ≡ length farm)
    × ((farm : List FarmBoard) (es : List Tick) (i : ℕ) (b : FarmBoard) → slice_get farm i ≡ Some b
    → (d : FarmBoard) × (slice_get (play farm es) i ≡ Some d) × (d ≡ in_config b d.spelling.config))

-- ---- the laws

pub record Laws : Type 0 where
  -- The limit `MOST_FARM_BYTES` of a farm with a schedule is 2^28 bytes.
  pub most_farm_bytes_are_stated : MOST_FARM_BYTES ≡ 2 ^ 28
  -- A line of n ticks is a run of n steps of its circuit, forward or backward, and changes no other circuit.
  pub lines_are_runs : LinesAreRuns
  -- Each circuit ends where its own ticks alone leave it, whatever ticks of other circuits come between them.
  pub boards_are_apart : BoardsAreApart
  -- Schedules with the same ticks for each board end in the same farm.
  pub order_is_free : OrderIsFree
  -- If each circuit of a farm can be written, this holds after all ticks.
  pub farms_stay : FarmsStay
  -- The change of the step count in a run, forward or backward, is the number of steps made.
  pub counts_are_steps : CountsAreSteps
  -- The undoing schedule restores every circuit.
  pub undoing_restores : UndoingRestores
  -- The undoing schedule of an undoing schedule is the list of the lines that made steps, each with the number made.
  pub undoing_twice : UndoingTwice
  -- Ticks keep the number of circuits, and change only the configuration of each.
  pub boards_keep_circuits : BoardsKeepCircuits
  -- The undoing schedule of any schedule is a schedule of the same farm.
  pub undoing_is_lawful : UndoingIsLawful
  -- The undoing schedule of a schedule of a farm is a schedule of the resulting farm.
  pub undoing_is_a_schedule : UndoingIsASchedule
  -- The text of a farm and a schedule of it can be read back.
  pub farms_are_read_back : FarmsAreReadBack
  -- Each farm has exactly one text with each schedule.
  pub farms_have_one_text : FarmsHaveTexts × FarmTextsAreOne
