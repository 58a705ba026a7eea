-- The answer of the command `farm`: independent circuits under a schedule (this project's own profile). Faults of the
-- bytes are reported first: no line `%`; the first faulty circuit, with its first fault; the first faulty line of the
-- schedule, with its first fault. Then the number of all elements is tested.
use Rattle.std.specs.Prelude.{◌≡◌, ◌≢◌, ℕ, suc, ◌+◌, ◌<◌, ◌≤◌, List, [], ◌∷◌, ◌++◌, length, codes, decimal}
use Rattle.bn_lists.specs.Lists.{IsFirstWith}
use Rattle.bn_circuits.specs.declared.place.Place.{Place}
use Rattle.bn_circuits.specs.declared.net.TheConstants.{MOST_ELEMENTS}
use Rattle.bn_netlist_laws.specs.Faults.{Fault, IsFirstFault}
use Rattle.bn_reply_relations.specs.CircuitReply.{fault_name}
use Rattle.bn_reply.specs.Answering.{IsSettled}
use Rattle.bn_base.specs.Cuts.{IsUncut}
use Rattle.bn_reply.specs.Lines.{line}
use Rattle.bn_reply.specs.declared.status.Status.{Status}
use Rattle.bn_reply.specs.declared.status.Status.TheVariants as statuses
use Rattle.bn_farm.specs.declared.event.Event.{Event}
use Rattle.bn_farm.specs.Farms.{FarmBoard, elements_together, farm_after}
use Rattle.bn_farm.specs.Undo.{moving, undoing}
use Rattle.bn_farm.specs.FarmTexts.{AreEventsOf, AreParts, FailsAfter, IsFarmText, IsSchedule, ScheduleFault}
use Rattle.bn_farm.specs.FarmTexts.{SpellBoards, parts_text, malformed, no_board, schedule_text}
use Rattle.bn_farm.specs.FarmRead.{IsUnspelled}

-- ---- lines

abbrev pub no_schedule_line : List ℕ
no_schedule_line = line (codes "text: no schedule" ∷ [])

abbrev pub board_line : ℕ → ℕ → Fault → List ℕ
board_line board number fault =
    line (codes "text: board " ∷ decimal board ∷ codes " line " ∷ decimal number ∷ codes " " ∷ fault_name fault ∷ [])

abbrev pub fault_words : ScheduleFault → List ℕ
fault_words malformed = codes "form"
fault_words no_board = codes "board"

abbrev pub schedule_line : ℕ → ScheduleFault → List ℕ
schedule_line number fault = line (codes "text: schedule line " ∷ decimal number ∷ codes " " ∷ fault_words fault ∷ [])

abbrev pub farm_elements_line : ℕ → List ℕ
farm_elements_line count = line (codes "size: elements " ∷ decimal count ∷ [])

-- ---- answers

-- The circuit of this number, counted from 1, is the first that has no reading, and the text names it and its first
-- fault.
pub record TellsBoard (parts : List (List ℕ)) (text : List ℕ) : Type 0 where
  pub board : ℕ
  pub part : List ℕ
  pub first : IsFirstWith IsUnspelled parts board part
  pub line : ℕ
  pub fault : Fault
  pub faulty : IsFirstFault part line fault
  pub told : text ≡ board_line board line fault

-- The answer to these circuits and this schedule's bytes: the first faulty line; or there are too many elements; or the
-- circuits after the schedule, and the schedule that undoes it.
pub data ScheduleReplies (bs : List FarmBoard) (bytes : List ℕ) (status : Status) (text : List ℕ)
    (told : List Place) : Type 0 where
  faulty : (n : ℕ) (fault : ScheduleFault) → FailsAfter (length bs) n bytes fault → text ≡ schedule_line (suc n) fault
      → status ≡ statuses.Text → told ≡ [] → ScheduleReplies bs bytes status text told
  large : (es : List Event) → IsSchedule (length bs) bytes es → MOST_ELEMENTS < elements_together bs
      → text ≡ farm_elements_line (elements_together bs) → status ≡ statuses.Size → told ≡ []
      → ScheduleReplies bs bytes status text told
  played : (es : List Event) → IsSchedule (length bs) bytes es → elements_together bs ≤ MOST_ELEMENTS
      → IsFarmText (farm_after bs es) (undoing bs es) text → status ≡ statuses.Done → told ≡ []
      → ScheduleReplies bs bytes status text told

-- The answer to these bytes: no line is `%`; the first faulty circuit; or the answer to the circuits and the schedule.
pub data FarmReplies (bytes : List ℕ) (status : Status) (text : List ℕ) (told : List Place) : Type 0 where
  no_schedule : IsUncut bytes → text ≡ no_schedule_line → status ≡ statuses.Text → told ≡ []
      → FarmReplies bytes status text told
  misspelled : (parts : List (List ℕ)) (last : List ℕ) → AreParts bytes parts last → TellsBoard parts text
      → status ≡ statuses.Text → told ≡ [] → FarmReplies bytes status text told
  read : (parts : List (List ℕ)) (last : List ℕ) (bs : List FarmBoard) → parts ≢ [] → AreParts bytes parts last
      → SpellBoards parts bs → ScheduleReplies bs last status text told → FarmReplies bytes status text told

-- for all bytes, it has exactly one answer
abbrev pub FarmIsSettled : Type 0
FarmIsSettled = (bytes : List ℕ) → IsSettled (FarmReplies bytes)

-- ---- `farm` on the text of `farm`

-- The bytes were the text of circuits and a schedule, and `farm` on the answer prints the text of the first circuits,
-- byte for byte, and of the lines of the schedule that made steps, each with the number made.
pub record ComesBack (bytes again : List ℕ) : Type 0 where
  pub boards : List FarmBoard
  pub schedule : List Event
  pub parts : List (List ℕ)
  pub some : boards ≢ []
  pub spell : SpellBoards parts boards
  pub lawful : AreEventsOf (length boards) schedule
  pub bytes_are : bytes ≡ parts_text parts ++ schedule_text schedule
  pub again_is : again ≡ parts_text parts ++ schedule_text (moving boards schedule)

abbrev pub FarmsComeBack : Type 0
FarmsComeBack =
    (bytes text again : List ℕ) (told heard : List Place) (status : Status) → FarmReplies bytes statuses.Done text told
    → FarmReplies text status again heard → (status ≡ statuses.Done) × ComesBack bytes again
