-- The text of a farm and a schedule: the text of each circuit with a line `%` after it, and the schedule's lines (this
-- project's own definition).
use Rattle.std.specs.Prelude.{◌≡◌, ◌≢◌, ℕ, zero, suc, ◌+◌, ◌<◌, ◌≤◌, Bool, true, false, List, [], ◌∷◌, ◌++◌}
use Rattle.std.specs.Prelude.{codes, decimal, ◌⊎◌}
use Rattle.bn_base.specs.Number.{greatest}
use Rattle.bn_farm.specs.Farms.{FarmBoard, IsSpelled}
use Rattle.bn_base.specs.Cuts.{IsCut, IsUncut}
use Rattle.bn_farm.specs.declared.event.Event.{Event}
use Rattle.bn_farm.specs.declared.order.Order.{Order}

-- ---- schedules

abbrev pub sign_text : Bool → List ℕ
sign_text true = codes "+ "
sign_text false = codes "- "

-- the line with this content, without its byte 10
abbrev pub order_text : Order → List ℕ
order_text o = sign_text o.forward ++ (decimal o.number ++ (codes " " ++ decimal o.count))

-- the numbers of a line can be read, and the line has at least one step
pub record IsSayableOrder (o : Order) : Type 0 where
  pub number : o.number ≤ greatest
  pub some : 1 ≤ o.count
  pub few : o.count ≤ greatest

-- the content of an event's line
abbrev pub order_of : Event → Order
order_of e = record { forward = e.forward; number = e.board + 1; count = e.count }

abbrev pub schedule_text : List Event → List ℕ
schedule_text [] = []
schedule_text (e ∷ es) = order_text (order_of e) ++ 10 ∷ schedule_text es

-- the event's line can be written, and a farm of this many circuits has its circuit
pub record IsEventOf (boards : ℕ) (e : Event) : Type 0 where
  pub sayable : IsSayableOrder (order_of e)
  pub has_board : e.board < boards

abbrev pub AreEventsOf : ℕ → List Event → Type 0
AreEventsOf boards [] = Unit {0}
AreEventsOf boards (e ∷ es) = IsEventOf boards e × AreEventsOf boards es

-- the bytes are the schedule of these events of a farm of this many circuits
pub record IsSchedule (boards : ℕ) (bytes : List ℕ) (es : List Event) : Type 0 where
  pub spelled : bytes ≡ schedule_text es
  pub lawful : AreEventsOf boards es

-- The errors of a line: it is malformed; the farm has no circuit of this number.
pub data ScheduleFault : Type 0 where
  malformed : ScheduleFault
  no_board : ScheduleFault

-- the rest is not empty, and it does not begin with a whole well-formed line
pub record LacksForm (left : List ℕ) : Type 0 where
  pub some : left ≢ []
  pub unsaid : (o : Order) (behind : List ℕ) → IsSayableOrder o → left ≢ order_text o ++ 10 ∷ behind

-- the rest begins with a whole well-formed line, and its number is 0 or above the number of circuits
pub record LacksBoard (boards : ℕ) (left : List ℕ) : Type 0 where
  pub says : Order
  pub behind : List ℕ
  pub begins : left ≡ order_text says ++ 10 ∷ behind
  pub sayable : IsSayableOrder says
  pub lacking : (says.number ≡ 0) ⊎ (boards < says.number)

abbrev pub HasScheduleFault : ℕ → List ℕ → ScheduleFault → Type 0
HasScheduleFault boards left malformed = LacksForm left
HasScheduleFault boards left no_board = LacksBoard boards left

-- after the lines of this many events, the next line is the first with an error
abbrev pub FailsAfter : ℕ → ℕ → List ℕ → ScheduleFault → Type 0
FailsAfter boards zero bytes fault = HasScheduleFault boards bytes fault
FailsAfter boards (suc n) bytes fault =
    (e : Event) × (behind : List ℕ) × IsEventOf boards e × (bytes ≡ order_text (order_of e) ++ 10 ∷ behind)
    × FailsAfter boards n behind fault

-- ---- farms

-- these texts, each with a line `%` after it
abbrev pub parts_text : List (List ℕ) → List ℕ
parts_text [] = []
parts_text (part ∷ parts) = part ++ 37 ∷ 10 ∷ parts_text parts

-- the parts are the texts of these circuits
abbrev pub SpellBoards : List (List ℕ) → List FarmBoard → Type 0
SpellBoards [] [] = Unit {0}
SpellBoards [] (b ∷ bs) = ⊥
SpellBoards (part ∷ parts) [] = ⊥
SpellBoards (part ∷ parts) (b ∷ bs) = IsSpelled b part × SpellBoards parts bs

-- the text of these circuits and this schedule
pub record IsFarmText (bs : List FarmBoard) (es : List Event) (text : List ℕ) : Type 0 where
  pub parts : List (List ℕ)
  pub spell : SpellBoards parts bs
  pub written : text ≡ parts_text parts ++ schedule_text es

-- the parts of an input before each of its lines `%`, and the rest after the last
abbrev pub AreParts : List ℕ → List (List ℕ) → List ℕ → Type 0
AreParts bytes [] last = IsUncut bytes × (bytes ≡ last)
AreParts bytes (part ∷ parts) last = (rest : List ℕ) × IsCut bytes part rest × AreParts rest parts last
