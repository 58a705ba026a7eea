-- Reading the bytes of a farm with a schedule, and the meaning of a refusal.
use Rattle.std.specs.Prelude.{◌≡◌, ◌≢◌, ℕ, ◌+◌, ◌<◌, ◌≤◌, List, [], ◌∷◌, ◌++◌, length}
use Rattle.bn_lists.specs.Lists.{IsFirstWith}
use Rattle.bn_circuits.specs.declared.net.TheConstants.{MOST_ELEMENTS}
use Rattle.bn_netlist.specs.NetText.{IsTextRefusal}
use Rattle.bn_farm.specs.Farms.{FarmBoard, IsSpelled, board_of, elements_together}
use Rattle.bn_netlist.specs.declared.net_config.NetConfig.{NetConfig}
use Rattle.bn_netlist.specs.declared.line_refusal.NetlistRefusal.{NetlistRefusal}
use Rattle.bn_netlist.specs.declared.line_refusal.NetlistRefusal.TheVariants as netlist
use Rattle.bn_base.specs.Cuts.{IsUncut}
use Rattle.bn_farm.specs.declared.event.Event.{Event}
use Rattle.bn_farm.specs.declared.farm_refusal.FarmRefusal.{FarmRefusal}
use Rattle.bn_farm.specs.declared.farm_refusal.FarmRefusal.TheVariants.{NoSchedule, Board, Form, NoBoard, Elements}
use Rattle.bn_farm.specs.declared.farm_refusal.FarmRefusal.TheVariants.{NoMemory}
use Rattle.bn_farm.specs.FarmTexts.{AreParts, FailsAfter, IsSchedule, SpellBoards, malformed, no_board}

-- the part is not the text of a circuit
abbrev pub IsUnspelled : List ℕ → Type 0
IsUnspelled part = (b : FarmBoard) → IsSpelled b part → ⊥

-- ---- the rest after the boards

-- the rest is the schedule of these circuits, which together do not have more than `MOST_ELEMENTS` elements
pub record IsRestRead (boards : List FarmBoard) (left : List ℕ) (bs : List FarmBoard) (es : List Event) : Type 0 where
  pub same : bs ≡ boards
  pub schedule : IsSchedule (length boards) left es
  pub few : elements_together boards ≤ MOST_ELEMENTS

-- the rest is a schedule, and the circuits together have this number of elements, which is above `MOST_ELEMENTS`
pub record AreTooMany (boards : List FarmBoard) (left : List ℕ) (count : ℕ) : Type 0 where
  pub schedule : List Event
  pub is_schedule : IsSchedule (length boards) left schedule
  pub is : count ≡ elements_together boards
  pub great : MOST_ELEMENTS < count

-- the rest is not a schedule of these circuits, or they have too many elements together; `NoMemory` asserts nothing
abbrev pub IsRestRefusal : List FarmBoard → List ℕ → FarmRefusal → Type 0
IsRestRefusal boards left NoSchedule = ⊥
IsRestRefusal boards left (Board board fault) = ⊥
IsRestRefusal boards left (Form line) = (n : ℕ) × (line ≡ n + 1) × FailsAfter (length boards) n left malformed
IsRestRefusal boards left (NoBoard line) = (n : ℕ) × (line ≡ n + 1) × FailsAfter (length boards) n left no_board
IsRestRefusal boards left (Elements count) = AreTooMany boards left count
IsRestRefusal boards left NoMemory = Unit {0}

-- ---- boards

-- one more circuit was read, from this part
pub record HasPushed (boards : List NetConfig) (part : List ℕ) (now : List NetConfig) : Type 0 where
  pub board : NetConfig
  pub spelled : IsSpelled (board_of board) part
  pub pushed : now ≡ boards ++ board ∷ []

-- the part has an error; `NoMemory` asserts nothing
abbrev pub IsPartRefusal : List ℕ → ℕ → FarmRefusal → Type 0
IsPartRefusal part number (Board board fault) =
    (board ≡ number) × (fault ≢ netlist.NoMemory) × IsTextRefusal part fault × IsUnspelled part
IsPartRefusal part number NoSchedule = ⊥
IsPartRefusal part number (Form line) = ⊥
IsPartRefusal part number (NoBoard line) = ⊥
IsPartRefusal part number (Elements count) = ⊥
IsPartRefusal part number NoMemory = Unit {0}

-- ---- all bytes

-- the bytes are the texts of these circuits, each with a line `%` after it, and then this schedule of them
pub record IsFarmRead (bytes : List ℕ) (bs : List FarmBoard) (es : List Event) : Type 0 where
  pub parts : List (List ℕ)
  pub last : List ℕ
  pub some : parts ≢ []
  pub are : AreParts bytes parts last
  pub spell : SpellBoards parts bs
  pub schedule : IsSchedule (length bs) last es
  pub few : elements_together bs ≤ MOST_ELEMENTS

-- this circuit, counted from 1, is the first with an error, and this is its first error, which is not that memory ran
-- out
pub record IsFirstMisspelled (bytes : List ℕ) (board : ℕ) (fault : NetlistRefusal) : Type 0 where
  pub parts : List (List ℕ)
  pub last : List ℕ
  pub are : AreParts bytes parts last
  pub part : List ℕ
  pub first : IsFirstWith IsUnspelled parts board part
  pub faulty : IsTextRefusal part fault
  pub said : fault ≢ netlist.NoMemory

-- the parts are texts of circuits, and the refusal is about the rest after them
pub record IsRefusedBehind (bytes : List ℕ) (refusal : FarmRefusal) : Type 0 where
  pub parts : List (List ℕ)
  pub last : List ℕ
  pub boards : List FarmBoard
  pub some : parts ≢ []
  pub are : AreParts bytes parts last
  pub spell : SpellBoards parts boards
  pub refused : IsRestRefusal boards last refusal

-- The meaning of a refusal for the bytes: no line is `%`; the first faulty circuit; or, if no circuit is faulty, the
-- error in the rest after the circuits. `NoMemory` asserts nothing.
abbrev pub IsFarmRefusal : List ℕ → FarmRefusal → Type 0
IsFarmRefusal bytes NoSchedule = IsUncut bytes
IsFarmRefusal bytes (Board board fault) = IsFirstMisspelled bytes board fault
IsFarmRefusal bytes (Form line) = IsRefusedBehind bytes (Form line)
IsFarmRefusal bytes (NoBoard line) = IsRefusedBehind bytes (NoBoard line)
IsFarmRefusal bytes (Elements count) = IsRefusedBehind bytes (Elements count)
IsFarmRefusal bytes NoMemory = Unit {0}
