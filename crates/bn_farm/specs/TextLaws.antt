-- The statements of the laws of this crate on texts, each a field of `Laws`.
use Rattle.std.specs.Prelude.{◌≡◌, ℕ, List, length}
use Rattle.bn_farm.specs.declared.event.Event.{Event}
use Rattle.bn_farm.specs.Farms.{FarmBoard, IsFarm, farm_after}
use Rattle.bn_farm.specs.Undo.{undoing}
use Rattle.bn_farm.specs.FarmTexts.{AreEventsOf, AreParts, IsFarmText, IsSchedule, SpellBoards}

-- each farm has exactly one text with each schedule
abbrev pub FarmsHaveTexts : Type 0
FarmsHaveTexts = (bs : List FarmBoard) (es : List Event) → IsFarm bs → (text : List ℕ) × IsFarmText bs es text

abbrev pub FarmTextsAreOne : Type 0
FarmTextsAreOne =
    (bs : List FarmBoard) (es : List Event) (text other : List ℕ) → IsFarmText bs es text → IsFarmText bs es other
    → text ≡ other

-- the text of a farm and a schedule of it can be read back: its parts are the circuits' texts, and then the schedule's
pub record IsReadBack (bs : List FarmBoard) (es : List Event) (text : List ℕ) : Type 0 where
  pub parts : List (List ℕ)
  pub last : List ℕ
  pub are : AreParts text parts last
  pub boards : SpellBoards parts bs
  pub schedule : IsSchedule (length bs) last es

abbrev pub FarmsAreReadBack : Type 0
FarmsAreReadBack =
    (bs : List FarmBoard) (es : List Event) (text : List ℕ) → AreEventsOf (length bs) es → IsFarmText bs es text
    → IsReadBack bs es text

-- the undoing schedule of a schedule of a farm is a schedule of the resulting farm
abbrev pub UndoingIsASchedule : Type 0
UndoingIsASchedule =
    (bs : List FarmBoard) (es : List Event) → IsFarm bs → AreEventsOf (length bs) es
    → AreEventsOf (length (farm_after bs es)) (undoing bs es)
