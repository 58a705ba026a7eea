-- The text after the circuits that were written so far.
use Rattle.std.specs.Prelude.{◌≡◌, ℕ, List, ◌++◌}
use Rattle.bn_farm.specs.Farms.{FarmBoard}
use Rattle.bn_farm.specs.FarmTexts.{SpellBoards, parts_text}

-- a text has grown by the texts of these circuits, each with a line `%` after it
pub record HasWritten (old now : List ℕ) (bs : List FarmBoard) : Type 0 where
  pub parts : List (List ℕ)
  pub spell : SpellBoards parts bs
  pub is : now ≡ old ++ parts_text parts
