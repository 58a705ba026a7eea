-- The meaning of a refusal of a schedule.
use Rattle.std.specs.Prelude.{◌≡◌, ℕ, ◌+◌, List}
use Rattle.bn_farm.specs.FarmTexts.{FailsAfter, malformed, no_board}
use Rattle.bn_farm.specs.declared.refusal.ScheduleRefusal.{ScheduleRefusal}
use Rattle.bn_farm.specs.declared.refusal.ScheduleRefusal.TheVariants.{Form, NoBoard, NoMemory}

-- the line is the first with an error, and this is its first; `NoMemory` asserts nothing
abbrev pub IsScheduleRefusal : ℕ → List ℕ → ScheduleRefusal → Type 0
IsScheduleRefusal boards bytes (Form line) = (n : ℕ) × (line ≡ n + 1) × FailsAfter boards n bytes malformed
IsScheduleRefusal boards bytes (NoBoard line) = (n : ℕ) × (line ≡ n + 1) × FailsAfter boards n bytes no_board
IsScheduleRefusal boards bytes NoMemory = Unit {0}
