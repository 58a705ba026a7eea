-- The labels in use, in the order in which they were set.
use Rattle.std.specs.Prelude.{bytes_eq, ◌≡◌, ℕ, Bool, true, false, List, [], ◌∷◌, ◌++◌, fold, if◌then◌else◌}
use Rattle.std.specs.List.{list_any}
use Rattle.bn_session.specs.declared.command.Command.{Command}
use Rattle.bn_session.specs.declared.command.Command.TheVariants.{BreakState, BreakElement, BreakLine, Drop}

-- whether a breakpoint with this label stands
abbrev pub stands : List ℕ → List (List ℕ) → Bool
stands label standing = list_any (bytes_eq label) standing

-- without this label; the others keep their places
abbrev pub without : List ℕ → List (List ℕ) → List (List ℕ)
without label [] = []
without label (x ∷ xs) = if bytes_eq label x then xs else x ∷ without label xs

-- the labels in use after a command
abbrev pub standing_after : List (List ℕ) → Command → List (List ℕ)
standing_after standing (BreakState label state) = standing ++ label ∷ []
standing_after standing (BreakElement label element) = standing ++ label ∷ []
standing_after standing (BreakLine label e l) = standing ++ label ∷ []
standing_after standing (Drop label) = without label standing
standing_after standing _ = standing

-- the labels in use after these commands
abbrev pub standing_by : List Command → List (List ℕ)
standing_by commands = fold standing_after [] commands

-- a label that is set is new, and a label that is removed is in use
abbrev pub IsOrderly : List (List ℕ) → Command → Type 0
IsOrderly standing (BreakState label state) = stands label standing ≡ false
IsOrderly standing (BreakElement label element) = stands label standing ≡ false
IsOrderly standing (BreakLine label e l) = stands label standing ≡ false
IsOrderly standing (Drop label) = stands label standing ≡ true
IsOrderly standing _ = Unit {0}

-- the same of commands one after another
abbrev pub AreOrderly : List (List ℕ) → List Command → Type 0
AreOrderly standing [] = Unit {0}
AreOrderly standing (x ∷ xs) = IsOrderly standing x × AreOrderly (standing_after standing x) xs
