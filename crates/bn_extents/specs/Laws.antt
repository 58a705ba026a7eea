-- The laws of this crate, a named field each. `Laws` is the contract of `extents_laws`.
use Rattle.std.specs.Prelude.{◌≡◌, ℕ, ◌<◌, ◌⊎◌, List, length}
use Rattle.bn_machine.specs.Machine.{Program}
use Rattle.bn_machine.specs.Outcome.{HasOutcome, Limits, Outcome, Outside}
use Rattle.bn_machine.specs.declared.quint.Side.{Side}
use Rattle.bn_extents.specs.LeastWindow.{AreAtMost, EndsWithin, IsLeastWindow, IsOwnEnd}

-- a machine that halts or is stuck has a least window
abbrev pub HasLeastWindow : Type 0
HasLeastWindow = (p : Program) (word : List ℕ) (n : ℕ) → EndsWithin p word n → (l : Limits) × IsLeastWindow p word l

-- a machine has at most one least window for a word
abbrev pub LeastWindowIsOne : Type 0
LeastWindowIsOne = (p : Program) (word : List ℕ) (k l : Limits) → IsLeastWindow p word k → IsLeastWindow p word l
    → k ≡ l

-- in every window whose numbers are at least as great the bounded run makes the same steps and ends in the same way
abbrev pub LargerWindowsEndAlike : Type 0
LargerWindowsEndAlike = (p : Program) (word : List ℕ) (k l : Limits) (i : ℕ) (o : Outcome) → IsOwnEnd o
    → AreAtMost k l → HasOutcome p word k i o → HasOutcome p word l i o

-- the word has no room in the window, or the bounded run leaves by an end of a tape
abbrev pub IsTooSmall : Program → List ℕ → Limits → Type 0
IsTooSmall p word l = (l.right < length word)
    ⊎ ((i tape : ℕ) × (side : Side) × HasOutcome p word l i (Outside tape side))

-- a window with any number smaller than that of the least window is too small
abbrev pub SmallerWindowsAreTooSmall : Type 0
SmallerWindowsAreTooSmall = (p : Program) (word : List ℕ) (k l : Limits) → IsLeastWindow p word l
    → (AreAtMost l k → ⊥) → IsTooSmall p word k

-- ---- the laws

pub record Laws : Type 0 where
  -- A machine that halts or is stuck has a least window.
  pub least_window_exists : HasLeastWindow
  -- A machine has at most one least window for a word.
  pub least_window_is_one : LeastWindowIsOne
  -- In every window at least as great on each side the bounded run ends in the same way.
  pub larger_windows_end_alike : LargerWindowsEndAlike
  -- With any number smaller than that of the least window, the word has no room or the bounded run leaves by an end of
  -- a tape.
  pub smaller_windows_are_too_small : SmallerWindowsAreTooSmall
