-- What one argument after a command's name may be, and what is read of arguments.
use Rattle.std.specs.Prelude.{◌≡◌, ℕ, ◌≤◌, List, [], ◌∷◌, Option, Some, MatchOption, decimal}
use Rattle.bn_base.specs.Number.{greatest}
use Rattle.bn_base.specs.declared.limits.TheConstants.{MOST_COUNT}
use Rattle.bn_machine.specs.Outcome.{Limits}
use Rattle.bn_network.specs.Limits.{AreSmall}
use Rattle.bn_qtable.specs.TapeWords.{TapeWord}
use Rattle.bn_behaviour.specs.PortNames.{PortNames}
use Rattle.bn_words.specs.Requests.{HasForm, HasNoForm, port_arguments, request_of, word_argument}
use Rattle.bn_words.specs.declared.request.Request as declared
use Rattle.bn_network.specs.declared.limits.TheConstants.{MOST_DRIVE_STEPS}

-- the argument is the decimal text of this number, which is at most 2^62
pub record IsNumber (word : List ℕ) (number : ℕ) : Type 0 where
  pub spelled : word ≡ decimal number
  pub bound : number ≤ greatest

-- the argument is no number
abbrev pub IsNoNumber : List ℕ → Type 0
IsNoNumber word = (number : ℕ) → IsNumber word number → ⊥

-- the argument is the decimal text of this number, which is at most the greatest count
pub record IsCount (word : List ℕ) (number : ℕ) : Type 0 where
  pub spelled : word ≡ decimal number
  pub bound : number ≤ MOST_COUNT

-- the argument is no count
abbrev pub IsNoCount : List ℕ → Type 0
IsNoCount word = (number : ℕ) → IsCount word number → ⊥

-- the argument is the decimal text of this number, which is at least 1 and at most the limit
pub record IsNumberFromOne (most : ℕ) (word : List ℕ) (number : ℕ) : Type 0 where
  pub spelled : word ≡ decimal number
  pub some : 1 ≤ number
  pub bound : number ≤ most

-- the argument is no such number
abbrev pub IsNoNumberFromOne : ℕ → List ℕ → Type 0
IsNoNumberFromOne most word = (number : ℕ) → IsNumberFromOne most word number → ⊥

-- the argument is the decimal text of this number, which is at most that of a drive's steps
pub record AreDriveSteps (word : List ℕ) (number : ℕ) : Type 0 where
  pub spelled : word ≡ decimal number
  pub bound : number ≤ MOST_DRIVE_STEPS

-- the argument is no such number
abbrev pub AreNoDriveSteps : List ℕ → Type 0
AreNoDriveSteps word = (number : ℕ) → AreDriveSteps word number → ⊥

-- the argument is these letters after the byte `=`
abbrev pub IsWord : List ℕ → List ℕ → Type 0
IsWord word letters = word ≡ 61 ∷ letters

-- the argument does not begin with this byte
abbrev pub IsNoWord : List ℕ → Type 0
IsNoWord word = (letters : List ℕ) → IsWord word letters → ⊥

-- the two arguments are the names of ports after the byte `:`
abbrev pub ArePortNames : List ℕ → List ℕ → PortNames → Type 0
ArePortNames inputs outputs names = inputs ∷ outputs ∷ [] ≡ port_arguments (Some names)

-- the two arguments are none
abbrev pub AreNoPortNames : List ℕ → List ℕ → Type 0
AreNoPortNames inputs outputs = (names : PortNames) → ArePortNames inputs outputs names → ⊥

-- the argument is this word on a tape, with its sign before it
abbrev pub IsTapeWord : List ℕ → TapeWord → Type 0
IsTapeWord word read = word ≡ word_argument read

-- it is none
abbrev pub IsNoTapeWord : List ℕ → Type 0
IsNoTapeWord word = (read : TapeWord) → IsTapeWord word read → ⊥

-- the four arguments are the limits of a window, each at most the greatest count
pub record AreLimits (words : List (List ℕ)) (l : Limits) : Type 0 where
  pub spelled : words ≡ decimal l.left ∷ decimal l.right ∷ decimal l.steps ∷ decimal l.output ∷ []
  pub small : AreSmall l

-- the arguments are none
abbrev pub AreNoLimits : List (List ℕ) → Type 0
AreNoLimits words = (l : Limits) → AreLimits words l → ⊥

-- what is read of arguments: what they ask for, or nothing if they ask for nothing
abbrev pub AreRead : List (List ℕ) → Option declared.Request → Type 0
AreRead words result = MatchOption result (HasNoForm words) (λ request. HasForm words (request_of request))
