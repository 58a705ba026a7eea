-- How far a script has been read.
use Rattle.std.specs.Prelude.{◌≡◌, ◌≢◌, ℕ, List, [], ◌∷◌, ◌++◌, length, Option, Some, None}
use Rattle.std.specs.Prelude.{is_some}
use Rattle.bn_session.specs.Labels.{standing_after}
use Rattle.bn_session.specs.Sentences.{ScriptSentence, IsSayableInScript, script_sentence_text, script_text}
use Rattle.bn_session.specs.Scripts.{Names, Asks, AskFor, ScriptFault, malformed, IsFaultyLine}
use Rattle.bn_session.specs.declared.command.Command.{Command}

-- the error is in the line of this number
abbrev pub AtLine : ℕ → (ScriptFault → Type 0) → ℕ → ScriptFault → Type 0
AtLine number IsOf line fault = (line ≡ number) × IsOf fault

-- the sentence requests this command, after which these labels are in use
abbrev pub AsksFor : Names → List (List ℕ) → ScriptSentence → Command → List (List ℕ) → Type 0
AsksFor names standing s x after = Asks names standing s x × (after ≡ standing_after standing x)

-- the line requests this command, after which these labels are in use
pub record IsAsked (names : Names) (standing : List (List ℕ)) (line : List ℕ) (x : Command) (after : List (List ℕ)) :
    Type 0 where
  pub says : ScriptSentence
  pub spelled : line ≡ script_sentence_text says
  pub sayable : IsSayableInScript (is_some names) says
  pub asked : AsksFor names standing says x after

-- the line has a form, and this error
pub record HasFault (names : Names) (standing : List (List ℕ)) (line : List ℕ) (fault : ScriptFault) : Type 0 where
  pub says : ScriptSentence
  pub spelled : line ≡ script_sentence_text says
  pub sayable : IsSayableInScript (is_some names) says
  pub faulty : IsFaultyLine names standing says fault

-- the first error of a whole line
abbrev pub IsLineFault : Names → List (List ℕ) → List ℕ → ScriptFault → Type 0
IsLineFault names standing line malformed = (s : ScriptSentence) → IsSayableInScript (is_some names) s
    → line ≢ script_sentence_text s
IsLineFault names standing line fault = HasFault names standing line fault

-- the rest begins with a line that requests this command, after which these labels are in use, and this is the rest
-- after it
pub record AsksNext (names : Names) (standing : List (List ℕ)) (left : List ℕ) (x : Command) (behind : List ℕ)
    (after : List (List ℕ)) : Type 0 where
  pub says : ScriptSentence
  pub begins : left ≡ script_sentence_text says ++ 10 ∷ behind
  pub sayable : IsSayableInScript (is_some names) says
  pub asked : AsksFor names standing says x after

-- a line was read; or nothing was left
abbrev pub Advances : Names → List (List ℕ) → List ℕ → Option Command → List ℕ → List (List ℕ) → Type 0
Advances names standing left None behind after = left ≡ []
Advances names standing left (Some x) behind after = AsksNext names standing left x behind after

-- the bytes are lines that request these commands, and a rest
pub record HasRead (names : Names) (bytes left : List ℕ) (xs : List Command) : Type 0 where
  pub sentences : List ScriptSentence
  pub begins : bytes ≡ script_text sentences ++ left
  pub asked : AskFor names [] sentences xs
  pub counted : length sentences ≡ length xs
