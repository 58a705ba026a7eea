-- Scripts: the commands that their lines request, and the first line with an error. The lines before a line determine
-- which labels it may use. A script is for a machine's circuit, whose states have names, or for another circuit:
-- `names` are the names of the states, and there are none for another circuit.
use Rattle.std.specs.Prelude.{◌≡◌, ◌≢◌, ℕ, ◌+◌, true, false, List, [], ◌∷◌, ◌++◌, length, slice_get, Option, Some}
use Rattle.std.specs.Prelude.{is_some, unwrap_or, Contains}
use Rattle.bn_session.specs.Labels.{stands, standing_after, standing_by}
use Rattle.bn_session.specs.Sentences.{ScriptSentence, Step, Back, Go, Rev, BreakState, BreakElement, BreakLine}
use Rattle.bn_session.specs.Sentences.{Drop, View}
use Rattle.bn_session.specs.Sentences.{IsSayableInScript, script_sentence_text, script_text}
use Rattle.bn_session.specs.declared.command.Command.{Command}
use Rattle.bn_session.specs.declared.command.Command.TheVariants as commands
use Rattle.bn_session.specs.declared.refusal.ScriptRefusal.{ScriptRefusal}
use Rattle.bn_session.specs.declared.refusal.ScriptRefusal.TheVariants as refusals

-- the names of the states of a machine, or none
abbrev pub Names : Type 0
Names = Option (List (List ℕ))

abbrev pub state_names : Names → List (List ℕ)
state_names names = unwrap_or names []

-- among states with these names, with these labels in use, the sentence requests this command
abbrev pub Asks : Names → List (List ℕ) → ScriptSentence → Command → Type 0
Asks names standing (Step e) x = x ≡ commands.Step e
Asks names standing (Back e) x = x ≡ commands.Back e
Asks names standing (Go e) x = x ≡ commands.Go e
Asks names standing (Rev e) x = x ≡ commands.Rev e
Asks names standing (BreakState label name) x =
    (state : ℕ) × (slice_get (state_names names) state ≡ Some name) × (stands label standing ≡ false)
    × (x ≡ commands.BreakState label state)
Asks names standing (BreakElement label e) x = (stands label standing ≡ false) × (x ≡ commands.BreakElement label e)
Asks names standing (BreakLine label e l) x = (stands label standing ≡ false) × (x ≡ commands.BreakLine label e l)
Asks names standing (Drop label) x = (stands label standing ≡ true) × (x ≡ commands.Drop label)
Asks names standing View x = x ≡ commands.View

-- the sentences, one after another, request these commands, with these labels in use before the first
abbrev pub AskFor : Names → List (List ℕ) → List ScriptSentence → List Command → Type 0
AskFor names standing [] xs = xs ≡ []
AskFor names standing (s ∷ ss) xs =
    (x : Command) × (more : List Command) × (xs ≡ x ∷ more) × IsSayableInScript (is_some names) s
    × Asks names standing s x
    × AskFor names (standing_after standing x) ss more

-- among states with these names the bytes are a script of these commands
pub record IsScript (names : Names) (bytes : List ℕ) (xs : List Command) : Type 0 where
  pub sentences : List ScriptSentence
  pub spelled : bytes ≡ script_text sentences
  pub asked : AskFor names [] sentences xs

-- ---- faults

-- The errors of a line: it has no form; no state has the name; the label is already in use; the label is not in use.
pub data ScriptFault : Type 0 where
  malformed : ScriptFault
  no_state : ScriptFault
  same_break : ScriptFault
  no_break : ScriptFault

-- the first error of a line that has its form and this content
abbrev pub IsFaultyLine : Names → List (List ℕ) → ScriptSentence → ScriptFault → Type 0
IsFaultyLine names standing (BreakState label name) no_state = ¬ Contains (state_names names) name
IsFaultyLine names standing (BreakState label name) same_break =
    Contains (state_names names) name × (stands label standing ≡ true)
IsFaultyLine names standing (BreakElement label e) same_break = stands label standing ≡ true
IsFaultyLine names standing (BreakLine label e l) same_break = stands label standing ≡ true
IsFaultyLine names standing (Drop label) no_break = stands label standing ≡ false
IsFaultyLine names standing _ _ = ⊥

-- something is left, and it does not begin with a whole line that has a form
pub record IsMalformedLine (names : Names) (left : List ℕ) : Type 0 where
  pub some : left ≢ []
  pub unsaid : (s : ScriptSentence) (behind : List ℕ) → IsSayableInScript (is_some names) s
      → left ≢ script_sentence_text s ++ 10 ∷ behind

-- the rest begins with a whole line that has a form and this error
pub record BeginsFaulty (names : Names) (standing : List (List ℕ)) (left : List ℕ) (fault : ScriptFault) : Type 0 where
  pub says : ScriptSentence
  pub behind : List ℕ
  pub begins : left ≡ script_sentence_text says ++ 10 ∷ behind
  pub sayable : IsSayableInScript (is_some names) says
  pub faulty : IsFaultyLine names standing says fault

-- the rest begins with a line whose first error is this
abbrev pub BeginsWithFaultyLine : Names → List (List ℕ) → List ℕ → ScriptFault → Type 0
BeginsWithFaultyLine names standing left malformed = IsMalformedLine names left
BeginsWithFaultyLine names standing left fault = BeginsFaulty names standing left fault

-- The line of this number, counted from 1, is the first with an error, and this is its first error.
pub record IsFirstScriptFault (names : Names) (bytes : List ℕ) (line : ℕ) (fault : ScriptFault) : Type 0 where
  pub before : List ScriptSentence
  pub commands : List Command
  pub left : List ℕ
  pub begins : bytes ≡ script_text before ++ left
  pub counted : line ≡ length before + 1
  pub asked : AskFor names [] before commands
  pub here : BeginsWithFaultyLine names (standing_by commands) left fault

-- the refusal names a line and an error for which this holds, or memory ran out
abbrev pub IsRefusalOf : (ℕ → ScriptFault → Type 0) → ScriptRefusal → Type 0
IsRefusalOf holds (refusals.Form line) = holds line malformed
IsRefusalOf holds (refusals.NoState line) = holds line no_state
IsRefusalOf holds (refusals.SameBreak line) = holds line same_break
IsRefusalOf holds (refusals.NoBreak line) = holds line no_break
IsRefusalOf holds refusals.NoMemory = Unit {0}
