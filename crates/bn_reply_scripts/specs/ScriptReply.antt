-- The answer to an input with a script after a line `%`, on any circuit (the script and the text are this project's own
-- definitions).
use Rattle.std.specs.Prelude.{◌≡◌, ℕ, List, [], ◌∷◌, codes, decimal}
use Rattle.bn_base.specs.Cuts.{IsCut, IsUncut}
use Rattle.bn_circuits.specs.declared.place.Place.{Place}
use Rattle.bn_reply.specs.Lines.{line}
use Rattle.bn_reply.specs.declared.status.Status.{Status}
use Rattle.bn_reply.specs.declared.status.Status.TheVariants as statuses
use Rattle.bn_session.specs.Scripts.{Names, ScriptFault, IsFirstScriptFault, IsScript, malformed, no_break, no_state}
use Rattle.bn_session.specs.Scripts.{same_break}
use Rattle.bn_session.specs.declared.command.Command.{Command}

-- the words for an error in a line of a script
abbrev pub script_fault_text : ScriptFault → List ℕ
script_fault_text malformed = codes "form"
script_fault_text no_state = codes "no state"
script_fault_text same_break = codes "same break"
script_fault_text no_break = codes "no break"

-- the line for an error in this line of the script, counted from 1, and for an input without a script
abbrev pub script_fault_line : ℕ → ScriptFault → List ℕ
script_fault_line number fault = line (codes "text: script line " ∷ decimal number ∷ codes " "
    ∷ script_fault_text fault ∷ [])

abbrev pub uncut_line : List ℕ
uncut_line = line (codes "text: no script" ∷ [])

-- The answer to a script for a machine's circuit with states of these names, or for another circuit, where `plays
-- commands text` states that the text is the answer to these commands: the script's first error, or that answer. A
-- watch receives nothing.
pub data ScriptReplies (names : Names) (plays : List Command → List ℕ → Type 0) (script : List ℕ)
    (status : Status) (text : List ℕ) (told : List Place) : Type 0 where
  faulty : (number : ℕ) (fault : ScriptFault) → IsFirstScriptFault names script number fault
      → text ≡ script_fault_line number fault → status ≡ statuses.Text → told ≡ []
      → ScriptReplies names plays script status text told
  played : (commands : List Command) → IsScript names script commands → plays commands text
      → status ≡ statuses.Done → told ≡ [] → ScriptReplies names plays script status text told

-- The answer to these bytes, where `answers table script` is the answer to a table and a script: no line separates a
-- script; or the answer to the table before the line and the script after it.
pub data CutReplies (answers : List ℕ → List ℕ → Status → List ℕ → List Place → Type 0) (bytes : List ℕ)
    (status : Status) (text : List ℕ) (told : List Place) : Type 0 where
  uncut : IsUncut bytes → text ≡ uncut_line → status ≡ statuses.Text → told ≡ []
      → CutReplies answers bytes status text told
  cut : (table script : List ℕ) → IsCut bytes table script → answers table script status text told
      → CutReplies answers bytes status text told
