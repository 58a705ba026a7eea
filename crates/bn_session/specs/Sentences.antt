-- The content of a line of a script, and how it is written. Each line has one content, in one spelling: words and
-- numbers with single spaces between them, and byte 10 at its end. The form is this project's own definition.
use Rattle.std.specs.Prelude.{◌≡◌, ℕ, ◌≤◌, nat_le, ◌&&◌, Bool, true, false, List, [], ◌∷◌, ◌++◌, length, codes}
use Rattle.std.specs.Prelude.{decimal}
use Rattle.std.specs.List.{list_all}
use Rattle.std.specs.Char.{is_ascii_alphanumeric}
use Rattle.bn_base.specs.Number.{greatest}
use Rattle.bn_circuits.specs.Circuits.{line_at}
use Rattle.bn_csv.specs.Forms.{is_state_name}
use Rattle.bn_netlist_laws.specs.Sentences.{IsNameable, line_text}

-- The content of a line: at most this many steps forward, or back; the same, at least one step, until a breakpoint
-- holds; a breakpoint with this label, at the moments of the state of this name, or where the signal enters this
-- element, or where it enters this port of this element; the removal of the breakpoint with this label; a view.
pub data ScriptSentence : Type 0 where
  Step : ℕ → ScriptSentence
  Back : ℕ → ScriptSentence
  Go : ℕ → ScriptSentence
  Rev : ℕ → ScriptSentence
  BreakState : List ℕ → List ℕ → ScriptSentence
  BreakElement : List ℕ → ℕ → ScriptSentence
  BreakLine : List ℕ → ℕ → ℕ → ScriptSentence
  Drop : List ℕ → ScriptSentence
  View : ScriptSentence

-- a label: 1 to 16 ASCII letters and digits
abbrev pub is_label : List ℕ → Bool
is_label label = nat_le 1 (length label) && nat_le (length label) 16 && list_all is_ascii_alphanumeric label

-- the line with this content, without its byte 10
abbrev pub script_sentence_text : ScriptSentence → List ℕ
script_sentence_text (Step e) = codes "step " ++ decimal e
script_sentence_text (Back e) = codes "back " ++ decimal e
script_sentence_text (Go e) = codes "go " ++ decimal e
script_sentence_text (Rev e) = codes "rev " ++ decimal e
script_sentence_text (BreakState label name) = codes "break " ++ (label ++ (codes " state " ++ name))
script_sentence_text (BreakElement label e) = codes "break " ++ (label ++ (codes " element " ++ decimal e))
script_sentence_text (BreakLine label e l) = codes "break " ++ (label ++ (codes " line " ++ line_text (line_at e l)))
script_sentence_text (Drop label) = codes "drop " ++ label
script_sentence_text View = codes "view"

-- lines one after another, each with its byte 10
abbrev pub script_text : List ScriptSentence → List ℕ
script_text [] = []
script_text (s ∷ ss) = script_sentence_text s ++ 10 ∷ script_text ss

-- The sentence can be written in a script for a circuit, which is a machine's or not: its numbers are at most the
-- greatest that is read, and at least 1 for a walk; its labels and names have their forms. Only the script for a
-- machine's circuit names states, and only the script for another circuit names ports.
abbrev pub IsSayableInScript : Bool → ScriptSentence → Type 0
IsSayableInScript of_machine (Step e) = e ≤ greatest
IsSayableInScript of_machine (Back e) = e ≤ greatest
IsSayableInScript of_machine (Go e) = (1 ≤ e) × (e ≤ greatest)
IsSayableInScript of_machine (Rev e) = (1 ≤ e) × (e ≤ greatest)
IsSayableInScript of_machine (BreakState label name) =
    (is_label label ≡ true) × (is_state_name name ≡ true) × (of_machine ≡ true)
IsSayableInScript of_machine (BreakElement label e) = (is_label label ≡ true) × (e ≤ greatest)
IsSayableInScript of_machine (BreakLine label e l) =
    (is_label label ≡ true) × IsNameable (line_at e l) × (of_machine ≡ false)
IsSayableInScript of_machine (Drop label) = is_label label ≡ true
IsSayableInScript of_machine View = Unit {0}
