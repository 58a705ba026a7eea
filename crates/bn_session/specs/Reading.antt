-- Reading a line of a script as a function of its bytes. Proofs use it, and no public clause cites it.
use Rattle.std.specs.Prelude.{bytes_eq, ℕ, nat_le, Bool, List, take, drop, Option, Some, None, option_map}
use Rattle.std.specs.Prelude.{option_and_then, if◌then◌else◌, codes}
use Rattle.std.specs.List.{prefix_len}
use Rattle.std.specs.Option.{option_or}
use Rattle.std.specs.Char.{is_ascii_alphanumeric}
use Rattle.bn_csv.specs.Forms.{is_state_name}
use Rattle.bn_netlist_laws.specs.Reading.{word_taken, number_after, named_after}
use Rattle.bn_session.specs.Sentences.{ScriptSentence, Step, Back, Go, Rev, BreakState, BreakElement, BreakLine}
use Rattle.bn_session.specs.Sentences.{Drop, View}
use Rattle.bn_session.specs.Sentences.{is_label}
use Rattle.bn_session.specs.declared.sentence.Sentence.{Sentence as Kept}
use Rattle.bn_session.specs.declared.sentence.Sentence.TheVariants as kept

-- the program's representation of a sentence means this
abbrev pub said : Kept → ScriptSentence
said (kept.Step e) = Step e
said (kept.Back e) = Back e
said (kept.Go e) = Go e
said (kept.Rev e) = Rev e
said (kept.BreakState label name) = BreakState label.now name.now
said (kept.BreakElement label e) = BreakElement label.now e
said (kept.BreakLine label e l) = BreakLine label.now e l
said (kept.Drop label) = Drop label.now
said kept.View = View

-- a number of at least 1 after a word
abbrev pub at_least_one : ℕ → Option ℕ
at_least_one n = if nat_le 1 n then Some n else None

unfoldable pub ordinal_after : List ℕ → List ℕ → Option ℕ
ordinal_after word line = option_and_then at_least_one (number_after word line)

-- a label
abbrev pub label_by : List ℕ → Option (List ℕ)
label_by bytes = if is_label bytes then Some bytes else None

unfoldable pub label_after : List ℕ → List ℕ → Option (List ℕ)
label_after word line = option_and_then label_by (word_taken word line)

-- a name after a word
abbrev pub name_by : List ℕ → Option (List ℕ)
name_by bytes = if is_state_name bytes then Some bytes else None

unfoldable pub name_after : List ℕ → List ℕ → Option (List ℕ)
name_after word line = option_and_then name_by (word_taken word line)

-- the longest run of letters and digits at the front
abbrev pub label_len : List ℕ → ℕ
label_len bytes = prefix_len is_ascii_alphanumeric bytes

-- a breakpoint at a port
abbrev pub break_line : List ℕ → ℕ × ℕ → ScriptSentence
break_line label l = BreakLine label l.0 l.1

-- the name of a state after the label of a breakpoint on a machine's circuit, and of a port on another
unfoldable pub named_in : Bool → List ℕ → List ℕ → Option ScriptSentence
named_in of_machine label words =
    if of_machine then option_map (BreakState label) (name_after (codes " state ") words)
    else option_map (break_line label) (named_after (codes " line ") words)

-- the rest after the label of a breakpoint
unfoldable pub condition_in : Bool → List ℕ → List ℕ → Option ScriptSentence
condition_in of_machine label words =
    option_or (named_in of_machine label words)
    (option_map (BreakElement label) (number_after (codes " element ") words))

-- a label and the rest after it
abbrev pub labelled : Bool → List ℕ → List ℕ → Option ScriptSentence
labelled of_machine label words = if is_label label then condition_in of_machine label words else None

unfoldable pub breakpoint_in : Bool → List ℕ → Option ScriptSentence
breakpoint_in of_machine words = labelled of_machine (take (label_len words) words) (drop (label_len words) words)

unfoldable pub breakpoint_after : Bool → List ℕ → List ℕ → Option ScriptSentence
breakpoint_after of_machine word line = option_and_then (breakpoint_in of_machine) (word_taken word line)

abbrev pub view_in : List ℕ → Option ScriptSentence
view_in line = if bytes_eq line (codes "view") then Some View else None

-- the content of a line of a script for a circuit, which is a machine's or not
unfoldable pub sentence_in : Bool → List ℕ → Option ScriptSentence
sentence_in of_machine line =
    option_or (option_map Step (number_after (codes "step ") line))
    (option_or (option_map Back (number_after (codes "back ") line))
    (option_or (option_map Go (ordinal_after (codes "go ") line))
    (option_or (option_map Rev (ordinal_after (codes "rev ") line))
    (option_or (option_map Drop (label_after (codes "drop ") line))
    (option_or (view_in line)
    (breakpoint_after of_machine (codes "break ") line))))))
