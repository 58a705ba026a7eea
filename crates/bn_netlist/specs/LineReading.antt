-- One line of a text, without its byte 10, after the lines before it: what accepting it and refusing it mean. Readers
-- that take one line at a time, from bytes or from pieces, are specified by these definitions alone.
use Rattle.std.specs.Prelude.{◌≡◌, ◌≢◌, ℕ, ◌+◌, ◌<◌, List, [], ◌∷◌, ◌++◌, length, Some, None}
use Rattle.bn_base.specs.Line.{IsInLine}
use Rattle.bn_netlist_laws.specs.Sentences.{Sentence, sentence_text, lines_text}
use Rattle.bn_netlist_laws.specs.Faults.{Fault, malformed, version_in, kind_after, header_lines, count_in, fault_of}
use Rattle.bn_netlist_laws.specs.Faults.{IsNext, AreFaultless, IsFirstFault}
use Rattle.bn_netlist_laws.specs.Saying.{said}
use Rattle.bn_netlist.specs.Drafting.{refusal_of}
use Rattle.bn_netlist.specs.NetText.{IsTextRefusal}
use Rattle.bn_netlist.specs.declared.line_refusal.NetlistRefusal.{NetlistRefusal}
use Rattle.bn_netlist.specs.declared.line_refusal.NetlistRefusal.TheVariants.{Syntax, NoMemory}

-- the line has these contents, comes next and has no fault
pub record TakesLine (before : List Sentence) (line : List ℕ) (x : Sentence) : Type 0 where
  pub next : IsNext before x
  pub faultless : fault_of before x ≡ None
  pub written : line ≡ sentence_text x

-- memory ran out; or the line is not a well-formed line that may come next; or it is, and this is its first fault
pub data RefusesLine (before : List Sentence) (line : List ℕ) (r : NetlistRefusal) : Type 0 where
  no_memory : r ≡ NoMemory → RefusesLine before line r
  no_form : r ≡ Syntax (length before + 1) → ((x : Sentence) → IsNext before x → line ≢ sentence_text x)
      → RefusesLine before line r
  has_fault : (x : Sentence) (fault : Fault) → IsNext before x → line ≡ sentence_text x
      → fault_of before x ≡ Some fault → r ≡ refusal_of fault (length before + 1) → RefusesLine before line r

-- A refused line refuses every text that continues it.
abbrev pub RefusedLinesRefuse : Type 0
RefusedLinesRefuse =
    (before : List Sentence) (line rest : List ℕ) (r : NetlistRefusal) → AreFaultless before → IsInLine line
    → length before < header_lines + count_in before → RefusesLine before line r
    → IsTextRefusal (lines_text before ++ (line ++ 10 ∷ rest)) r

-- If a line is missing or lacks its byte 10, or bytes follow the last line, the text is malformed there.
abbrev pub RestsAreMalformed : Type 0
RestsAreMalformed =
    (before : List Sentence) (left : List ℕ) → AreFaultless before → IsInLine left
    → (length before ≡ header_lines + count_in before → left ≢ [])
    → IsFirstFault (lines_text before ++ left) (length before + 1) malformed

-- the same if whole lines follow the last line
abbrev pub LinesBehindAreMalformed : Type 0
LinesBehindAreMalformed =
    (before : List Sentence) (left : List ℕ) → AreFaultless before → length before ≡ header_lines + count_in before
    → left ≢ [] → IsFirstFault (lines_text before ++ left) (length before + 1) malformed

-- A line is one that may come next exactly if parsing it as a line of the next kind returns contents.
abbrev pub LinesAreRead : Type 0
LinesAreRead =
    (before : List Sentence) (line : List ℕ) (x : Sentence) → length before < header_lines + count_in before
    → said (version_in before) (kind_after before) line ≡ Some x → IsNext before x × (line ≡ sentence_text x)

abbrev pub OtherLinesAreNot : Type 0
OtherLinesAreNot =
    (before : List Sentence) (line : List ℕ) → said (version_in before) (kind_after before) line ≡ None
    → (x : Sentence) → IsNext before x → line ≢ sentence_text x

-- A line of more than 111 bytes is no well-formed line.
abbrev pub LongLinesAreNot : Type 0
LongLinesAreNot =
    (before : List Sentence) (line : List ℕ) → 111 < length line → (x : Sentence) → IsNext before x
    → line ≢ sentence_text x
