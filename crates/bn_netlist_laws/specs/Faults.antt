-- The faults of lines of a configuration text, and the first faulty line of a text. A line is checked against the
-- lines before it. The text is checked as a whole only if no line has a fault.
use Rattle.std.specs.Prelude.{◌≡◌, ◌≢◌, ℕ, ◌+◌, ◌-◌, ◌<◌, ◌≤◌, min, nat_lt, nat_le, ◌==◌, ◌||◌, Bool, false, List, []}
use Rattle.std.specs.Prelude.{◌∷◌, ◌++◌, length, replicate, Option, Some, None, is_some, if◌then◌else◌, slice_get, ◌⊎◌}
use Rattle.std.proofs.Common.{suc}
use Rattle.bn_circuits.specs.Circuits.{source, same_line}
use Rattle.bn_circuits.specs.declared.line.Line.{Line}
use Rattle.bn_circuits.specs.declared.line.Wire.{Wire}
use Rattle.bn_circuits.specs.declared.place.Place.{Place}
use Rattle.bn_circuits.specs.declared.place.Place.TheVariants.{Enter, Left}
use Rattle.bn_element.specs.Rotary.{vertical, east}
use Rattle.bn_lists.specs.Lists.{IsLeast}
use Rattle.bn_netlist_laws.specs.Spelling.{Spelling}
use Rattle.bn_netlist_laws.specs.Sentences.{Sentence, Title, Count, Start, End, Steps, At, Element, Column, Row}
use Rattle.bn_netlist_laws.specs.Sentences.{sentence_text, lines_text, IsSayable}
use Rattle.bn_netlist_laws.specs.Columns.{HasColumnAt, inner_wires, rotary_elements}
use Rattle.bn_netlist_laws.specs.Spelling.{Spelled, most_elements}
use Rattle.bn_netlist_laws.specs.declared.version.Version.{Version}
use Rattle.bn_netlist_laws.specs.declared.version.Version.TheVariants.{One, Two}

-- The faults of a line, in the order of the variants: the line is malformed; its count is above the limit; it names an
-- element that does not exist; its number is not the next one; a wire leaves the end; a wire leaves the port by which
-- the signal has left; a wire leads into the start; a wire leads to a port to which an earlier wire leads. The last
-- fault is one of a text without these: an element at which a column begins has a line of its own.
pub data Fault : Type 0 where
  malformed : Fault
  too_many : Fault
  no_element : Fault
  out_of_order : Fault
  end_wired : Fault
  left_wired : Fault
  start_fed : Fault
  second_source : Fault
  spelled_out : Fault

-- the number of lines before those of the elements
abbrev pub header_lines : ℕ
header_lines = 6

-- ---- the contents of lines

-- the version that the title states
abbrev pub version_in : List Sentence → Version
version_in [] = One
version_in (Title v ∷ xs) = v
version_in (x ∷ xs) = version_in xs

-- the number of elements that the lines state
abbrev pub count_in : List Sentence → ℕ
count_in [] = 0
count_in (Count c ∷ xs) = c
count_in (x ∷ xs) = count_in xs

-- whether this port is the start, the end, or the one by which the signal has left
abbrev pub is_start_in : List Sentence → Line → Bool
is_start_in [] l = false
is_start_in (Start start ∷ xs) l = same_line start l
is_start_in (x ∷ xs) l = is_start_in xs l

abbrev pub is_end_in : List Sentence → Line → Bool
is_end_in [] l = false
is_end_in (End end ∷ xs) l = same_line end l
is_end_in (x ∷ xs) l = is_end_in xs l

abbrev pub is_left_by : Place → Line → Bool
is_left_by (Enter e i) l = false
is_left_by (Left e o) l = same_line (record { element = e; line = o }) l

abbrev pub is_left_in : List Sentence → Line → Bool
is_left_in [] l = false
is_left_in (At p ∷ xs) l = is_left_by p l
is_left_in (x ∷ xs) l = is_left_in xs l

-- the number of rows of a column whose lines are still missing: after one more line, and below, after all of these
-- lines
abbrev pub rows_after : ℕ → Sentence → ℕ
rows_after m (Column e k q) = k
rows_after m (Row x y) = m - 1
rows_after m x = m

abbrev pub rows_left : ℕ → List Sentence → ℕ
rows_left m [] = m
rows_left m (x ∷ xs) = rows_left (rows_after m x) xs

-- Each line after the header accounts for one more element: the line of a column for its bottom, and the lines of its
-- rows for the rows. Therefore, after this many lines, the line of an element or of a column must begin with this
-- number,
abbrev pub next_number : ℕ → ℕ
next_number lines = lines - header_lines

-- and the line of a row is that of this element.
abbrev pub row_number : ℕ → ℕ
row_number lines = lines - (header_lines + 1)

-- the wires of the outputs of an element, from this output on
abbrev pub wires_from : ℕ → ℕ → List (Option Line) → List Wire
wires_from e o [] = []
wires_from e o (None ∷ xs) = wires_from e (suc o) xs
wires_from e o (Some to ∷ xs) = record { from = record { element = e; line = o }; to = to } ∷ wires_from e (suc o) xs

-- where the outputs of a row lead, from its east output on: the entry of its south output, whose wire is the column's
-- own, is empty
abbrev pub row_targets : Option Line → Option Line → List (Option Line)
row_targets x y = x ∷ None ∷ y ∷ []

-- the wires that a line adds after this many lines
abbrev pub line_wires : ℕ → Sentence → List Wire
line_wires lines (Element n q xs) = wires_from n 0 xs
line_wires lines (Column e k q) = inner_wires e k
line_wires lines (Row x y) = wires_from (row_number lines) east (row_targets x y)
line_wires lines x = []

abbrev pub wires_after : ℕ → List Sentence → List Wire
wires_after lines [] = []
wires_after lines (x ∷ xs) = line_wires lines x ++ wires_after (suc lines) xs

abbrev pub wires_in : List Sentence → List Wire
wires_in xs = wires_after 0 xs

-- the states of the bars that the lines state, in the order of the elements
abbrev pub bars_in : List Sentence → List ℕ
bars_in [] = []
bars_in (Element n q ts ∷ xs) = q ∷ bars_in xs
bars_in (Column e k q ∷ xs) = replicate k vertical ++ q ∷ bars_in xs
bars_in (x ∷ xs) = bars_in xs

-- ---- the first fault of a line

-- The first fault of the wire from an output port to an input port, after these lines and these wires.
abbrev pub wire_fault : List Sentence → List Wire → Line → Line → Option Fault
wire_fault before wires from to =
    if nat_lt to.element (count_in before)
    then (if is_end_in before from then Some end_wired
    else (if is_left_in before from then Some left_wired
    else (if is_start_in before to then Some start_fed
    else (if is_some (source wires to) then Some second_source
    else None))))
    else Some no_element

-- the first fault if there is one, otherwise the second
abbrev pub or_else : Option Fault → Option Fault → Option Fault
or_else None later = later
or_else (Some fault) later = Some fault

-- the first fault of the outputs of an element, from this output on
abbrev pub outputs_fault : List Sentence → List Wire → ℕ → ℕ → List (Option Line) → Option Fault
outputs_fault before wires e o [] = None
outputs_fault before wires e o (None ∷ xs) = outputs_fault before wires e (suc o) xs
outputs_fault before wires e o (Some to ∷ xs) =
    or_else (wire_fault before wires (record { element = e; line = o }) to)
    (outputs_fault before (wires ++ record { from = record { element = e; line = o }; to = to } ∷ []) e (suc o) xs)

-- at least one wire of the list passes the test
abbrev pub some_wire : (Wire → Bool) → List Wire → Bool
some_wire test [] = false
some_wire test (w ∷ ws) = test w || some_wire test ws

-- The first fault of a column whose bottom is this element and whose own wires are these, after these lines and these
-- wires: all of its wires are checked for one fault before they are checked for the next.
abbrev pub inner_fault : List Sentence → List Wire → ℕ → List Wire → Option Fault
inner_fault before wires bottom inner =
    if nat_lt bottom (count_in before)
    then (if some_wire (λ w. is_end_in before w.from) inner then Some end_wired
    else (if some_wire (λ w. is_left_in before w.from) inner then Some left_wired
    else (if some_wire (λ w. is_start_in before w.to) inner then Some start_fed
    else (if some_wire (λ w. is_some (source wires w.to)) inner then Some second_source
    else None))))
    else Some no_element

-- the element at which the signal is
abbrev pub element_at : Place → ℕ
element_at (Enter e i) = e
element_at (Left e o) = e

-- the fault of a port whose element does not exist
abbrev pub named_fault : List Sentence → ℕ → Option Fault
named_fault before e = if nat_lt e (count_in before) then None else Some no_element

-- The first fault of a well-formed line with these contents, after these lines.
abbrev pub fault_of : List Sentence → Sentence → Option Fault
fault_of before (Title v) = None
fault_of before (Count c) = if nat_le c (most_elements (version_in before)) then None else Some too_many
fault_of before (Start l) = named_fault before l.element
fault_of before (End l) = named_fault before l.element
fault_of before (Steps t) = None
fault_of before (At p) = named_fault before (element_at p)
fault_of before (Element n q xs) =
    if n == next_number (length before) then outputs_fault before (wires_in before) n 0 xs else Some out_of_order
fault_of before (Column e k q) =
    if e == next_number (length before) then inner_fault before (wires_in before) (e + k) (inner_wires e k)
    else Some out_of_order
fault_of before (Row x y) = outputs_fault before (wires_in before) (row_number (length before)) east (row_targets x y)

-- ---- which line comes next

-- the kind of a line with these contents, counted from 0; the lines of an element and of a column are of one kind,
-- since both begin an entry
abbrev pub kind_of : Sentence → ℕ
kind_of (Title v) = 0
kind_of (Count c) = 1
kind_of (Start l) = 2
kind_of (End l) = 3
kind_of (Steps t) = 4
kind_of (At p) = 5
kind_of (Element n q xs) = 6
kind_of (Column e k q) = 6
kind_of (Row x y) = 7

-- the kind of line that must come after these: the six of the header in order, then that of an entry, or that of a row
-- as long as rows of a column are missing
abbrev pub kind_after : List Sentence → ℕ
kind_after before = min (length before) header_lines + min (rows_left 0 before) 1

-- the line has a form that this version admits
abbrev pub IsOfVersion : Version → Sentence → Type 0
IsOfVersion One (Column e k q) = ⊥
IsOfVersion One x = Unit {0}
IsOfVersion Two x = Unit {0}

-- A line with these contents may come after these lines: it is well-formed and of the right kind and version, and
-- there are fewer lines after the header than elements.
pub record IsNext (before : List Sentence) (x : Sentence) : Type 0 where
  pub sayable : IsSayable x
  pub kind : kind_of x ≡ kind_after before
  pub version : IsOfVersion (version_in before) x
  pub room : length before < header_lines + count_in before

-- Each of these lines is well-formed and has no fault after the earlier ones.
abbrev pub AreFaultlessAfter : List Sentence → List Sentence → Type 0
AreFaultlessAfter earlier [] = Unit {0}
AreFaultlessAfter earlier (x ∷ xs) =
    IsNext earlier x × (fault_of earlier x ≡ None) × AreFaultlessAfter (earlier ++ x ∷ []) xs

abbrev pub AreFaultless : List Sentence → Type 0
AreFaultless xs = AreFaultlessAfter [] xs

-- After these lines, the rest of the text does not begin with a well-formed line that may come next. If all lines are
-- there, the rest is not empty.
pub record IsMalformed (before : List Sentence) (left : List ℕ) : Type 0 where
  pub unsaid : (x : Sentence) (behind : List ℕ) → IsNext before x → left ≢ sentence_text x ++ 10 ∷ behind
  pub unfinished : length before ≡ header_lines + count_in before → left ≢ []

-- After these lines, the rest of the text begins with a well-formed line that may come next, and this is the first
-- fault of that line.
pub record IsFaulty (before : List Sentence) (left : List ℕ) (fault : Fault) : Type 0 where
  pub says : Sentence
  pub behind : List ℕ
  pub begins : left ≡ sentence_text says ++ 10 ∷ behind
  pub next : IsNext before says
  pub has : fault_of before says ≡ Some fault

-- after these lines, the rest of the text begins with this fault
abbrev pub BeginsWithFault : List Sentence → List ℕ → Fault → Type 0
BeginsWithFault before left malformed = IsMalformed before left
BeginsWithFault before left fault = IsFaulty before left fault

-- The line with this number, counted from 1, is the first line of the text with a fault of its own, and this is its
-- first fault. A missing line, a line without its byte 10, and bytes after the last line are malformed.
pub record IsFirstBadLine (text : List ℕ) (line : ℕ) (fault : Fault) : Type 0 where
  pub before : List Sentence
  pub left : List ℕ
  pub counted : line ≡ length before + 1
  pub begins : text ≡ lines_text before ++ left
  pub faultless : AreFaultless before
  pub here : BeginsWithFault before left fault

-- ---- a text whose lines have no fault

-- these lines are a complete text, and none of them has a fault
pub record AreWhole (lines : List Sentence) : Type 0 where
  pub faultless : AreFaultless lines
  pub complete : length lines ≡ header_lines + count_in lines

-- In a text of version 2, the element with this number has a line of its own, but in the configuration that these
-- lines state a column begins there, which must be written as one entry.
pub record IsSpelledOut (lines : List Sentence) (e : ℕ) : Type 0 where
  pub second : version_in lines ≡ Two
  pub state : ℕ
  pub targets : List (Option Line)
  pub has_line : slice_get lines (header_lines + e) ≡ Some (Element e state targets)
  pub column : HasColumnAt (rotary_elements (count_in lines) (wires_in lines)) (bars_in lines) e

-- the line with this number, counted from 1, is that of the first element with its own line at which a column begins,
-- and no line has another fault
pub record IsFirstSpelledOut (text : List ℕ) (line : ℕ) : Type 0 where
  pub lines : List Sentence
  pub begins : text ≡ lines_text lines
  pub whole : AreWhole lines
  pub element : ℕ
  pub first : IsLeast (IsSpelledOut lines) element
  pub counted : line ≡ header_lines + element + 1

-- The line with this number, counted from 1, is the first faulty line of the text, and this is its first fault.
abbrev pub IsFirstFault : List ℕ → ℕ → Fault → Type 0
IsFirstFault text line spelled_out = IsFirstSpelledOut text line
IsFirstFault text line fault = IsFirstBadLine text line fault

-- ---- laws

-- A text with a first fault spells no configuration.
abbrev pub FaultyTextsSpellNothing : Type 0
FaultyTextsSpellNothing =
    (v : Version) (s : Spelling) (text : List ℕ) (line : ℕ) (fault : Fault) → IsFirstFault text line fault
    → Spelled v s text → ⊥

-- A text has at most one first fault.
abbrev pub FaultsAgree : Type 0
FaultsAgree =
    (text : List ℕ) (line other : ℕ) (fault second : Fault) → IsFirstFault text line fault
    → IsFirstFault text other second → (line ≡ other) × (fault ≡ second)

-- Each text either spells a configuration or has a first fault.
abbrev pub TextsSpellOrFault : Type 0
TextsSpellOrFault =
    (text : List ℕ)
    → ((v : Version) × (s : Spelling) × Spelled v s text)
    ⊎ ((line : ℕ) × (fault : Fault) × IsFirstFault text line fault)

-- A well-formed line is at most 111 bytes long, without its byte 10.
abbrev pub LinesAreShort : Type 0
LinesAreShort = (x : Sentence) → IsSayable x → length (sentence_text x) ≤ 111
