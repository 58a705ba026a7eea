-- Reading a text line by line: what has been read, and what a refusal asserts about the next line.
use Rattle.std.specs.Prelude.{◌≡◌, ℕ, ◌+◌, ◌*◌, ◌<◌, Bool, true, false, List, [], ◌∷◌, ◌++◌, length, replicate, Option}
use Rattle.std.specs.Prelude.{Some, None, slice_get, is_some}
use Rattle.bn_circuits.specs.Circuits.{Circuit, source}
use Rattle.bn_circuits.specs.declared.line.Line.{Line}
use Rattle.bn_circuits.specs.declared.line.Wire.{Wire}
use Rattle.bn_circuits.specs.Wirings.{AreApart}
use Rattle.bn_packed.specs.Drafts.{AreDrawn}
use Rattle.bn_packed.specs.Ends.{EndList}
use Rattle.bn_netlist_laws.specs.Columns.{HasColumnAt, inner_wires}
use Rattle.bn_netlist_laws.specs.Spelling.{header_then}
use Rattle.bn_netlist_laws.specs.Faults.{Fault, malformed, too_many, no_element, out_of_order, end_wired, left_wired}
use Rattle.bn_netlist_laws.specs.Faults.{start_fed, second_source, spelled_out, inner_fault, wire_fault, outputs_fault}
use Rattle.bn_netlist_laws.specs.Faults.{bars_in, wires_after, rows_left, fault_of, wires_from}
use Rattle.std.specs.Prelude.{Result, Ok, Err}
use Rattle.bn_netlist_laws.specs.Sentences.{Sentence, Element, Column}
use Rattle.bn_netlist_laws.specs.declared.header.Header.{Header}
use Rattle.bn_netlist.specs.declared.line_refusal.NetlistRefusal.{NetlistRefusal}
use Rattle.bn_netlist.specs.declared.line_refusal.NetlistRefusal.TheVariants.{Syntax, Order, Target, TwoSources}
use Rattle.bn_netlist.specs.declared.line_refusal.NetlistRefusal.TheVariants.{StartFed, EndWired, LeftWired, TooMany}
use Rattle.bn_netlist.specs.declared.line_refusal.NetlistRefusal.TheVariants.{Spelling, NoMemory}

-- the refusal that names a fault and a line
abbrev pub refusal_of : Fault → ℕ → NetlistRefusal
refusal_of malformed line = Syntax line
refusal_of too_many line = TooMany line
refusal_of no_element line = Target line
refusal_of out_of_order line = Order line
refusal_of end_wired line = EndWired line
refusal_of left_wired line = LeftWired line
refusal_of start_fed line = StartFed line
refusal_of second_source line = TwoSources line
refusal_of spelled_out line = Spelling line

-- the refusal names this fault at this line, or memory ran out
pub data RefusesBy (found : Option Fault) (line : ℕ) (r : NetlistRefusal) : Type 0 where
  wants_memory : r ≡ NoMemory → RefusesBy found line r
  finds : (fault : Fault) → found ≡ Some fault → r ≡ refusal_of fault line → RefusesBy found line r

-- for each input port of this many elements a mark: whether one of the wires ends there
pub record IsFed (count : ℕ) (wires : List Wire) (fed : List Bool) : Type 0 where
  pub size : length fed ≡ 4 * count
  pub marks : (l : Line) → l.element < count → l.line < 4
      → slice_get fed (4 * l.element + l.line) ≡ Some (is_some (source wires l))

-- a draft of this many elements has the wires of this list, if these are distinct at both ends
pub record HasDrawn (count : ℕ) (wires : List Wire) (drawn : EndList) : Type 0 where
  pub elements : drawn.elements ≡ count
  pub drawn_if : AreApart wires → AreDrawn count wires drawn

-- the wires of this list as they are stored for this many elements: in a draft, and by marks of where they end
pub record AreKept (count : ℕ) (wires : List Wire) (drawn : EndList) (fed : List Bool) : Type 0 where
  pub drawn_are : HasDrawn count wires drawn
  pub marked : IsFed count wires fed

-- the draft and the marks have the size for this many elements
pub record IsSized (count : ℕ) (drawn : EndList) (fed : List Bool) : Type 0 where
  pub elements : drawn.elements ≡ count
  pub marks : length fed ≡ 4 * count

-- the first fault of a column of this many rows from this element on, after these wires
abbrev pub column_fault : Header → List Wire → ℕ → ℕ → Option Fault
column_fault h wires e k = inner_fault (header_then h []) wires (e + k) (inner_wires e k)

-- these are the wires of a column whose elements all exist
pub record IsInnerOf (h : Header) (e k : ℕ) (inner : List Wire) : Type 0 where
  pub are : inner ≡ inner_wires e k
  pub within : e + k < h.count

-- the wires of a column have been added after these, without a fault
pub record ConnectsColumn (h : Header) (e k : ℕ) (wires : List Wire) (drawn : EndList) (fed : List Bool) : Type 0 where
  pub faultless : column_fault h wires e k ≡ None
  pub kept : AreKept h.count (wires ++ inner_wires e k) drawn fed

-- the element has a line of its own, and a column begins there
pub record IsOwnColumn (own : List Bool) (c : Circuit) (states : List ℕ) (e : ℕ) : Type 0 where
  pub has_line : slice_get own e ≡ Some true
  pub column : HasColumnAt c states e

-- what a check returns for the first fault of a wire, found in the line with this number
abbrev pub tested : Option Fault → ℕ → Line → Result Line NetlistRefusal
tested None line to = Ok to
tested (Some fault) line to = Err (refusal_of fault line)

-- a wire without a fault has been added after these
pub record Connects (h : Header) (from to : Line) (wires : List Wire) (drawn : EndList) (fed : List Bool) : Type 0 where
  pub faultless : wire_fault (header_then h []) wires from to ≡ None
  pub kept : AreKept h.count (wires ++ record { from = from; to = to } ∷ []) drawn fed

-- the wires of some outputs of an element, from this output on, have been added after these, without a fault
pub record ConnectsAll (h : Header) (e o : ℕ) (targets : List (Option Line)) (wires : List Wire) (drawn : EndList)
    (fed : List Bool) : Type 0 where
  pub faultless : outputs_fault (header_then h []) wires e o targets ≡ None
  pub kept : AreKept h.count (wires ++ wires_from e o targets) drawn fed

-- for each element, whether it has a line of its own, according to these lines
abbrev pub own_in : List Sentence → List Bool
own_in [] = []
own_in (Element n q ts ∷ xs) = true ∷ own_in xs
own_in (Column e k q ∷ xs) = replicate k false ++ false ∷ own_in xs
own_in (x ∷ xs) = own_in xs

-- the stored values are those of the entries in these lines
pub record Holds (h : Header) (rows : List Sentence) (lines left : ℕ) (states : List ℕ) (own : List Bool)
    (drawn : EndList) (fed : List Bool) : Type 0 where
  pub lines_are : lines ≡ length rows
  pub left_are : left ≡ rows_left 0 rows
  pub states_are : states ≡ bars_in rows
  pub own_are : own ≡ own_in rows
  pub kept : AreKept h.count (wires_after 6 rows) drawn fed

-- the line with these contents has been read after these lines, without a fault
pub record Reads (h : Header) (rows : List Sentence) (x : Sentence) (lines left : ℕ) (states : List ℕ)
    (own : List Bool) (drawn : EndList) (fed : List Bool) : Type 0 where
  pub faultless : fault_of (header_then h rows) x ≡ None
  pub holds : Holds h (rows ++ x ∷ []) lines left states own drawn fed
