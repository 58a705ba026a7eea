-- Configuration texts of circuits of rotary elements, in both versions. The form of the text is this project's own
-- profile; the idea and the name of the rotary element are Morita's (2017).
use Rattle.std.specs.Prelude.{◌≡◌, ℕ, ◌+◌, ◌<◌, ◌≤◌, List, [], ◌∷◌, ◌++◌, map, replicate, Option, Some, None, slice_get}
use Rattle.std.proofs.Common.{zero, suc}
use Rattle.bn_circuits.specs.Circuits.{Circuit, target, source, IsCircuit, IsConfig, IsInputOf, IsOutputOf}
use Rattle.bn_circuits.specs.declared.line.Line.{Line}
use Rattle.bn_circuits.specs.declared.line.Wire.{Wire}
use Rattle.bn_element.specs.Rotary.{rotary, north, east, south, west}
use Rattle.bn_circuits.specs.Circuits.{line_at}
use Rattle.bn_circuits.specs.declared.config.Config.{Config}
use Rattle.bn_netlist_laws.specs.Sentences.{Sentence, Title, Count, Start, End, Steps, At, Element, Column, Row}
use Rattle.bn_netlist_laws.specs.Sentences.{lines_text}
use Rattle.bn_netlist_laws.specs.Columns.{IsColumnAt}
use Rattle.bn_netlist_laws.specs.declared.version.Version.{Version}
use Rattle.bn_netlist_laws.specs.declared.version.Version.TheVariants.{One, Two}
use Rattle.bn_circuits.specs.declared.net.TheConstants.{MOST_ELEMENTS}
use Rattle.bn_netlist_laws.specs.declared.version.TheConstants.{MOST_ELEMENTS_IN_ONE}
use Rattle.bn_netlist_laws.specs.declared.header.Header.{Header}

-- the meaning of a text: a circuit of this many rotary elements with its wires, a configuration of it, and two ports
-- that the text names: the start, an input port, and the end, an output port
pub record Spelling : Type 0 where
  pub elements : ℕ
  pub wires : List Wire
  pub config : Config
  pub start : Line
  pub end : Line

-- the circuit of a spelling
abbrev pub circuit_of : Spelling → Circuit
circuit_of s = record { tables = replicate s.elements rotary; wires = s.wires }

-- the most elements of a text of this version
abbrev pub most_elements : Version → ℕ
most_elements One = MOST_ELEMENTS_IN_ONE
most_elements Two = MOST_ELEMENTS

-- What this version admits: at least one element and at most the version's limit, wires that lead one to one from
-- output ports to input ports, a configuration of this circuit, a start into which no wire leads and an end from which
-- none leads.
pub record Admits (v : Version) (s : Spelling) : Type 0 where
  pub some : 0 < s.elements
  pub few : s.elements ≤ most_elements v
  pub circuit : IsCircuit (circuit_of s)
  pub config : IsConfig (circuit_of s) s.config
  pub start : IsInputOf (replicate s.elements rotary) s.start
  pub end : IsOutputOf (replicate s.elements rotary) s.end
  pub unfed : source s.wires s.start ≡ None
  pub unwired : target s.wires s.end ≡ None

-- the header of a text
abbrev pub header_of : Version → Spelling → Header
header_of v s =
    record {
      version = v;
      count = s.elements;
      start = s.start;
      end = s.end;
      steps = s.config.steps;
      place = s.config.place;
    }

-- the six lines of the header, followed by these lines
abbrev pub header_then : Header → List Sentence → List Sentence
header_then h rows = Title h.version ∷ Count h.count ∷ Start h.start ∷ End h.end ∷ Steps h.steps ∷ At h.place ∷ rows

-- A column of k rows that begins at element e is written as one entry: only in version 2.
pub record IsWrittenAt (v : Version) (s : Spelling) (e k : ℕ) : Type 0 where
  pub second : v ≡ Two
  pub column : IsColumnAt (circuit_of s) s.config.states e k

-- the lines of this many rows of a column, the first of them this element
abbrev pub row_sentences : List Wire → ℕ → ℕ → List Sentence
row_sentences ws e zero = []
row_sentences ws e (suc k) = Row (target ws (line_at e east)) (target ws (line_at e west)) ∷ row_sentences ws (suc e) k

-- where the wires of the four outputs of an element lead
abbrev pub targets_of : List Wire → ℕ → List (Option Line)
targets_of wires e = map (λ l. target wires (record { element = e; line = l })) (north ∷ east ∷ south ∷ west ∷ [])

-- The lines of the elements from this one on. If a column is written at the element, its entry comes: the line of the
-- column, and a line for each row; the next element is the one after its bottom. Otherwise the line of the element
-- comes. Therefore every column is written as an entry, with all its rows.
pub data AreEntries (v : Version) (s : Spelling) : ℕ → List Sentence → Type 0 where
  no_entry : {e : ℕ} {xs : List Sentence} → e ≡ s.elements → xs ≡ [] → AreEntries v s e xs
  element_entry : {e : ℕ} {xs : List Sentence} (q : ℕ) (rest : List Sentence) → slice_get s.config.states e ≡ Some q
      → ((k : ℕ) → IsWrittenAt v s e k → ⊥) → xs ≡ Element e q (targets_of s.wires e) ∷ rest
      → AreEntries v s (suc e) rest → AreEntries v s e xs
  column_entry : {e : ℕ} {xs : List Sentence} (k q : ℕ) (rest : List Sentence) → IsWrittenAt v s e k
      → slice_get s.config.states (e + k) ≡ Some q
      → xs ≡ Column e k q ∷ (row_sentences s.wires e k ++ rest) → AreEntries v s (suc (e + k)) rest
      → AreEntries v s e xs

-- the text is that of the configuration in this version: the header, and the entries of all its elements
pub record IsTextOf (v : Version) (s : Spelling) (text : List ℕ) : Type 0 where
  pub entries : List Sentence
  pub are : AreEntries v s 0 entries
  pub written : text ≡ lines_text (header_then (header_of v s) entries)

-- the version admits the spelling, and this is its text in that version
pub record Spelled (v : Version) (s : Spelling) (text : List ℕ) : Type 0 where
  pub admitted : Admits v s
  pub is_text : IsTextOf v s text

-- The two spellings are the same configuration of the same circuit, with the same start and end; the wires may be
-- listed in another order.
pub record AreSame (s t : Spelling) : Type 0 where
  pub elements : s.elements ≡ t.elements
  pub targets : (from : Line) → target s.wires from ≡ target t.wires from
  pub sources : (to : Line) → source s.wires to ≡ source t.wires to
  pub config : s.config ≡ t.config
  pub start : s.start ≡ t.start
  pub end : s.end ≡ t.end

-- the same circuit, start and end in another configuration
abbrev pub moved_to : Spelling → Config → Spelling
moved_to s c = record { elements = s.elements; wires = s.wires; config = c; start = s.start; end = s.end }

-- ---- laws

-- Each configuration that a version admits has a text in that version.
abbrev pub HasText : Type 0
HasText = (v : Version) (s : Spelling) → Admits v s → (text : List ℕ) × Spelled v s text

-- A configuration has at most one text in a version, for every order of the list of its wires.
abbrev pub SameHaveOneText : Type 0
SameHaveOneText =
    (v : Version) (s t : Spelling) (first second : List ℕ) → AreSame s t → Spelled v s first → Spelled v t second
    → first ≡ second

-- A text that spells a configuration spells it for every order of the list of wires.
abbrev pub SpelledAlike : Type 0
SpelledAlike = (v : Version) (s t : Spelling) (text : List ℕ) → AreSame s t → Spelled v s text → Spelled v t text

-- What version 1 admits, version 2 admits.
abbrev pub AdmissionRises : Type 0
AdmissionRises = (v : Version) (s : Spelling) → Admits v s → Admits Two s

-- If a version admits a circuit in one configuration, it admits the circuit in each of its configurations.
abbrev pub SpellingsMove : Type 0
SpellingsMove =
    (v : Version) (s : Spelling) (c : Config) → Admits v s → IsConfig (circuit_of s) c → Admits v (moved_to s c)

-- Each text spells at most one configuration, in at most one version.
abbrev pub SpellingsAgree : Type 0
SpellingsAgree =
    (v w : Version) (s t : Spelling) (text : List ℕ) → Spelled v s text → Spelled w t text → (v ≡ w) × AreSame s t

-- No text of a configuration is a proper prefix of another, whatever their versions.
abbrev pub TextsEnd : Type 0
TextsEnd =
    (v w : Version) (s t : Spelling) (text rest : List ℕ) → Spelled v s text → Spelled w t (text ++ rest) → rest ≡ []
