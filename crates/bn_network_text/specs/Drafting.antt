-- What is known while the lines of a network text are taken, one after another.
use Rattle.std.specs.Prelude.{◌≡◌, ℕ, ◌+◌, ◌==◌, ◌&&◌, ◌<◌, ◌≤◌, Bool, List, [], ◌∷◌, Option, Some, None, is_some, ⊤}
use Rattle.std.specs.HashMap.{HashMap, get}
use Rattle.std.specs.declared.hash.FoldHasher.{FoldHasher}
use Rattle.std.specs.declared.hash.BuildHasherDefault.{BuildHasherDefault}
use Rattle.bn_circuits.specs.Circuits.{source, same_line, line_at}
use Rattle.bn_circuits.specs.declared.line.Line.{Line as Lined}
use Rattle.bn_circuits.specs.declared.line.Wire.{Wire}
use Rattle.bn_network_text.specs.Entries.{Port}
use Rattle.bn_network_text.specs.Lines.{Page}
use Rattle.bn_network_text.specs.Faults.{count_in, start_in, end_in, is_at, line_of, wire_fault, wires_before}
use Rattle.bn_network_text.specs.Faults.{line_fault}
use Rattle.bn_network_text.specs.declared.module.TheConstants.{MOST_MODULES}
use Rattle.bn_network_text.specs.declared.sentence.Sentence.{Sentence}
use Rattle.bn_network_text.specs.Networks.{modules_before, drawing_of, drawing_by}
use Rattle.bn_network_text.specs.declared.network.Network.{Network}
use Rattle.bn_network_text.specs.declared.module.Module.{Module}
use Rattle.bn_network_text.specs.declared.shape.Shape.{Shape}
use Rattle.bn_network_text.specs.declared.fault.NetworkFault.{NetworkFault}
use Rattle.bn_network_text.specs.declared.fault.NetworkRefusal.{NetworkRefusal}
use Rattle.bn_network_text.specs.declared.fault.NetworkRefusal.TheVariants.{Line, NoMemory}

abbrev pub Fed : Type 0
Fed = HashMap (ℕ × ℕ) Bool (BuildHasherDefault FoldHasher)

-- whether two pairs are equal, as the map compares them
abbrev pub same_pair : ℕ × ℕ → ℕ × ℕ → Bool
same_pair x y = x.0 == y.0 && x.1 == y.1

-- the map has the input ports to which these wires lead
abbrev pub IsFed : List Wire → Fed → Type 0
IsFed ws fed = (e l : ℕ) → is_some (get same_pair fed (e, l)) ≡ is_some (source ws (line_at e l))

-- the modules and the wires of the first lines of modules
pub record IsDraft (page : Page) (m : ℕ) (modules : List Module) (wires : List Wire) (fed : Fed) : Type 0 where
  pub modules_are : modules ≡ modules_before page m
  pub wires_are : wires ≡ wires_before page.says m
  pub fed_are : IsFed wires fed

-- the header of a page that has no fault in it: the number of modules, the start and the end
pub record IsHeader (page : Page) (count : ℕ) (start end : Lined) : Type 0 where
  pub count_is : count ≡ count_in page.says
  pub few : count ≤ MOST_MODULES
  pub start_is : (l : Lined) → is_at (start_in page.says) l ≡ same_line start l
  pub end_is : (l : Lined) → is_at (end_in page.says) l ≡ same_line end l

-- the wire that leaves an output port, if there is one, and its fault
abbrev pub wire_by : Lined → Option Port → List Wire
wire_by from None = []
wire_by from (Some p) = record { from = from; to = line_of p } ∷ []

abbrev pub output_fault : List Shape → List (Option Sentence) → List Wire → Lined → Option Port → Option NetworkFault
output_fault shapes says ws from None = None
output_fault shapes says ws from (Some p) = wire_fault shapes says ws from p

-- the refusal tells this fault, if there is one, in the line with this number, counted from 1
abbrev pub IsRefusalAt : Option NetworkFault → ℕ → NetworkRefusal → Type 0
IsRefusalAt fault n (Line line told) = (line ≡ n) × (fault ≡ Some told)
IsRefusalAt fault n NoMemory = ⊤

-- the refusal tells the first fault of the first faulty line
abbrev pub IsFirstOf : List Shape → Page → NetworkRefusal → Type 0
IsFirstOf shapes page (Line line told) =
    (n : ℕ) × (line ≡ n + 1) × (line_fault shapes page n ≡ Some told)
    × ((k : ℕ) → k < n → line_fault shapes page k ≡ None)
IsFirstOf shapes page NoMemory = ⊤

-- no line has a fault, and the network is the one that the lines describe
pub record HasDrawn (shapes : List Shape) (page : Page) (n : Network) : Type 0 where
  pub faultless : (k : ℕ) → line_fault shapes page k ≡ None
  pub drawing : drawing_of n ≡ drawing_by page
