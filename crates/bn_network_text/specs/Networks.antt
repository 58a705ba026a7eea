-- Network texts (this project's own profile): the network that a text describes, and the first faulty line of a text.
use Rattle.std.specs.Prelude.{◌≡◌, ℕ, suc, ◌+◌, ◌-◌, ◌<◌, List, [], ◌∷◌, ◌++◌, Option, Some, None, ⊤}
use Rattle.std.proofs.Common.{zero}
use Rattle.bn_circuits.specs.Circuits.{line_at}
use Rattle.bn_circuits.specs.declared.line.Line.{Line}
use Rattle.bn_circuits.specs.declared.line.Wire.{Wire}
use Rattle.bn_network_text.specs.Entries.{Port, ModuleLine}
use Rattle.bn_network_text.specs.Lines.{Page, IsPage}
use Rattle.bn_network_text.specs.Faults.{count_in, start_in, end_in, place_in, entry_in, line_of, wires_before}
use Rattle.bn_network_text.specs.Faults.{line_fault}
use Rattle.bn_network_text.specs.declared.shape.Shape.{Shape}
use Rattle.bn_network_text.specs.declared.entry.Kind.{Kind}
use Rattle.bn_network_text.specs.declared.entry.Kind.TheVariants as kinds
use Rattle.bn_network_text.specs.declared.module.Module.{Module}
use Rattle.bn_network_text.specs.declared.module.Module.TheVariants.{Machine, Rotary}
use Rattle.bn_network_text.specs.declared.network.Network.{Network}
use Rattle.bn_network_text.specs.declared.fault.NetworkFault.{NetworkFault}
use Rattle.bn_network_text.specs.declared.fault.NetworkRefusal.{NetworkRefusal}
use Rattle.bn_network_text.specs.declared.fault.NetworkRefusal.TheVariants as refusals

-- a network: its modules with their states, its wires, and three ports: the start, the end, and the input port that
-- the signal is about to enter; all are counted from 0
pub record Drawing : Type 0 where
  pub modules : List Module
  pub wires : List Wire
  pub start : Line
  pub end : Line
  pub place : Line

abbrev pub drawing_of : Network → Drawing
drawing_of n =
    record { modules = n.modules.items; wires = n.wires.items; start = n.start; end = n.end; place = n.place }

-- the module of a line
abbrev pub module_of : Kind → Module
module_of (kinds.Machine t q) = Machine (t - 1) (q - 1)
module_of (kinds.Rotary q) = Rotary q

abbrev pub modules_by : Option ModuleLine → List Module
modules_by None = []
modules_by (Some e) = module_of e.kind ∷ []

-- the first modules
abbrev pub modules_before : Page → ℕ → List Module
modules_before page zero = []
modules_before page (suc m) = modules_before page m ++ modules_by (entry_in page.says m)

abbrev pub line_or : Option Port → Line
line_or None = line_at 0 0
line_or (Some p) = line_of p

-- the network that the lines describe
abbrev pub drawing_by : Page → Drawing
drawing_by page =
    record {
      modules = modules_before page (count_in page.says);
      wires = wires_before page.says (count_in page.says);
      start = line_or (start_in page.says);
      end = line_or (end_in page.says);
      place = line_or (place_in page.says);
    }

-- over tables with these numbers of states and ports, no line of the text has a fault, and its lines describe this
-- network
pub record Spells (shapes : List Shape) (text : List ℕ) (d : Drawing) : Type 0 where
  pub page : Page
  pub is_page : IsPage text page
  pub faultless : (n : ℕ) → line_fault shapes page n ≡ None
  pub drawing : d ≡ drawing_by page

-- over these tables, the line with this number, counted from 1, is the first of the text that has a fault, and this is
-- its first fault
pub record IsFirstFault (shapes : List Shape) (text : List ℕ) (line : ℕ) (fault : NetworkFault) : Type 0 where
  pub page : Page
  pub is_page : IsPage text page
  pub number : ℕ
  pub counted : line ≡ number + 1
  pub has : line_fault shapes page number ≡ Some fault
  pub earlier : (n : ℕ) → n < number → line_fault shapes page n ≡ None

-- what a refusal says of the text; out of memory says nothing
abbrev pub IsNetworkRefusal : List Shape → List ℕ → NetworkRefusal → Type 0
IsNetworkRefusal shapes text (refusals.Line line fault) = IsFirstFault shapes text line fault
IsNetworkRefusal shapes text refusals.NoMemory = ⊤
