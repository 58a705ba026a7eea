-- A network of the control and the tape cells, assembled for a machine, a window and the configuration from which it
-- starts.
use Rattle.std.specs.Prelude.{◌≡◌, ℕ, ◌+◌, ◌<◌, ◌≤◌, List, [], All, length, Some, slice_get, refl}
use Rattle.bn_circuits.specs.Circuits.{Circuit}
use Rattle.bn_circuits.specs.Situations.{counted}
use Rattle.bn_circuits.specs.declared.config.Config.{Config}
use Rattle.bn_circuits.specs.Parts.{Parts, circuit}
use Rattle.bn_machine.specs.Outcome.{Limits}
use Rattle.bn_quad.specs.Quadruples.{Configuration, Quadruples, IsQuadMachine, initial_of}
use Rattle.bn_quad.specs.Calls.{IsUniformMachine}
use Rattle.bn_network.specs.Controls.{ControlState, IsNumbering, symbol_count}
use Rattle.bn_network.specs.Limits.{AreSmall}
use Rattle.bn_network.specs.Networks.{IsNetwork, IsTape, cells_in, first_cell, elements_by}
use Rattle.bn_network.specs.Starts.{FitsWindow, start_from, words_on}
use Rattle.bn_cell.specs.declared.table.CellTable.{CellTable}
use Rattle.bn_control.specs.Controlled.{Controlled, IsControlOf, IsWithinLimits}
use Rattle.std.specs.Coded.{Coded, coded×, code_by}
use Rattle.bn_network_assembly.specs.Codes.{net_code, config_code, limits_code}
use Rattle.bn_network_assembly.specs.Modules.{module_table}
use Rattle.bn_network_assembly.specs.declared.module.Module.{Module}
use Rattle.bn_network_assembly.specs.declared.module.Module.TheVariants.{Control, Cell}
use Rattle.bn_network_assembly.specs.declared.refusal.AssembleRefusal.{AssembleRefusal}
use Rattle.bn_network_assembly.specs.declared.refusal.AssembleRefusal.TheVariants.{WordOutside, Elements, NoMemory}
use Rattle.bn_network_assembly.specs.declared.windows.Windows.{Windows}
use Rattle.bn_circuits.specs.declared.net.TheConstants.{MOST_ELEMENTS}

-- the window of each tape, as limits of a run: tape 1 from -left to right, the history's steps, the output's letters
abbrev pub limits_of : Windows → Limits
limits_of w = record { left = w.left1; right = w.right1; steps = w.right2; output = w.right3 }

-- a network with a configuration, and the window for which it was assembled
pub record Assembled : Type 0 where
  pub net : Parts Module
  pub config : Config
  pub limits : Limits

-- the code of an assembly: net, configuration and window
abbrev pub assembled_code : Coded Assembled
assembled_code =
    code_by (Parts Module × (Config × Limits)) (coded× net_code (coded× config_code limits_code))
    (λ a. (a.net, (a.config, a.limits))) (λ p. record { net = p.0; config = p.1.0; limits = p.1.1 }) (λ _. refl)

abbrev pub network_of : Assembled → Circuit
network_of a = circuit module_table a.net

-- The network is the machine's, for this window: module 0 is its control, the others are its cells, the wires are
-- those of the network, the circuit would not have too many elements, and the network starts from this configuration.
pub record IsAssembledFrom (m : Quadruples) (l : Limits) (c : Configuration ℕ) (names : List ControlState)
    (a : Assembled) : Type 0 where
  pub control : Controlled
  pub first : slice_get a.net.elements 0 ≡ Some (Control control)
  pub is_control : IsControlOf m names control
  pub cells : (t p : ℕ) → IsTape t → p < cells_in l t
      → (cell : CellTable) × (slice_get a.net.elements (first_cell l t + p) ≡ Some (Cell cell))
      × (cell.symbols ≡ symbol_count m t)
  pub network : IsNetwork m l names (network_of a)
  pub few : elements_by m l (length names) ≤ MOST_ELEMENTS
  pub config : a.config ≡ counted (start_from m l c) 0
  pub limits : a.limits ≡ l

-- the same at the start with this word on tape 1, and the other tapes blank
abbrev pub IsAssembled : Quadruples → Limits → List ℕ → List ControlState → Assembled → Type 0
IsAssembled m l word names a = IsAssembledFrom m l (words_on m word [] []) names a

-- the word's symbols are among tape 1's, and none is blank
abbrev pub IsWordOf : Quadruples → List ℕ → Type 0
IsWordOf m word = All (λ s. (0 < s) × (s < symbol_count m 1)) word

-- The invariant of an assembly: it was assembled for some machine with its control's states in order, and for some
-- configuration in the initial state that fits the window.
pub record IsKept (a : Assembled) : Type 0 where
  pub machine : Quadruples
  pub names : List ControlState
  pub start : Configuration ℕ
  pub is_machine : IsQuadMachine machine
  pub uniform : IsUniformMachine machine
  pub within : IsWithinLimits machine
  pub small : AreSmall a.limits
  pub initial : start.state ≡ initial_of machine.rules
  pub fits : FitsWindow machine a.limits start
  pub assembled : IsAssembledFrom machine a.limits start names a

-- ---- refusals

-- the number of elements of the circuit
abbrev pub CountsElements : Quadruples → Limits → ℕ → Type 0
CountsElements m l count = (names : List ControlState) × IsNumbering m names × (count ≡ elements_by m l (length names))

-- the meaning of a refusal: the word is longer than the right side of tape 1; or it is not, and the circuit would
-- have too many elements; or memory has run out, and the word fits
abbrev pub IsRefusal : Quadruples → Limits → List ℕ → AssembleRefusal → Type 0
IsRefusal m l word (WordOutside needs) = (needs ≡ length word) × (l.right < length word)
IsRefusal m l word (Elements count) = (length word ≤ l.right) × CountsElements m l count × (MOST_ELEMENTS < count)
IsRefusal m l word NoMemory = length word ≤ l.right

-- the meaning of a refusal if all words fit: the circuit would have too many elements, or memory has run out
abbrev pub IsSizeRefusal : Quadruples → Limits → AssembleRefusal → Type 0
IsSizeRefusal m l (WordOutside needs) = ⊥
IsSizeRefusal m l (Elements count) = CountsElements m l count × (MOST_ELEMENTS < count)
IsSizeRefusal m l NoMemory = Unit {0}
