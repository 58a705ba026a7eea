-- The statements of the laws of this crate, each a field of `Laws`.
use Rattle.std.specs.Prelude.{◌≤◌, ◌≡◌, ◌↔◌, ℕ, pos, List}
use Rattle.bn_lists.specs.Runs.{Reaches}
use Rattle.bn_circuits.specs.Circuits.{Circuit, Goes}
use Rattle.bn_circuits.specs.Stepping.{run}
use Rattle.bn_circuits.specs.declared.config.Config.{Config}
use Rattle.bn_circuits.specs.declared.place.Place.{Place}
use Rattle.bn_machine.specs.Machine.{Program}
use Rattle.bn_machine.specs.Outcome.{Limits}
use Rattle.bn_quad.specs.Quadruples.{Configuration, initial_of}
use Rattle.bn_bennett_laws.specs.Renamed.{in_state}
use Rattle.bn_bennett_laws.specs.Stages.{Stands}
use Rattle.bn_bennett.specs.Translation.{name_of}
use Rattle.bn_bennett.specs.Meaning.{machine_state_by}
use Rattle.bn_boards.specs.Layouts.{Layout}
use Rattle.bn_boards.specs.Flats.{Flat, IsAccepted, IsFlatOf, flat_start, machine_of}
use Rattle.bn_boards.specs.BoardRuns.{BoardSpells}
use Rattle.bn_view.specs.declared.layers.Layers.{Layers}
use Rattle.bn_view.specs.declared.layers.ModuleAt.{ModuleAt}
use Rattle.bn_view.specs.Shown.{IsShown}
use Rattle.bn_view.specs.Modules.{IsModuleAt}
use Rattle.bn_view.specs.Viewed.{Comes, Finds, IsViewOf, MachineIsAt}

-- ---- what is shown

-- a layout shows at most one step with one state
abbrev pub ShownIsOne : Type 0
ShownIsOne =
    (b : Layout) (k : Circuit) (c0 : Config) (initial t s a r e : ℕ) → IsShown (Finds b k c0) initial t s a
    → IsShown (Finds b k c0) initial t r e → (s ≡ r) × (a ≡ e)

-- and it shows at least one
abbrev pub ShownIsThere : Type 0
ShownIsThere =
    (b : Layout) (k : Circuit) (c0 : Config) (initial t : ℕ) → (s : ℕ) × (a : ℕ) × IsShown (Finds b k c0) initial t s a

-- along the run of a circuit, the layout shows what the circuit's own moments show
abbrev pub ShownIsFound : Type 0
ShownIsFound =
    (p : Program) (word : List ℕ) (l : Limits) (f : Flat) → IsFlatOf p word l f → IsAccepted p word l f
    → (t s a : ℕ) (d : Config) → Reaches (Goes f.circuit) t (flat_start f) d
    → IsShown (Comes f) (initial_of (machine_of f).rules) t s a
    ↔ IsShown (Finds f.layout f.circuit (flat_start f)) (initial_of (machine_of f).rules) t s a

-- ---- modules

-- the signal is in at most one module
abbrev pub ModulesAreOne : Type 0
ModulesAreOne = (b : Layout) (p : Place) (x y : ModuleAt) → IsModuleAt b p x → IsModuleAt b p y → x ≡ y

-- ---- the machine

-- After s steps, in state a, the cells hold a configuration of the reversible machine that represents a configuration
-- of the machine's own run from the word; and the head of the history is at the number of the machine's step.
pub record StandsForMachine (p : Program) (word : List ℕ) (f : Flat) (s a : ℕ) : Type 0 where
  pub config : Configuration ℕ
  pub state : config.state ≡ a
  pub spells : BoardSpells f (run f.circuit (flat_start f) s).states config
  pub stands : Stands p word (in_state (name_of f.translation) config)
  pub step : ℕ
  pub head : config.two.head ≡ pos step
  pub inside : step ≤ f.limits.steps
  pub at : MachineIsAt p word step (machine_state_by f.translation.final_state (name_of f.translation a))

-- in every configuration reached from the start, what is shown represents the machine
abbrev pub ViewsStand : Type 0
ViewsStand =
    (p : Program) (word : List ℕ) (l : Limits) (f : Flat) → IsFlatOf p word l f → IsAccepted p word l f
    → (t s a : ℕ) (d : Config) → Reaches (Goes f.circuit) t (flat_start f) d
    → IsShown (Comes f) (initial_of (machine_of f).rules) t s a → StandsForMachine p word f s a

-- ---- views

-- every configuration along the run of a circuit has exactly one view
abbrev pub ViewsAreOne : Type 0
ViewsAreOne =
    (p : Program) (word : List ℕ) (l : Limits) (f : Flat) → IsFlatOf p word l f → IsAccepted p word l f
    → (t : ℕ) (d : Config) → Reaches (Goes f.circuit) t (flat_start f) d
    → (v w : Layers) → IsViewOf f d v → IsViewOf f d w → v ≡ w

abbrev pub ViewsAreThere : Type 0
ViewsAreThere =
    (p : Program) (word : List ℕ) (l : Limits) (f : Flat) → IsFlatOf p word l f → IsAccepted p word l f
    → (t : ℕ) (d : Config) → Reaches (Goes f.circuit) t (flat_start f) d → (v : Layers) × IsViewOf f d v

-- ---- the laws

pub record Laws : Type 0 where
  -- There is exactly one step that is shown.
  pub shown_is_one : ShownIsOne × ShownIsThere
  -- Along the run of a circuit the layout finds what the circuit's own moments show.
  pub shown_is_found : ShownIsFound
  -- The signal is in at most one module.
  pub modules_are_one : ModulesAreOne
  -- In every configuration that a circuit reaches from its start, what is shown represents a configuration of the
  -- machine's own run.
  pub views_stand : ViewsStand
  -- Every configuration along the run of a circuit has exactly one view.
  pub views_are_one : ViewsAreOne × ViewsAreThere
