-- The laws of this crate, each a named field. `Laws` is the contract of `mixed_networks_laws`.
use Rattle.std.specs.Prelude.{◌≡◌, ℕ, zero, suc, ◌+◌, ◌≤◌, List, map, Some, slice_get}
use Rattle.bn_lists.specs.Runs.{Reaches}
use Rattle.bn_circuits.specs.Circuits.{Circuit, IsCircuit, clock, Goes}
use Rattle.bn_circuits.specs.Wirings.{AreApart}
use Rattle.bn_circuits.specs.declared.line.Wire.{Wire}
use Rattle.bn_circuits.specs.declared.config.Config.{Config}
use Rattle.bn_circuits.specs.Situations.{Situation, Turns}
use Rattle.bn_mixed_networks.specs.Parts.{Part, IsPart, IsAssembly, Represents, network, part_table, move_cost}

-- parts of a network: each can be a module, and the wires, each of which occurs once, lead one to one between their
-- ports
pub record AreParts (ps : List Part) (ws : List Wire) : Type 0 where
  pub parts : (m : ℕ) (p : Part) → slice_get ps m ≡ Some p → IsPart p
  pub circuit : IsCircuit (network ps ws)
  pub apart : AreApart ws

-- One move of the network is a run of its circuit of exactly the part's cost.
abbrev pub OneMove : Type 0
OneMove =
    (ps : List Part) (ws : List Wire) (k : Circuit) (s t : Situation) (c : Config) → AreParts ps ws
    → IsAssembly ps ws k → Represents ps ws s c → Turns (network ps ws) s t → c.steps + move_cost ps s ≤ clock
    → (d : Config) × Reaches (Goes k) (move_cost ps s) c d × Represents ps ws t d
    × (d.steps ≡ c.steps + move_cost ps s)

-- a run of n moves of the network, with the sum of the costs of its moves
pub data Follows (ps : List Part) (ws : List Wire) : ℕ → Situation → Situation → ℕ → Type 0 where
  no_move : {s : Situation} → Follows ps ws zero s s zero
  move : {n cost : ℕ} {s t u : Situation} → Turns (network ps ws) s t → Follows ps ws n t u cost
      → Follows ps ws (suc n) s u (move_cost ps s + cost)

-- A run of the network is a run of its circuit, in the sum of the costs of its moves.
abbrev pub AssembliesFollow : Type 0
AssembliesFollow =
    (ps : List Part) (ws : List Wire) (k : Circuit) (n cost : ℕ) (s t : Situation) (c : Config) → AreParts ps ws
    → IsAssembly ps ws k → Represents ps ws s c → Follows ps ws n s t cost → c.steps + cost ≤ clock
    → (d : Config) × Reaches (Goes k) cost c d × Represents ps ws t d × (d.steps ≡ c.steps + cost)

-- Two networks whose modules have the same tables, one by one, are the same network, whichever way each module is
-- realised.
abbrev pub RealisationsAgree : Type 0
RealisationsAgree =
    (ps qs : List Part) (ws : List Wire) → map part_table ps ≡ map part_table qs → network ps ws ≡ network qs ws

-- Therefore both circuits follow the same run: if the one represents the situation where it begins, it represents the
-- situation where the run ends after its costs, and so does the other after its own costs.
pub record BothFollow (ps qs : List Part) (ws : List Wire) (k l : Circuit) (t : Situation) (c d : Config) : Type 0 where
  pub first : Config
  pub second : Config
  pub cost : ℕ
  pub other : ℕ
  pub first_runs : Reaches (Goes k) cost c first
  pub second_runs : Reaches (Goes l) other d second
  pub first_represents : Represents ps ws t first
  pub second_represents : Represents qs ws t second

abbrev pub EqualModulesBehaveAlike : Type 0
EqualModulesBehaveAlike =
    (ps qs : List Part) (ws : List Wire) (k l : Circuit) (n cost other : ℕ) (s t : Situation) (c d : Config)
    → map part_table ps ≡ map part_table qs → AreParts ps ws → AreParts qs ws → IsAssembly ps ws k
    → IsAssembly qs ws l → Represents ps ws s c → Represents qs ws s d → Follows ps ws n s t cost
    → Follows qs ws n s t other → c.steps + cost ≤ clock → d.steps + other ≤ clock
    → BothFollow ps qs ws k l t c d

-- Every network of parts has a circuit, with one target for each port.
abbrev pub AssembliesAreThere : Type 0
AssembliesAreThere =
    (ps : List Part) (ws : List Wire) → AreParts ps ws → (k : Circuit) × IsAssembly ps ws k × IsCircuit k

pub record Laws : Type 0 where
  -- One move of the network is a run of its circuit of exactly the part's cost.
  pub one_move : OneMove
  -- A run of the network is a run of its circuit, in the sum of the costs of its moves.
  pub assemblies_follow_networks : AssembliesFollow
  -- Networks of the same modules are one network, whichever way each module is realised.
  pub realisations_agree : RealisationsAgree
  -- Replacing modules by equal ones keeps the behaviour.
  pub equal_modules_behave_alike : EqualModulesBehaveAlike
  -- Every network has a circuit.
  pub assemblies_are_there : AssembliesAreThere
