-- The laws of this crate, each a named field. `Laws` is the contract of `network_text_laws`.
use Rattle.std.specs.Prelude.{◌≡◌, ℕ, List, ◌⊎◌}
use Rattle.bn_network_text.specs.Networks.{Drawing, Spells, IsFirstFault}
use Rattle.bn_network_text.specs.declared.fault.NetworkFault.{NetworkFault}
use Rattle.bn_network_text.specs.declared.shape.Shape.{Shape}

-- a text describes one network at most
abbrev pub OneNetwork : Type 0
OneNetwork = (shapes : List Shape) (text : List ℕ) (d e : Drawing) → Spells shapes text d → Spells shapes text e → d ≡ e

-- a text has one first fault at most
abbrev pub OneFault : Type 0
OneFault =
    (shapes : List Shape) (text : List ℕ) (line other : ℕ) (fault second : NetworkFault)
    → IsFirstFault shapes text line fault → IsFirstFault shapes text other second → (line ≡ other) × (fault ≡ second)

-- a text with a fault describes no network
abbrev pub FaultyTextsDescribeNothing : Type 0
FaultyTextsDescribeNothing =
    (shapes : List Shape) (text : List ℕ) (d : Drawing) (line : ℕ) (fault : NetworkFault)
    → IsFirstFault shapes text line fault → Spells shapes text d → ⊥

-- a text describes a network or has a fault
abbrev pub NetworkOrFault : Type 0
NetworkOrFault =
    (shapes : List Shape) (text : List ℕ)
    → ((d : Drawing) × Spells shapes text d) ⊎ ((line : ℕ) × (fault : NetworkFault)
    × IsFirstFault shapes text line fault)

pub record Laws : Type 0 where
  -- A text describes at most one network.
  pub one_network : OneNetwork
  -- A text has at most one first fault.
  pub one_fault : OneFault
  -- A text with a fault describes no network.
  pub faulty_texts_describe_nothing : FaultyTextsDescribeNothing
  -- A text describes a network or has a first fault.
  pub network_or_fault : NetworkOrFault
