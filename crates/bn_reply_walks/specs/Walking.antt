-- How a script is played on a packed net.
use Rattle.std.specs.Prelude.{◌≡◌, ℕ, List, length, refl}
use Rattle.std.proofs.Common.{ap, sym, ◌∙◌}
use Rattle.bn_circuits.specs.RotaryNets.{rotary_circuit}
use Rattle.bn_netlist_laws.specs.Spelling.{Spelling, circuit_of}
use Rattle.bn_packed.specs.PackedNets.{PackedNet}

-- there is a state for each element
abbrev pub AreBarsOf : PackedNet → List ℕ → Type 0
AreBarsOf p states = length states ≡ length p.net.elements

-- the net and the configuration of the packed net are those of the spelling
pub record IsPackedOf (s : Spelling) (p : PackedNet) : Type 0 where
  pub circuit : rotary_circuit p.net ≡ circuit_of s
  pub config : p.config ≡ s.config

-- ---- the laws of the trait for circuits on which scripts are played: their proof terms are beside the clauses,
-- because they cite nothing of proofs

-- the two are one net
pub record IsSameNet (p q : PackedNet) : Type 0 where
  pub net : q.net ≡ p.net

pub net_itself : (p : PackedNet) → IsSameNet p p
net_itself p = record { net = refl }

pub net_again : (p q r : PackedNet) → IsSameNet p q → IsSameNet q r → IsSameNet p r
net_again p q r first second = record { net = second.net ∙ first.net }

pub net_circuit : (p q : PackedNet) → IsSameNet p q → rotary_circuit q.net ≡ rotary_circuit p.net
net_circuit p q same = ap rotary_circuit same.net

pub bars_stay : (p q : PackedNet) (states : List ℕ) → IsSameNet p q → AreBarsOf p states → AreBarsOf q states
bars_stay p q states same bars = bars ∙ sym (ap (λ n. length n.elements) same.net)
