-- What every wiring keeps, by the ends of which it is made.
use Rattle.std.specs.Prelude.{◌≡◌, ◌<◌, ◌^◌, length}
use Rattle.std.proofs.Common.{subst}
use Rattle.std.proofs.lemmas.List.{length-replicate}
use Rattle.bn_circuits.specs.Circuits.{IsCircuit}
use Rattle.bn_element.specs.declared.rotary.Rotary.{Rotary}
use Rattle.bn_circuits.specs.Parts.{Parts}
use Rattle.bn_circuits.specs.RotaryNets.{rotary_circuit}
use Rattle.bn_packed.specs.Ends.{AreTargets, EndList, net_of, sources_by, targets_by}
use Rattle.bn_packed.proofs.BehindLemmas.{wiring_there}
use Rattle.bn_packed.proofs.EndLemmas.{wiring-IsCircuit}

module _ (ahead : EndList) (net : Parts Rotary) (are : AreTargets ahead) (is : net_of (targets_by ahead) ≡ net) where
  -- its net is a circuit
  pub kept-IsCircuit : IsCircuit (rotary_circuit net)
  kept-IsCircuit =
      let there = wiring_there ahead are in
      wiring-IsCircuit (targets_by ahead) (sources_by there.0) net there.1 is

  -- its elements are few
  pub kept_few : length net.elements < 2 ^ 32
  kept_few = subst (λ (n : Parts Rotary). length n.elements < 2 ^ 32) is (rw (length-replicate) are.few)
