use Rattle.bn_packed.specs.PackedNets.{net_in}
use Rattle.bn_packed.proofs.StepLemmas.{config-AreBars, packed-IsConfig}
use Rattle.bn_packed.proofs.packed.Packed.from_net.Goals as goal

pub of-requires-2 : goal.of-requires-2
of-requires-2 c = config-AreBars c.args.net.now c.args.config.now c.as_slice.result.now c.requires c.as_slice.ensures

pub invariant_of-result : goal.invariant_of-result
invariant_of-result c = record {
  circuit = c.in_ok-wires.ensures.circuit;
  good = packed-IsConfig c.args.net.now (net_in c.in_ok-wires.wires) c.args.config.now c.in_ok-bars.bars
      c.as_slice.result.now c.requires
      c.in_ok-wires.ensures.net c.in_ok-bars.ensures c.as_slice.ensures;
}
