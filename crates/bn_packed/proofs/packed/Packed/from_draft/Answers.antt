use Rattle.std.proofs.Common.{refl}
use Rattle.bn_packed.specs.PackedNets.{net_in}
use Rattle.bn_packed.proofs.ListedLemmas.{listed, listed-is}
use Rattle.bn_packed.proofs.StepLemmas.{config-AreBars, packed-IsConfig}
use Rattle.bn_packed.proofs.packed.Packed.from_draft.Goals as goal

pub of-requires : goal.of-requires
of-requires c =
    let ws = c.requires.drawn.0 in
    config-AreBars (listed c.args.draft.elements ws) c.args.config c.as_slice.result.now
    (c.requires.good ws (listed c.args.draft.elements ws) c.requires.drawn.1 (listed-is c.args.draft.elements ws))
    c.as_slice.ensures

pub invariant_of-result : goal.invariant_of-result
invariant_of-result c =
    let ws = c.requires.drawn.0 in
    record {
      circuit = c.in_ok-wires.ensures.circuit;
      good = packed-IsConfig (net_in c.in_ok-wires.wires) (net_in c.in_ok-wires.wires) c.args.config
          c.in_ok-bars.bars c.as_slice.result.now
          (c.requires.good ws (net_in c.in_ok-wires.wires) c.requires.drawn.1
          (c.in_ok-wires.ensures.net ws c.requires.drawn.1)) refl c.in_ok-bars.ensures
          c.as_slice.ensures;
    }
