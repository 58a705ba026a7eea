use Rattle.std.proofs.Common.{rules, ◌<◌, length, arith}
use Rattle.std.proofs.lemmas.Grind.{common_steps}
use Rattle.bn_packed.specs.PackedNets.{net_in, config_at}
use Rattle.bn_packed.proofs.PutLemmas.{put-IsPacked}
use Rattle.bn_packed.proofs.packed.Packed.set_bar.Goals as goal

pub invariant_of-self : goal.invariant_of-self
invariant_of-self c =
    let low : c.args.element < length c.self.inside.bars = first_of (search rules, grind (arith, common_steps)) in
    rw c.put.ensures (put-IsPacked (net_in c.self.inside.wires)
    (config_at c.self.inside.bars c.self.inside.signal.place c.self.inside.signal.steps)
    c.args.element c.args.state c.self.invariant low c.requires.state)
