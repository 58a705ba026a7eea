use Rattle.std.proofs.Common.{refl}
use Rattle.bn_packed.specs.Ends.{targets_by, net_of}
use Rattle.bn_packed.proofs.KeptLemmas.{kept-IsCircuit}
use Rattle.bn_packed.proofs.wiring.Wiring.from_ahead.Goals as goal

pub returns-clause-circuit : goal.returns-clause-circuit
returns-clause-circuit g c = kept-IsCircuit c.args.ahead (net_of (targets_by c.args.ahead)) c.requires refl
