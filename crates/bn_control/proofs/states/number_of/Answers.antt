use Rattle.bn_control.proofs.SearchLemmas.{found, not_missing}
use Rattle.bn_control.proofs.states.number_of.Goals as goal

pub unreachable-requires : goal.unreachable-requires
unreachable-requires c =
    let k = c.requires.known in
    not_missing k.machine c.args.states.now k.ordered c.args.state k.occurs k.proper c.in-Err.field-0
    c.in-Err.ensures.bound c.in-Err.ensures.position

pub returns : goal.returns
returns c =
    let k = c.requires.known in
    found k.machine c.args.states.now k.ordered c.args.state k.occurs k.proper c.in-Ok.number c.in-Ok.ensures.bound
    c.in-Ok.ensures.ok
