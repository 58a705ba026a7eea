use Rattle.std.proofs.Common.{rules, ◌<◌, length}
use Rattle.bn_quad.proofs.KeptLemmas.{made_of, kept_if, kept-machine}
use Rattle.bn_quad.proofs.machine.QuadMachine.try_new.Goals as goal

pub returns-clause-made : goal.returns-clause-made
returns-clause-made c = made_of _ _ _ (rw (← c.as_slice.ensures.value) c.in_default.ensures.none)

pub returns-clause-valid : goal.returns-clause-valid
returns-clause-valid c =
    let some : 0 < length c.args.quads.items = search rules in
    kept-machine _ _ _ (kept_if _ _ _ some c.requires c.in_default.ensures.tapes
    (rw (← c.as_slice.ensures.value) c.in_default.ensures.none))
