-- No move is out of the range of what all name.
use Rattle.std.proofs.Common.{subst}
use Rattle.bn_rsm.specs.Faults.{IsMoveRefusal}
use Rattle.bn_rsm.specs.declared.refusal.RsmRefusal.TheVariants.{Range}
use Rattle.bn_rsm.specs.Entry.{states_named}
use Rattle.bn_rsm.proofs.Drafting.{never_outside}
use Rattle.bn_rsm.proofs.draft.into_machine.Goals as goal

pub unreachable-requires : goal.unreachable-requires
unreachable-requires c =
    let d = c.args.draft in
    let is = subst (λ r. IsMoveRefusal d.states d.lines d.moves.items r) c.in-Err-Range.field-0-is
    c.in-Err-Range.ensures.refused in
    let states = subst (λ n. IsMoveRefusal n d.lines d.moves.items (Range c.in-Err-Range.field-0-0))
    c.requires.draft.states is in
    never_outside d.moves.items c.in-Err-Range.field-0-0 (subst
    (λ n. IsMoveRefusal (states_named d.moves.items) n d.moves.items (Range c.in-Err-Range.field-0-0))
    c.requires.draft.lines states)
