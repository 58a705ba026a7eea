use Rattle.std.proofs.Common.{List, sym, subst}
use Rattle.bn_network.specs.Controls.{ControlState}
use Rattle.bn_quad.specs.Quadruples.{IsQuadMachine}
use Rattle.bn_control.specs.Controlled.{IsControlOf, IsWithinLimits}
use Rattle.bn_control.proofs.MadeLemmas.{parts_kept, parts_make}
use Rattle.bn_control.proofs.make.control.Goals as goal

pub new-requires : goal.new-requires
new-requires c =
    let m = c.machine-machine.result.now in
    let limits = subst IsWithinLimits (sym c.machine-machine.ensures.value) c.requires in
    parts_kept m limits c.in_ok-draft.draft c.in_ok-draft.ensures c.in_ok-rsm.rsm
    (c.in_ok-rsm.ensures m c.in_ok-draft.ensures)
    c.in_ok-firsts.firsts.items (c.in_ok-firsts.ensures m c.in_ok-draft.ensures) c.in_ok-awaited.awaited.items
    (c.in_ok-awaited.ensures.awaited m c.in_ok-draft.ensures) c.in_ok-awaited.ensures.tapes

pub returns-clause-made : goal.returns-clause-made
returns-clause-made c =
    let m = c.machine-machine.result.now in
    let limits = subst IsWithinLimits (sym c.machine-machine.ensures.value) c.requires in
    subst (λ n. (names : List ControlState) × IsControlOf n names c.new.result) c.machine-machine.ensures.value
    (parts_make m limits c.in_ok-draft.draft c.in_ok-draft.ensures c.in_ok-rsm.rsm
    (c.in_ok-rsm.ensures m c.in_ok-draft.ensures)
    c.in_ok-firsts.firsts.items (c.in_ok-firsts.ensures m c.in_ok-draft.ensures) c.in_ok-awaited.awaited.items
    (c.in_ok-awaited.ensures.awaited m c.in_ok-draft.ensures) c.in_ok-awaited.ensures.tapes
    c.new.result c.new.ensures)

pub returns-clause-valid : goal.returns-clause-valid
returns-clause-valid c = subst IsQuadMachine c.machine-machine.ensures.value c.in_ok-draft.ensures.valid
