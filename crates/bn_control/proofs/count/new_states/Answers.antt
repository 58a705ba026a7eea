use Rattle.std.proofs.Common.{◌≡◌, ◌+◌, suc, subst, get_or}
use Rattle.bn_quad.specs.declared.quad.Quad.{Quad}
use Rattle.bn_control.specs.Shown.{IsCount, IsNew, Shows}
use Rattle.bn_control.proofs.ShownLemmas.{empty, states_count, stands_at}
use Rattle.bn_control.proofs.count.new_states.Goals as goal

pub returns-clause-new : goal.returns-clause-new
returns-clause-new c quad e =
    let one = stands_at c.args.quads.now c.args.index empty c.requires.inside in
    let same : get_or c.args.quads.now c.args.index empty ≡ quad = cc in
    subst (λ (v : Quad). IsCount (IsNew c.args.quads.now c.args.index (Shows (suc c.args.index) v))
    (c.new_reads.result + c.shift_count.result + c.new_writes.result)) same
    (states_count c.args.quads.now c.args.index (get_or c.args.quads.now c.args.index empty) c.new_reads.result
    c.shift_count.result c.new_writes.result c.new_reads.ensures.new
    (c.shift_count.ensures.shifts (suc c.args.index)) c.new_writes.ensures.new)
