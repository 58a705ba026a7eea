use Rattle.bn_network.specs.Controls.{Reads}
use Rattle.bn_control.specs.Names.{listed}
use Rattle.std.proofs.Common.{refl, arith, add-one, inl, suc, get_or}
use Rattle.bn_control.proofs.ShownLemmas.{shown_here, shown_longer, not_shown, empty, only_read, stands_at}
use Rattle.bn_control.proofs.shown.is_read_before.Goals as goal

pub returns-then-shows_read-clause-yes : goal.returns-then-shows_read-clause-yes
returns-then-shows_read-clause-yes c e =
    let few = c.loop-index-test.true in
    shown_longer c.args.quads.now (suc c.loop-index.index) c.args.count _ (omega arith)
    (shown_here c.args.quads.now c.loop-index.index _ _ (stands_at c.args.quads.now c.loop-index.index _ (omega arith))
    (inl (c.if-shows_read.ensures.yes refl)))

pub loop-index-preserved : goal.loop-index-preserved
loop-index-preserved c =
    let few = c.loop-index-test.true in
    let quad = get_or c.args.quads.now c.loop-index.index empty in
    rw add-one (not_shown c.args.quads.now c.loop-index.index quad (Reads c.args.from (listed c.args.before))
    (stands_at c.args.quads.now c.loop-index.index empty (omega arith)) c.loop-index.invariant
    (λ h. c.if-shows_read.ensures.no refl (only_read (suc c.loop-index.index) quad c.args.from (listed c.args.before)
    h)))
