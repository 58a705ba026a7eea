use Rattle.bn_network.specs.Controls.{Writes}
use Rattle.bn_control.specs.Names.{listed}
use Rattle.std.proofs.Common.{refl, arith, add-one, inr, suc, get_or}
use Rattle.bn_control.proofs.ShownLemmas.{shown_here, shown_longer, not_shown, empty, only_write, stands_at}
use Rattle.bn_control.proofs.shown.is_written_before.Goals as goal

pub returns-then-shows_write-clause-yes : goal.returns-then-shows_write-clause-yes
returns-then-shows_write-clause-yes c e =
    let few = c.loop-index-test.true in
    shown_longer c.args.quads.now (suc c.loop-index.index) c.args.count _ (omega arith)
    (shown_here c.args.quads.now c.loop-index.index _ _ (stands_at c.args.quads.now c.loop-index.index _ (omega arith))
    (inr (inr (c.if-shows_write.ensures.yes refl))))

pub loop-index-preserved : goal.loop-index-preserved
loop-index-preserved c =
    let few = c.loop-index-test.true in
    let quad = get_or c.args.quads.now c.loop-index.index empty in
    rw add-one (not_shown c.args.quads.now c.loop-index.index quad (Writes c.args.to c.args.tape (listed c.args.rest))
    (stands_at c.args.quads.now c.loop-index.index empty (omega arith)) c.loop-index.invariant
    (λ h. c.if-shows_write.ensures.no refl (only_write (suc c.loop-index.index) quad c.args.to c.args.tape
    (listed c.args.rest) h)))
