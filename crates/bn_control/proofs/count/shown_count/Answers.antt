use Rattle.std.proofs.Common.{arith, add-one}
use Rattle.bn_control.proofs.ShownLemmas.{empty, shown_more, stands_at}
use Rattle.bn_control.proofs.count.shown_count.Goals as goal

pub loop-index-preserved : goal.loop-index-preserved
loop-index-preserved c =
    let at = stands_at c.args.quads.now c.loop-index.index empty c.loop-index-test.true in
    let few = c.loop-index.invariant.1 in
    let more = c.new_states-count.ensures.few in (
      rw add-one (shown_more c.args.quads.now c.loop-index.index _ c.loop-index.count c.new_states-count.result at
          c.loop-index.invariant.0 (c.new_states-count.ensures.new _ at)),
      omega arith,
    )
