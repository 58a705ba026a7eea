use Rattle.std.proofs.Common.{◌≡◌, ◌∙◌, ◌-◌, ◌<◌, None, length, replicate, arith, rules, sym, subst}
use Rattle.std.proofs.lemmas.List.{length-set}
use Rattle.bn_quad.specs.Kept.{rules_of}
use Rattle.bn_quad.proofs.KeptLemmas.{length-rules_of, nth-rules_of}
use Rattle.bn_quad.proofs.IndexLemmas.{AreLinked, index_of, linked_more, none_linked}
use Rattle.bn_quad.proofs.state_index.StateIndex.try_new.Goals as goal

pub loop-index-init : goal.loop-index-init
loop-index-init c =
    let empty : c.in_ok-first.first.items ≡ replicate c.args.states None =
    c.in_ok-first.ensures.items_if_clones_equal (search rules) in
    record {
      linked = subst (λ xs. AreLinked (rules_of c.args.quads.now) (length c.args.quads.now) xs c.in_ok-next.next.items)
          (sym empty)
          (none_linked (rules_of c.args.quads.now) (length c.args.quads.now) c.args.states c.in_ok-next.next.items
          (omega (arith, length-rules_of c.args.quads.now)));
      first_long = omega (arith, c.in_ok-first.ensures.len, c.in_ok-first.first.ok.0);
      next_long = omega (arith, c.in_ok-next.ensures.len, c.in_ok-next.next.ok.0);
    }

pub loop-index-preserved : goal.loop-index-preserved
loop-index-preserved c =
    let inside : c.loop-index.index - 1 < length c.args.quads.now = omega arith in
    record {
      linked = linked_more (rules_of c.args.quads.now) (c.loop-index.index - 1) c.loop-index.index _ _
          c.loop-index.first.items c.loop-index.next.items c.index.result.now (omega arith) (omega arith)
          (nth-rules_of c.args.quads.now (c.loop-index.index - 1) _ inside)
          (rw c.loop-index.invariant.first_long (c.requires.states _ _ inside))
          (rw c.loop-index.invariant.next_long inside) c.index.ensures c.loop-index.invariant.linked;
      first_long = length-set _ _ _ ∙ c.loop-index.invariant.first_long;
      next_long = length-set _ _ _ ∙ c.loop-index.invariant.next_long;
    }

pub returns : goal.returns
returns c =
    index_of (rules_of c.args.quads.now) c.loop-index.index _ (omega arith)
    (c.loop-index.invariant.next_long ∙ sym (length-rules_of c.args.quads.now)) c.loop-index.invariant.linked
