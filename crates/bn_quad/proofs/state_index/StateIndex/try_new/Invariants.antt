-- The quadruples behind this place are linked.
use Rattle.std.proofs.Common.{◌≡◌, length}
use Rattle.bn_quad.specs.Kept.{rules_of}
use Rattle.bn_quad.proofs.IndexLemmas.{AreLinked}
use Rattle.bn_quad.proofs.state_index.StateIndex.try_new.Given as goal

abbrev pub invariant-loop-index : goal.invariant-loop-index
invariant-loop-index l = record {
  linked : AreLinked (rules_of l.quads) l.index l.first.items l.next.items;
  first_long : length l.first.items ≡ l.states;
  next_long : length l.next.items ≡ length l.quads;
}
