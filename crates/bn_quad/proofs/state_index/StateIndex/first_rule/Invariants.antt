-- No quadruple before the next one of the state applies.
use Rattle.std.proofs.Common.{length}
use Rattle.bn_quad.specs.Calls.{configuration}
use Rattle.bn_quad.specs.Kept.{rules_of}
use Rattle.bn_quad.proofs.IndexLemmas.{IsSearched, left_from}
use Rattle.bn_quad.proofs.state_index.StateIndex.first_rule.Given as goal

abbrev pub invariant-loop-next : goal.invariant-loop-next
invariant-loop-next l = IsSearched (rules_of l.quads) (configuration l.state l.tapes) l.next

abbrev pub decreases-loop-next : goal.decreases-loop-next
decreases-loop-next l = left_from (length (rules_of l.quads)) l.next
