use Rattle.std.proofs.lemmas.List.Filters.{dedup_is}
use Rattle.std.proofs.lemmas.List.Kept.{Any-dedup, Contains-from_dedup, IsStrictlySortedBy-dedup}
use Rattle.std.proofs.lemmas.List.Sorted.{Contains-permutation, IsPermutation-sym}
use Rattle.bn_control.proofs.TieLemmas.{any_tied}
use Rattle.bn_control.proofs.order.in_order.Goals as goal

pub returns-clause-rising : goal.returns-clause-rising
returns-clause-rising g c = rw (dedup_is _ _ _ c.dedup.ensures.filtered)
    (IsStrictlySortedBy-dedup g.met.T.Ord.total g.met.T.Ord.matches_eq _ c.in_ok-sort.ensures.sorted)

pub returns-clause-each : goal.returns-clause-each
returns-clause-each g c x h =
    rw (dedup_is _ _ _ c.dedup.ensures.filtered) (any_tied g.T.Ord.cmp g.T.PartialEq.eq g.met.T.Ord.matches_eq x _
    (Any-dedup g.met.T.Eq.laws _ x (Contains-permutation _ _ x c.in_ok-sort.ensures.permutation h)))

pub returns-clause-only : goal.returns-clause-only
returns-clause-only g c x h =
    Contains-permutation _ _ x (IsPermutation-sym _ _ c.in_ok-sort.ensures.permutation)
    (Contains-from_dedup g.T.PartialEq.eq _ x (rw (dedup_is _ _ _ c.dedup.ensures.filtered) at h))
