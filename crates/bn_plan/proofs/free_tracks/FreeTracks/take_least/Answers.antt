use Rattle.std.proofs.Common.{◌∷◌}
use Rattle.std.specs.BinaryHeap.{heap_items}
use Rattle.std.proofs.lemmas.List.Sorted.{IsPermutation-map}
use Rattle.bn_plan.proofs.FreeLemmas.{least_of}
use Rattle.bn_plan.proofs.free_tracks.FreeTracks.take_least.Goals as goal

pub returns-clause-taken : goal.returns-clause-taken
returns-clause-taken c = rw (← c.self.view_is) (IsPermutation-map (λ r. r.0) (heap_items c.self.inside.tracks)
    (c.in_ok-track.field-0 ∷ heap_items c.pop.new.self) c.in_ok-track.ensures.permutation)

pub returns-clause-least : goal.returns-clause-least
returns-clause-least c = rw (← c.self.view_is) (least_of (λ r. r.0) c.in_ok-track.field-0
    (heap_items c.self.inside.tracks) (c.in_ok-track.ensures.heap_order c.self.invariant).1)
