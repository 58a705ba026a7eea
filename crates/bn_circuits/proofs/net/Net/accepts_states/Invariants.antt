-- Each state so far is one of its element.
use Rattle.std.proofs.Common.{◌≡◌, ℕ, ◌<◌, map, Some, slice_get}
use Rattle.bn_circuits.specs.Circuits.{states_of}
use Rattle.bn_circuits.proofs.net.Net.accepts_states.Given as goal

abbrev pub invariant-loop-index : goal.invariant-loop-index
invariant-loop-index g l = (e : ℕ) (q : ℕ) → e < l.index → slice_get l.states e ≡ Some q
    → q < states_of (map g.E.Element.table l.self.elements) e
