use Rattle.std.proofs.Common.{◌≡◌, ◌<◌, ◌≤◌, ℕ, length, get_or}
use Rattle.bn_packed.proofs.bars.Bars.of.Given as goal

abbrev pub invariant-loop-element : goal.invariant-loop-element
invariant-loop-element l =
    (length l.bars ≡ length l.states)
    × ((k : ℕ) → k < l.element → get_or l.bars k 0 ≡ get_or l.states k 0)
    × ((k : ℕ) → l.element ≤ k → k < length l.states → get_or l.bars k 0 ≡ 0)
