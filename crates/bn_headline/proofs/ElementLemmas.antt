-- The elements of a machine's network, counted by the machine alone.
use Rattle.std.specs.Prelude.{◌≡◌, ℕ, ◌+◌, ◌-◌, ◌*◌, List, length, slice_index}
use Rattle.std.proofs.Common.{arith, ap, ◌∙◌}
use Rattle.bn_machine.specs.Outcome.{Limits}
use Rattle.bn_network.specs.Controls.{lines_before}
use Rattle.bn_network.specs.Networks.{bank_size, cell_size, cells_in}
use Rattle.bn_headline.specs.CountLaws.{ControlsAreCounted, without_shift, never_entered, never_left}
use Rattle.bn_headline.specs.Elements.{control_states}
use Rattle.bn_headline.specs.HeadlineLaws.{ElementsAreCounted}

states_are : (n a b c k : ℕ) → n + a + b + c ≡ k → n ≡ k - (a + b + c)
states_are n a b c k e = omega arith

lines_are : (z n : ℕ) → z + 3 + (n + 1 + 3 + (z + 3 + 1)) ≡ 2 * z + n + 11
lines_are z n = omega arith

-- by the symbols of the three tapes
abbrev counted_by : Limits → ℕ → List ℕ → ℕ
counted_by l states zs = bank_size states (lines_before zs 3) + cells_in l 1 * cell_size (slice_index zs 0)
    + cells_in l 2 * cell_size (slice_index zs 1) + cells_in l 3 * cell_size (slice_index zs 2)

pub elements-counted : ControlsAreCounted → ElementsAreCounted
elements-counted controls p l t names standard fits translates numbering =
    let states : length names ≡ control_states p = states_are (length names) (2 * without_shift p) (never_entered p)
    (never_left p)
    (12 * length p.quints + 4 * (p.states - 1) + 8 * p.symbols + 16)
    (controls p t names standard fits translates numbering) in
    let lines = lines_are p.symbols (length p.quints) in
    ap (counted_by l (length names)) translates.symbols
    ∙ (λ i. bank_size (states i) (lines i) + (l.left + l.right + 1) * cell_size p.symbols
    + (l.steps + 1) * cell_size (length p.quints + 1)
    + (l.output + 1) * cell_size p.symbols)
