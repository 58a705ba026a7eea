use Rattle.std.proofs.Common.{◌≡◌, ◌∙◌, ap, sym, subst, ℕ, ◌<◌, get_or, arith, List, ℤ, pos, ◌-ℤ◌, length}
use Rattle.std.proofs.lemmas.Grind.{get_or_default_zero}
use Rattle.std.proofs.lemmas.Int.{ints}
use Rattle.bn_machine.specs.Tape.{cell}
use Rattle.bn_machine.specs.Window.{IsWindowed, Windowed, window_of}
use Rattle.bn_machine.proofs.RoomLemmas.{cell-window_of, stored-windowed}
use Rattle.bn_machine.proofs.tape.Tape.symbol.Goals as goal

-- the cell numbered i, where the position is that of the cell
read : (cells : List ℕ) (left right at i x : ℕ) (p : ℤ) (w : Windowed) → x ≡ get_or cells i x → i < length cells
    → p ≡ pos i -ℤ pos left → window_of left right cells at ≡ w → x ≡ cell w.tape p
read cells left right at i x p w found inside place view =
    found
    ∙ get_or_default_zero cells i x inside
    ∙ sym (cell-window_of left right cells at i p place)
    ∙ ap (λ (v : Windowed). cell v.tape p) view

pub returns-clause-value : goal.returns-clause-value
returns-clause-value c = read c.self.inside.cells.items c.self.inside.left c.self.inside.right c.self.inside.at _
    c.index.result.now c.args.position c.args.self.now c.index.ensures
    (omega (arith, ints, c.self.invariant.cells_number)) (omega (arith, ints)) c.self.view_is

pub returns-clause-valid : goal.returns-clause-valid
returns-clause-valid c = subst IsWindowed c.self.view_is (stored-windowed _ _ _ _ c.self.invariant)

pub returns-then-position-from-clause-valid : goal.returns-then-position-from-clause-valid
returns-then-position-from-clause-valid c = subst IsWindowed c.self.view_is (stored-windowed _ _ _ _ c.self.invariant)
