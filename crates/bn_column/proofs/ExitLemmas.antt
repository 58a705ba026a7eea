-- A column by itself has no wire at its exits: the signal has left when it is crossed.
use Rattle.std.specs.Prelude.{◌≡◌, ℕ, ◌+◌, ◌<◌, Bool, true, false, Option, Some, None, refl}
use Rattle.std.proofs.Common.{arith, ap, ◌∙◌}
use Rattle.bn_circuits.specs.Circuits.{target, place_at, place_after}
use Rattle.bn_circuits.specs.declared.line.Line.{Line}
use Rattle.bn_circuits.specs.declared.place.Place.TheVariants.{Left}
use Rattle.bn_circuits.specs.declared.config.Config.{Config}
use Rattle.bn_element.specs.declared.rotary.Rotary.{Rotary}
use Rattle.bn_circuits.specs.Parts.{Parts}
use Rattle.bn_column.specs.Columns.{IsInner, down, up, under, over, top, exit_side, IsEntering, IsCrossing}
use Rattle.bn_circuits.specs.Circuits.{line_at}
use Rattle.bn_circuits.specs.RotaryNets.{rotary_circuit}
use Rattle.bn_column.specs.Nets.{IsColumnNet}

-- the number of the line, and of its element
of_line : (a b : Line) → a ≡ b → a.line ≡ b.line
of_line a b same = ap (λ (x : Line). x.line) same

of_element : (a b : Line) → a ≡ b → a.element ≡ b.element
of_element a b same = ap (λ (x : Line). x.element) same

no_inner : (rows i : ℕ) (marked : Bool) (from to : Line) → i < rows → from ≡ line_at (0 + i) (exit_side marked)
    → IsInner 0 rows from to → ⊥
no_inner rows i true from to low is (down r inside a b) = let same = of_line from (line_at (0 + r) 2) a in let other =
    of_line from (line_at (0 + i) 3) is in absurd (omega (arith, same, other))
no_inner rows i false from to low is (down r inside a b) = let same = of_line from (line_at (0 + r) 2) a in let other =
    of_line from (line_at (0 + i) 1) is in absurd (omega (arith, same, other))
no_inner rows i true from to low is (up r inside a b) = let same =
    of_line from (line_at (0 + (r + 1)) 0) a in let other = of_line from (line_at (0 + i) 3) is in absurd
    (omega (arith, same, other))
no_inner rows i false from to low is (up r inside a b) = let same =
    of_line from (line_at (0 + (r + 1)) 0) a in let other = of_line from (line_at (0 + i) 1) is in absurd
    (omega (arith, same, other))
no_inner rows i true from to low is (under a b) = let same = of_line from (line_at (0 + rows) 2) a in let other =
    of_line from (line_at (0 + i) 3) is in absurd (omega (arith, same, other))
no_inner rows i false from to low is (under a b) = let same = of_line from (line_at (0 + rows) 2) a in let other =
    of_line from (line_at (0 + i) 1) is in absurd (omega (arith, same, other))
no_inner rows i true from to low is (over a b) = let same = of_element from (line_at (0 + rows) 3) a in let other =
    of_element from (line_at (0 + i) 3) is in absurd (omega (arith, same, other, low))
no_inner rows i false from to low is (over a b) = let same = of_line from (line_at (0 + rows) 3) a in let other =
    of_line from (line_at (0 + i) 1) is in absurd (omega (arith, same, other))
no_inner rows i true from to low is (top a b) = let same = of_line from (line_at 0 0) a in let other =
    of_line from (line_at (0 + i) 3) is in absurd (omega (arith, same, other))
no_inner rows i false from to low is (top a b) = let same = of_line from (line_at 0 0) a in let other =
    of_line from (line_at (0 + i) 1) is in absurd (omega (arith, same, other))

none_of : (o : Option Line) → ((to : Line) → o ≡ Some to → ⊥) → o ≡ None
none_of None never = refl
none_of (Some to) never = absurd (never to refl)

pub crossed-left : (net : Parts Rotary) (rows i steps : ℕ) (marked from_east : Bool) (c d : Config)
    → IsColumnNet net rows
    → IsEntering 0 rows i marked from_east c → IsCrossing (rotary_circuit net) 0 rows i marked from_east steps c d
    → d.place ≡ Left i (exit_side marked)
crossed-left net rows i steps marked from_east c d is entering crossing =
    let exit = line_at (0 + i) (exit_side marked) in
    let loose : target net.wires exit ≡ None = none_of (target net.wires exit)
    (λ to leads. no_inner rows i marked exit to entering.row refl (is.no_others exit to leads)) in
    let there : d.place ≡ place_after net.wires exit = ap (λ (x : Config). x.place) crossing.ends in
    let first : 0 + i ≡ i = omega arith in
    there ∙ ap (λ o. place_at o exit) loose ∙ ap (λ e. Left e (exit_side marked)) first
