-- Numbers that tell of no wire, and a number that is written among others.
use Rattle.std.specs.Prelude.{◌≡◌, ℕ, ◌≤◌, List, [], ◌∷◌, map, replicate, Option, Some, None, slice_set, refl}
use Rattle.std.proofs.Common.{zero, suc, arith, ap, ◌∙◌}
use Rattle.bn_circuits.specs.declared.line.Line.{Line}
use Rattle.bn_packed.specs.Ends.{narrow_end, wide_end, IsLineBelow}

map-replicate : {X Y : Type 0} (f : X → Y) (x : X) (n : ℕ) → map f (replicate n x) ≡ replicate n (f x)
map-replicate f x zero = refl
map-replicate f x (suc n) = ap (λ ys. f x ∷ ys) (map-replicate f x n)

pub loose_narrow : (cells : List ℕ) (n : ℕ) → cells ≡ replicate n 4294967295 → map narrow_end cells ≡ replicate n None
loose_narrow cells n is = ap (map narrow_end) is ∙ map-replicate narrow_end 4294967295 n

pub loose_wide : (cells : List ℕ) (n : ℕ) → cells ≡ replicate n 18446744073709551615
    → map wide_end cells ≡ replicate n None
loose_wide cells n is = ap (map wide_end) is ∙ map-replicate wide_end 18446744073709551615 n

map-slice_set : {X Y : Type 0} (f : X → Y) (xs : List X) (i : ℕ) (v : X)
    → map f (slice_set xs i v) ≡ slice_set (map f xs) i (f v)
map-slice_set f [] i v = refl
map-slice_set f (x ∷ xs) zero v = refl
map-slice_set f (x ∷ xs) (suc i) v = ap (λ ys. f x ∷ ys) (map-slice_set f xs i v)

-- a number that tells of this end, written
pub set_told : {X : Type 0} (tells : X → Option Line) (cells : List X) (ends : List (Option Line)) (i j : ℕ) (cell : X)
    (end : Line)
    → map tells cells ≡ ends → i ≡ j → tells cell ≡ Some end → map tells (slice_set cells i cell)
    ≡ slice_set ends j (Some end)
set_told tells cells ends i j cell end are here told =
    map-slice_set tells cells i cell ∙ ap (λ xs. slice_set xs i (tells cell)) are
    ∙ ap (λ n. slice_set ends n (tells cell)) here ∙ ap (slice_set ends j) told

pub below_more : (n m : ℕ) (l : Line) → IsLineBelow n l → n ≤ m → IsLineBelow m l
below_more n m l below more = let e = below.element in record { element = omega arith; line = below.line }
