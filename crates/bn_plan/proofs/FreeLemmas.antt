-- Lemmas on the tracks in a heap.
use Rattle.std.specs.Prelude.{◌≡◌, ℕ, ◌≤◌, false, List, [], ◌∷◌, map}
use Rattle.std.specs.List.{AllByRecursion}
use Rattle.std.specs.Ordering.{is_lt, nat_cmp}
use Rattle.std.proofs.Common.{subst, sym, arith, inl, inr}
use Rattle.std.proofs.lemmas.List.Sorted.{le_from_greatest}
use Rattle.bn_lists.specs.Lists.{Has}

-- the test says the order
not_less : (a b : ℕ) → is_lt (nat_cmp a b) ≡ false → b ≤ a
not_less a b h = le_from_greatest a (b ∷ []) (h, tt) 0 0 (omega arith)

-- what no element comes before is the least
pub least_of : {X : Type 0} (f : X → ℕ) (x : X) (xs : List X)
    → AllByRecursion (λ y. is_lt (nat_cmp (f y) (f x)) ≡ false) xs → (m : ℕ) → Has (map f xs) m → f x ≤ m
least_of f x [] all m h = absurd h
least_of f x (y ∷ ys) all m (inl e) = subst (λ k. f x ≤ k) (sym e) (not_less (f y) (f x) all.0)
least_of f x (y ∷ ys) all m (inr h) = least_of f x ys all.1 m h
