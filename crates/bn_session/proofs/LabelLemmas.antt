-- Labels in a set of owned bytes.
use Rattle.std.specs.Prelude.{◌≡◌, bytes_eq, ℕ, Bool, true, false, List, [], ◌∷◌, map, refl}
use Rattle.indexmap.specs.IndexSet.{remove_key}
use Rattle.bn_session.specs.Labels.{without}

-- the first element of a label goes: so its label goes
pub without-map : {X : Type 0} (f : X → List ℕ) (label : List ℕ) (xs : List X)
    → map f (remove_key (λ x. bytes_eq label (f x)) xs) ≡ without label (map f xs)
without-map f label [] = refl
without-map f label (x ∷ xs) = by (bytes_eq label (f x)) refl (without-map f label xs)
  where
    by : (b : Bool) → bytes_eq label (f x) ≡ b → map f (remove_key (λ y. bytes_eq label (f y)) xs)
        ≡ without label (map f xs) → map f (remove_key (λ y. bytes_eq label (f y)) (x ∷ xs))
        ≡ without label (map f (x ∷ xs))
    by true e later = rw e refl
    by false e later = rw (e, later) refl
