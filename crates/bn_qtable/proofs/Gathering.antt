-- Names that are gathered, one after the other.
use Rattle.std.proofs.Common.{◌≡◌, ◌<◌, ◌≤◌, ◌+◌, ◌∷◌, ◌++◌, ◌∙◌, ℕ, zero, suc, List, [], take, Some, refl, ap, arith}
use Rattle.std.proofs.Common.{slice_get}
use Rattle.std.specs.Prelude.{bytes_eq, Contains}
use Rattle.std.proofs.lemmas.List.{take_more}
use Rattle.std.proofs.lemmas.Option.{get_or_from_slice_get, slice_get-get_or, slice_get_within}
use Rattle.std.proofs.lemmas.Slice.Eq.{bytes_eq-Decides}
use Rattle.bn_csv.specs.NumberingLaws.{AreApart}
use Rattle.bn_csv.proofs.NumberingLemmas.{one_number}
use Rattle.bn_quad.specs.Names.{Naming, symbols_on, with_symbol}
use Rattle.bn_qtable.specs.Named.{on_tape}

-- an element among the first ones of a list is there in the list, at a place before
before : (xs : List (List ℕ)) (i k : ℕ) (x : List ℕ) → slice_get (take i xs) k ≡ Some x
    → (slice_get xs k ≡ Some x) × (k < i)
before [] zero k x e = cc e
before [] (suc i) k x e = cc e
before (y ∷ ys) zero k x e = cc e
before (y ∷ ys) (suc i) zero x e = (e, omega arith)
before (y ∷ ys) (suc i) (suc k) x e = let h = before ys i k x e in let low = h.1 in (h.0, omega arith)

-- a name isn't among those before it
pub new-name : (xs : List (List ℕ)) (i : ℕ) (x : List ℕ) → AreApart bytes_eq bytes_eq-Decides xs
    → slice_get xs i ≡ Some x → Contains (take i xs) x → ⊥
new-name xs i x apart at (k, within, here) =
    let there : slice_get (take i xs) k ≡ Some x = slice_get-get_or (take i xs) k x within
    ∙ ap (λ (t : List ℕ). Some t) here in
    let h = before xs i k x there in
    let low = h.1 in
    let same : k ≡ i = one_number bytes_eq bytes_eq-Decides xs k i x apart h.0 at in
    omega arith

-- the first names with one more
pub one-name : (xs : List (List ℕ)) (i : ℕ) (x : List ℕ) → slice_get xs i ≡ Some x
    → take (i + 1) xs ≡ take i xs ++ x ∷ []
one-name xs i x at = take_more xs i x (slice_get_within xs i x at)
    ∙ ap (λ (t : List ℕ). take i xs ++ t ∷ []) (get_or_from_slice_get xs i x x at)

-- the names of one tape
pub on-tape-more : (n : Naming) (tape : ℕ) (xs : List (List ℕ)) (x : List ℕ)
    → with_symbol (on_tape n tape xs) tape x ≡ on_tape n tape (xs ++ x ∷ [])
on-tape-more n zero xs x = refl
on-tape-more n (suc zero) xs x = refl
on-tape-more n (suc (suc zero)) xs x = refl
on-tape-more n (suc (suc (suc tape))) xs x = refl

pub symbols-on-tape : (n : Naming) (tape : ℕ) (xs : List (List ℕ)) → 1 ≤ tape → symbols_on (on_tape n tape xs) tape ≡ xs
symbols-on-tape n zero xs h = absurd (omega arith)
symbols-on-tape n (suc zero) xs h = refl
symbols-on-tape n (suc (suc zero)) xs h = refl
symbols-on-tape n (suc (suc (suc tape))) xs h = refl
