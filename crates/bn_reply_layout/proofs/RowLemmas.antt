-- Lines that are pushed one after another, in a loop over numbers.
use Rattle.std.proofs.Common.{◌≡◌, ℕ, zero, suc, ◌+◌, List, [], ◌∷◌, ◌++◌, sym, ap, ◌∙◌, arith, add-one, append_assoc}
use Rattle.std.proofs.Common.{append-nil}
use Rattle.std.specs.List.{flat_map, range_with_len}
use Rattle.std.proofs.lemmas.Grind.{flat_map-append}

range_more : (a n : ℕ) → range_with_len a (suc n) ≡ range_with_len a n ++ (a + n) ∷ []
range_more a zero = let e : a ≡ a + 0 = omega arith in ap (λ (x : ℕ). x ∷ []) e
range_more a (suc n) =
    let e : a + 1 + n ≡ a + suc n = omega arith in
    ap (λ (l : List ℕ). a ∷ l) (range_more (a + 1) n ∙ ap (λ (x : ℕ). range_with_len (a + 1) n ++ x ∷ []) e)

-- no line yet
pub no_line : (f : ℕ → List ℕ) (old : List ℕ) → old ≡ old ++ flat_map f (range_with_len 0 0)
no_line f old = sym (append-nil old)

-- one line more
pub line_more : (f : ℕ → List ℕ) (i : ℕ) (old now new : List ℕ) → now ≡ old ++ flat_map f (range_with_len 0 i)
    → new ≡ now ++ f i → new ≡ old ++ flat_map f (range_with_len 0 (i + 1))
line_more f i old now new so_far next =
    let e : 0 + i ≡ i = omega arith in
    let range : range_with_len 0 (suc i) ≡ range_with_len 0 i ++ i ∷ [] =
    range_more 0 i ∙ ap (λ (x : ℕ). range_with_len 0 i ++ x ∷ []) e in
    let lines : flat_map f (range_with_len 0 (i + 1)) ≡ flat_map f (range_with_len 0 i) ++ f i =
    ap (λ n. flat_map f (range_with_len 0 n)) (add-one i) ∙ ap (flat_map f) range
    ∙ flat_map-append f (range_with_len 0 i) (i ∷ []) ∙ ap (λ l. flat_map f (range_with_len 0 i) ++ l)
    (append-nil (f i)) in
    next ∙ ap (λ l. l ++ f i) so_far ∙ append_assoc old (flat_map f (range_with_len 0 i)) (f i)
    ∙ ap (λ l. old ++ l) (sym lines)
