-- Lists of tapes with their symbols.
use Rattle.std.proofs.Common.{◌≡◌, ◌≢◌, ℕ, List, [], ◌∷◌, ◌++◌, map, length, refl, ap, arith, length-append}
use Rattle.std.proofs.lemmas.List.{length-map}
use Rattle.bn_network.specs.Controls.{symbols_read}

-- the tapes of a list of tapes with their symbols
abbrev pub tapes : List (ℕ × ℕ) → List ℕ
tapes l = map (λ p. p.0) l

-- lists with the same tapes, split behind the same symbols, are split at the same tapes
pub split : (a b c d : List (ℕ × ℕ)) → symbols_read a ≡ symbols_read b → tapes (a ++ c) ≡ tapes (b ++ d)
    → (tapes a ≡ tapes b) × (tapes c ≡ tapes d)
split [] [] c d e f = (refl, f)
split [] (y ∷ b) c d e f = cc
split (x ∷ a) [] c d e f = cc
split (x ∷ a) (y ∷ b) c d e f =
    let es : symbols_read a ≡ symbols_read b = cc in
    let et : tapes (a ++ c) ≡ tapes (b ++ d) = cc in
    let more = split a b c d es et in
    let first : x.0 ≡ y.0 = cc in
    let rest = more.0 in
    (cc, more.1)

-- so are those whose second parts are equally long
pub split_right : (a b c d : List (ℕ × ℕ)) → length c ≡ length d → tapes (a ++ c) ≡ tapes (b ++ d)
    → (tapes a ≡ tapes b) × (tapes c ≡ tapes d)
split_right [] [] c d e f = (refl, f)
split_right [] (y ∷ b) c d e f =
    let l : length (tapes c) ≡ length (tapes ((y ∷ b) ++ d)) = ap length f in
    absurd (omega (
      arith,
      length-map c (λ (p : ℕ × ℕ). p.0),
      length-map (b ++ d) (λ (p : ℕ × ℕ). p.0),
      length-append b d,
    ))
split_right (x ∷ a) [] c d e f =
    let l : length (tapes ((x ∷ a) ++ c)) ≡ length (tapes d) = ap length f in
    absurd (omega (
      arith,
      length-map d (λ (p : ℕ × ℕ). p.0),
      length-map (a ++ c) (λ (p : ℕ × ℕ). p.0),
      length-append a c,
    ))
split_right (x ∷ a) (y ∷ b) c d e f =
    let et : tapes (a ++ c) ≡ tapes (b ++ d) = cc in
    let more = split_right a b c d e et in
    let first : x.0 ≡ y.0 = cc in
    let rest = more.0 in
    (cc, more.1)

-- lists with the same symbols are equally long
pub same_length : (a b : List (ℕ × ℕ)) → symbols_read a ≡ symbols_read b → length a ≡ length b
same_length a b e = let l : length (symbols_read a) ≡ length (symbols_read b) = ap length e in omega (
  arith,
  length-map a (λ (p : ℕ × ℕ). p.1),
  length-map b (λ (p : ℕ × ℕ). p.1),
)

-- equal lists have equal last elements
pub last : {A : Type 0} (a b : List A) (p q : A) → a ++ (p ∷ []) ≡ b ++ (q ∷ []) → (a ≡ b) × (p ≡ q)
last [] [] p q e = (refl, cc)
last [] (y ∷ []) p q e = cc
last [] (y ∷ (z ∷ b)) p q e = cc
last (x ∷ []) [] p q e = cc
last (x ∷ (z ∷ a)) [] p q e = cc
last (x ∷ a) (y ∷ b) p q e =
    let rest : a ++ (p ∷ []) ≡ b ++ (q ∷ []) = cc in
    let first : x ≡ y = cc in
    let more = last a b p q rest in
    let front = more.0 in
    (cc, more.1)

-- a list with an element is not empty
pub not_empty : {A : Type 0} (a : List A) (p : A) (r : List A) → a ++ (p ∷ r) ≢ []
not_empty [] p r e = cc
not_empty (x ∷ a) p r e = cc

-- pairs are known by their parts
pub pair : {A B : Type 0} (p q : A × B) → p.0 ≡ q.0 → p.1 ≡ q.1 → p ≡ q
pair (a, b) (c, d) e f = cc
