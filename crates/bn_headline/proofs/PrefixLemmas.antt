-- The proper prefixes of a list, and its parts from a place on.
use Rattle.std.proofs.Common.{◌≡◌, inl, inr, suc, ◌-◌, ◌<◌, List, [], ◌∷◌, ◌++◌, length, map, refl, sym, ap, subst, ◌∙◌}
use Rattle.std.proofs.Common.{arith}
use Rattle.std.proofs.lemmas.List.{length-map}
use Rattle.bn_lists.specs.Lists.{Has}
use Rattle.bn_lists.proofs.ApartLemmas.{IsApart, mapped, from_mapped, apart_mapped}

-- the proper prefixes, by length
abbrev pub inits : {A : Type 0} → List A → List (List A)
inits [] = []
inits (x ∷ l) = [] ∷ map (λ b. x ∷ b) (inits l)

pub length_inits : {A : Type 0} (l : List A) → length (inits l) ≡ length l
length_inits [] = refl
length_inits (x ∷ l) = ap suc (length-map (inits l) (λ b. x ∷ b) ∙ length_inits l)

pub inits_apart : {A : Type 0} (l : List A) → IsApart (inits l)
inits_apart [] = tt
inits_apart {A = A} (x ∷ l) = (
  (λ h. (let found = from_mapped (λ (b : List A). x ∷ b) (inits l) [] h in let e = found.2 in cc)),
  apart_mapped (λ (b : List A). x ∷ b) (λ b c e. cc) (inits l) (inits_apart l),
)

pub init_member : {A : Type 0} (l before rest : List A) (p : A) → l ≡ before ++ (p ∷ rest) → Has (inits l) before
init_member [] [] rest p e = absurd (cc)
init_member [] (b ∷ before) rest p e = absurd (cc)
init_member (x ∷ l) [] rest p e = inl refl
init_member {A = A} (x ∷ l) (b ∷ before) rest p e =
    let first : x ≡ b = cc in
    let more : l ≡ before ++ (p ∷ rest) = cc in
    inr (subst (λ (y : A). Has (map (λ (c : List A). x ∷ c) (inits l)) (y ∷ before)) first
    (mapped (λ (c : List A). x ∷ c) (inits l) before (init_member l before rest p more)))

-- a prefix of an image is the image of a prefix
pub from_init : {A B : Type 0} (f : A → B) (l : List A) (b : List B) → Has (inits (map f l)) b
    → (before : List A) × (p : A) × (rest : List A) × (l ≡ before ++ (p ∷ rest)) × (map f before ≡ b)
from_init f [] b h = absurd h
from_init f (x ∷ l) b (inl e) = ([], x, l, refl, sym e)
from_init {A = A} {B = B} f (x ∷ l) b (inr h) =
    let found = from_mapped (λ (c : List B). f x ∷ c) (inits (map f l)) b h in
    let more = from_init f l found.0 found.1 in
    (x ∷ more.0, more.1, more.2, ap (λ k. x ∷ k) more.3, ap (λ k. f x ∷ k) more.4 ∙ found.2)

-- the elements that others follow, with these
abbrev pub tails : {A : Type 0} → List A → List (A × List A)
tails [] = []
tails (p ∷ []) = []
tails (p ∷ (q ∷ rest)) = (p, q ∷ rest) ∷ tails (q ∷ rest)

pub length_tails : {A : Type 0} (l : List A) → length (tails l) ≡ length l - 1
length_tails [] = refl
length_tails (p ∷ []) = refl
length_tails (p ∷ (q ∷ rest)) = let more = length_tails (q ∷ rest) in omega arith

pub tail_member : {A : Type 0} (l before rest : List A) (p q : A) → l ≡ before ++ (p ∷ (q ∷ rest))
    → Has (tails l) (p, q ∷ rest)
tail_member [] [] rest p q e = absurd (cc)
tail_member [] (b ∷ before) rest p q e = absurd (cc)
tail_member (x ∷ []) [] rest p q e = absurd (cc)
tail_member (x ∷ []) (b ∷ []) rest p q e = absurd (cc)
tail_member (x ∷ []) (b ∷ (c ∷ before)) rest p q e = absurd (cc)
tail_member (x ∷ (y ∷ l)) [] rest p q e =
    let one : p ≡ x = cc in
    let two : q ∷ rest ≡ y ∷ l = cc in
    inl (λ i. (one i, two i))
tail_member (x ∷ (y ∷ l)) (b ∷ before) rest p q e = inr (tail_member (y ∷ l) before rest p q cc)

pub from_tail : {A : Type 0} (l : List A) (p : A) (rest : List A) → Has (tails l) (p, rest)
    → (before : List A) × (q : A) × (more : List A) × (l ≡ before ++ (p ∷ rest)) × (rest ≡ q ∷ more)
from_tail [] p rest h = absurd h
from_tail (x ∷ []) p rest h = absurd h
from_tail (x ∷ (y ∷ l)) p rest (inl e) =
    let one : x ≡ p = ap (λ v. v.0) (sym e) in
    let two : y ∷ l ≡ rest = ap (λ v. v.1) (sym e) in
    ([], y, l, (λ i. one i ∷ two i), sym two)
from_tail (x ∷ (y ∷ l)) p rest (inr h) = let more = from_tail (y ∷ l) p rest h in
    (x ∷ more.0, more.1, more.2, ap (λ k. x ∷ k) more.3, more.4)

-- what follows is shorter and shorter
pub tail_shorter : {A : Type 0} (l : List A) (v : A × List A) → Has (tails l) v → length v.1 < length l
tail_shorter [] v h = absurd h
tail_shorter (x ∷ []) v h = absurd h
tail_shorter (x ∷ (y ∷ l)) v (inl e) = let same = ap (λ w. length w.1) e in omega arith
tail_shorter (x ∷ (y ∷ l)) v (inr h) = let less = tail_shorter (y ∷ l) v h in omega arith

-- so images that tell the length of what follows are apart
pub tails_apart : {A B : Type 0} (f : A × List A → B) → ((v w : A × List A) → f v ≡ f w → length v.1 ≡ length w.1)
    → (l : List A) → IsApart (map f (tails l))
tails_apart f tells [] = tt
tails_apart f tells (x ∷ []) = tt
tails_apart f tells (x ∷ (y ∷ l)) = (
  (λ h. (let found = from_mapped f (tails (y ∷ l)) (f (x, y ∷ l)) h in let less = tail_shorter (y ∷ l) found.0 found.1
      in let same = tells found.0 (x, y ∷ l) found.2 in omega arith)),
  tails_apart f tells (y ∷ l),
)
