-- Lists of names: where a name is found, and how one more is added.
use Rattle.std.specs.Prelude.{◌≡◌, ℕ, zero, suc, ◌-◌, ◌^◌, ◌<◌, ◌≤◌, List, [], ◌∷◌, ◌++◌, length, map, slice_get, Some}
use Rattle.std.specs.Prelude.{Contains, ◌⊎◌}
use Rattle.std.specs.Option.{option_map}
use Rattle.std.proofs.Common.{refl, sym, ap, ◌∙◌, subst, arith, inl, inr, get_or, length-append}
use Rattle.std.proofs.lemmas.Option.{slice_get-map, slice_get-get_or, slice_get_within}
use Rattle.std.proofs.lemmas.List.{map-append}
use Rattle.std.proofs.lemmas.Bool.{cases_lt}
use Rattle.bn_quad.specs.Names.{AreApart, AreNames}

-- the name has no number below n
pub record HasNoNumberBelow (names : List (List ℕ)) (name : List ℕ) (n : ℕ) : Type 0 where
  pub none : (m : ℕ) → m < n → slice_get names m ≡ Some name → ⊥

some_once : {X : Type 0} {x y : X} → Some x ≡ Some y → x ≡ y
some_once e = cc

-- an element of what the names are made of has the name of its place
pub name_at : {X : Type 0} (f : X → List ℕ) (xs : List X) (names : List (List ℕ)) (k : ℕ) (x : X) → map f xs ≡ names
    → k < length xs → x ≡ get_or xs k x → slice_get names k ≡ Some (f x)
name_at f xs names k x made inside here =
    ap (λ ns. slice_get ns k) (sym made) ∙ slice_get-map f xs k ∙ ap (option_map f) (slice_get-get_or xs k x inside)
    ∙ ap (λ y. Some (f y)) (sym here)

pub none_below_more : (names : List (List ℕ)) (name other : List ℕ) (n : ℕ) → HasNoNumberBelow names name n
    → slice_get names n ≡ Some other → (other ≡ name → ⊥) → HasNoNumberBelow names name (suc n)
none_below_more names name other n before here apart = record { none = λ m h e. by_order m e (cases_lt m n) h }
  where
    by_order : (m : ℕ) → slice_get names m ≡ Some name → (m < n) ⊎ (n ≤ m) → m < suc n → ⊥
    by_order m e (inl low) h = before.none m low e
    by_order m e (inr high) h =
        let same : m ≡ n = omega arith in
        let there : slice_get names n ≡ Some name = subst (λ i. slice_get names i ≡ Some name) same e in
        apart (some_once (sym here ∙ there))

-- a name without a number below the length isn't there
pub not_among : (names : List (List ℕ)) (name : List ℕ) (n : ℕ) → length names ≤ n → HasNoNumberBelow names name n
    → Contains names name → ⊥
not_among names name n past before (k, inside, here) =
    before.none k (omega arith) (slice_get-get_or names k name inside ∙ ap Some here)

among : (names : List (List ℕ)) (name : List ℕ) (k : ℕ) → slice_get names k ≡ Some name → Contains names name
among names name k e =
    let inside : k < length names = slice_get_within names k name e in
    (k, inside, some_once (sym (slice_get-get_or names k name inside) ∙ e))

-- a number in the longer list is one of the old ones, or the last
old_or_last : (names : List (List ℕ)) (name : List ℕ) (k : ℕ) (x : List ℕ) → slice_get (names ++ name ∷ []) k ≡ Some x
    → (slice_get names k ≡ Some x) ⊎ ((k ≡ length names) × (x ≡ name))
old_or_last [] name zero x e = inr (refl, some_once (sym e))
old_or_last [] name (suc k) x e = absurd (cc)
old_or_last (n ∷ ns) name zero x e = inl e
old_or_last (n ∷ ns) name (suc k) x e = elim (old_or_last ns name k x e) [
  | inl h ↦ inl h
  | inr h ↦ inr (ap suc h.0, h.1)
]

pub apart_more : (names : List (List ℕ)) (name : List ℕ) → AreApart names → (Contains names name → ⊥)
    → AreApart (names ++ name ∷ [])
apart_more names name apart new = record {
  same = λ x m n e f. both x m n (old_or_last names name m x e) (old_or_last names name n x f);
}
  where
    both : (x : List ℕ) (m n : ℕ) → (slice_get names m ≡ Some x) ⊎ ((m ≡ length names) × (x ≡ name))
        → (slice_get names n ≡ Some x) ⊎ ((n ≡ length names) × (x ≡ name)) → m ≡ n
    both x m n (inl e) (inl f) = apart.same x m n e f
    both x m n (inl e) (inr f) = absurd (new (among names name m (subst (λ y. slice_get names m ≡ Some y) f.1 e)))
    both x m n (inr e) (inl f) = absurd (new (among names name n (subst (λ y. slice_get names n ≡ Some y) e.1 f)))
    both x m n (inr e) (inr f) = e.0 ∙ sym f.0

pub names_more : (names : List (List ℕ)) (name : List ℕ) → AreNames names → length names < 2 ^ 32 - 1
    → (Contains names name → ⊥) → AreNames (names ++ name ∷ [])
names_more names name all room new = record {
  apart = apart_more names name all.apart new;
  few = let long = length-append names (name ∷ []) in omega (arith, long);
}

-- the names of a list that has grown by one element whose name is new
pub names_pushed : {X : Type 0} (f : X → List ℕ) (xs ys : List X) (x : X) (names : List (List ℕ)) (name : List ℕ)
    → map f xs ≡ names → f x ≡ name → ys ≡ xs ++ x ∷ [] → AreNames (map f xs) → length names < 2 ^ 32 - 1
    → (Contains names name → ⊥) → AreNames (map f ys)
names_pushed f xs ys x names name made named grown all room new =
    let long : map f ys ≡ names ++ name ∷ [] = ap (map f) grown ∙ map-append f xs (x ∷ [])
    ∙ ap (λ ns. ns ++ f x ∷ []) made ∙ ap (λ n. names ++ n ∷ []) named in
    subst AreNames (sym long) (names_more names name (subst AreNames made all) room new)
