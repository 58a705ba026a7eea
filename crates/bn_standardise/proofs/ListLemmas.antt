-- Lemmas on lists of which every two elements are related, and on the quintuple that such a list finds.
use Rattle.std.specs.Prelude.{◌≡◌, ℕ, zero, suc, ◌<◌, List, [], ◌∷◌, ◌++◌, length, map, Some, ⊤}
use Rattle.std.proofs.Common.{refl, sym, subst, ◌∙◌, ap, arith, inl, inr}
use Rattle.bn_machine.specs.Machine.{final_of, Matches, IsFirstMatch}
use Rattle.bn_lists.specs.Lists.{nth, Has}
use Rattle.bn_lists.proofs.MemberLemmas.{of_two}
use Rattle.bn_machine.proofs.MachineStepLemmas.{first_match_or_none}
use Rattle.bn_machine.specs.declared.quint.Quint.{Quint}
use Rattle.bn_machine.specs.Standard.{Repeats, IsUnambiguous}

-- every element has this relation to all that stand behind it
abbrev pub Pairwise : {X : Type 0} → (X → X → Type 0) → List X → Type 0
Pairwise R [] = ⊤
Pairwise {X} R (x ∷ xs) = ((y : X) → Has xs y → R x y) × Pairwise R xs

-- what stands at a place is in the list
pub nth_in : {X : Type 0} (xs : List X) (n : ℕ) (x : X) → nth xs n ≡ Some x → Has xs x
nth_in [] zero x e = absurd (cc)
nth_in [] (suc n) x e = absurd (cc)
nth_in (y ∷ ys) zero x e = absurd (cc)
nth_in (y ∷ ys) (suc zero) x e = inl (cc)
nth_in (y ∷ ys) (suc (suc n)) x e = inr (nth_in ys (suc n) x e)

-- one place further in a longer list
pub nth_later : {X : Type 0} (y : X) (xs : List X) (n : ℕ) (x : X) → nth xs n ≡ Some x → nth (y ∷ xs) (suc n) ≡ Some x
nth_later y xs zero x e = absurd (cc)
nth_later y xs (suc n) x e = e

-- what is in the list stands at a place
pub in_nth : {X : Type 0} (xs : List X) (x : X) → Has xs x → (n : ℕ) × (nth xs n ≡ Some x)
in_nth [] x h = absurd h
in_nth (y ∷ ys) x (inl e) = (1, ap Some (sym e))
in_nth (y ∷ ys) x (inr h) = let there = in_nth ys x h in (suc there.0, nth_later y ys there.0 x there.1)

-- elements of a list of images
pub in_map_cases : {X Y : Type 0} (f : X → Y) (xs : List X) (y : Y) → Has (map f xs) y → (x : X) × Has xs x × (y ≡ f x)
in_map_cases f [] y h = absurd h
in_map_cases f (x ∷ xs) y (inl e) = (x, inl refl, e)
in_map_cases f (x ∷ xs) y (inr h) = let rest = in_map_cases f xs y h in (rest.0, inr rest.1, rest.2)

-- the image of an element is in the list of images
pub in_map : {X Y : Type 0} (f : X → Y) (xs : List X) (x : X) → Has xs x → Has (map f xs) (f x)
in_map f [] x h = absurd h
in_map f (y ∷ ys) x (inl e) = inl (ap f e)
in_map f (y ∷ ys) x (inr h) = inr (in_map f ys x h)

-- ---- pairs

-- two lists make one where every element of the first is related to every one of the second
pub pairwise_append : {X : Type 0} (R : X → X → Type 0) (xs ys : List X) → Pairwise R xs → Pairwise R ys
    → ((x y : X) → Has xs x → Has ys y → R x y) → Pairwise R (xs ++ ys)
pairwise_append R [] ys a b across = b
pairwise_append R (x ∷ xs) ys a b across = (
  λ y h. elim (of_two xs ys y h) [ inl here ↦ a.0 y here | inr there ↦ across x y (inl refl) there ],
  pairwise_append R xs ys a.1 b (λ v w h k. across v w (inr h) k),
)

-- images are related where the elements are
pub pairwise_map : {X Y : Type 0} (R : X → X → Type 0) (S : Y → Y → Type 0) (f : X → Y) (xs : List X)
    → ((x y : X) → Has xs x → Has xs y → R x y → S (f x) (f y)) → Pairwise R xs → Pairwise S (map f xs)
pairwise_map R S f [] keeps a = tt
pairwise_map {Y = Y} R S f (x ∷ xs) keeps a = (
  λ y h. let from = in_map_cases f xs y h in subst (S (f x)) (sym from.2)
      (keeps x from.0 (inl refl) (inr from.1) (a.0 from.0 from.1)),
  pairwise_map R S f xs (λ v w h k. keeps v w (inr h) (inr k)) a.1,
)

-- ---- quintuples that don't clash

-- the two quintuples don't share state and scanned symbol
abbrev pub Apart : Quint → Quint → Type 0
Apart q r = q.state ≡ r.state → q.read ≡ r.read → ⊥

-- a repeat stays one in a longer list
repeats_later : (q : Quint) (qs : List Quint) (i j : ℕ) → Repeats qs i j → Repeats (q ∷ qs) (suc i) (suc j)
repeats_later q qs i j r = record {
  first = r.first;
  second = r.second;
  first_stands = nth_later q qs i r.first r.first_stands;
  second_stands = nth_later q qs j r.second r.second_stands;
  clashes = record { before = omega (arith, r.clashes.before); state = r.clashes.state; read = r.clashes.read };
}

-- where none repeats another, every two are apart
pub unambiguous_pairwise : (qs : List Quint) → IsUnambiguous qs → Pairwise Apart qs
unambiguous_pairwise [] h = tt
unambiguous_pairwise (q ∷ qs) h = (
  λ r k state read.
      let there = in_nth qs r k in
      h.none 1 (suc there.0) (record {
        first = q;
        second = r;
        first_stands = refl;
        second_stands = nth_later q qs there.0 r there.1;
        clashes = record { before = after_one there.0 there.1; state = state; read = read };
      }),
  unambiguous_pairwise qs (record { none = λ i j r. h.none (suc i) (suc j) (repeats_later q qs i j r) }),
)
  where
    after_one : {r : Quint} (n : ℕ) → nth qs n ≡ Some r → 1 < suc n
    after_one zero e = absurd (cc)
    after_one (suc n) e = omega arith

-- where every two are apart, none repeats another
pub pairwise_unambiguous : (qs : List Quint) → Pairwise Apart qs → IsUnambiguous qs
pairwise_unambiguous [] a = record { none = λ i j r. nth_in [] i r.first r.first_stands }
pairwise_unambiguous (q ∷ qs) a = let rest = pairwise_unambiguous qs a.1 in record {
  none = λ i j r. none rest i j r.first r.second r.first_stands r.second_stands r.clashes.before r.clashes.state
      r.clashes.read;
}
  where
    none : IsUnambiguous qs → (i j : ℕ) (r s : Quint) → nth (q ∷ qs) i ≡ Some r → nth (q ∷ qs) j ≡ Some s → i < j
        → r.state ≡ s.state → r.read ≡ s.read → ⊥
    none rest zero j r s e f before state read = absurd (cc)
    none rest (suc zero) zero r s e f before state read = absurd (omega arith)
    none rest (suc zero) (suc zero) r s e f before state read = absurd (omega arith)
    none rest (suc zero) (suc (suc j)) r s e f before state read =
        let same : r ≡ q = cc in
        a.0 s (nth_in qs (suc j) s f) (ap (λ (v : Quint). v.state) (sym same) ∙ state)
        (ap (λ (v : Quint). v.read) (sym same) ∙ read)
    none rest (suc (suc i)) zero r s e f before state read = absurd (omega arith)
    none rest (suc (suc i)) (suc zero) r s e f before state read = absurd (omega arith)
    none rest (suc (suc i)) (suc (suc j)) r s e f before state read =
        rest.none (suc i) (suc j) (record {
          first = r;
          second = s;
          first_stands = e;
          second_stands = f;
          clashes = record { before = omega (arith, before); state = state; read = read };
        })

-- two that share both are one
pub apart_once : (qs : List Quint) (q r : Quint) → Pairwise Apart qs → Has qs q → Has qs r → q.state ≡ r.state
    → q.read ≡ r.read → q ≡ r
apart_once [] q r a h k state read = absurd h
apart_once (x ∷ xs) q r a (inl e) (inl f) state read = e ∙ sym f
apart_once (x ∷ xs) q r a (inl e) (inr k) state read = absurd
    (a.0 r k (ap (λ (v : Quint). v.state) (sym e) ∙ state) (ap (λ (v : Quint). v.read) (sym e) ∙ read))
apart_once (x ∷ xs) q r a (inr h) (inl f) state read = absurd
    (a.0 q h (ap (λ (v : Quint). v.state) (sym f) ∙ sym state) (ap (λ (v : Quint). v.read) (sym f) ∙ sym read))
apart_once (x ∷ xs) q r a (inr h) (inr k) state read = apart_once xs q r a.1 h k state read

-- a quintuple of the list that matches is the first that matches
pub match_found : (qs : List Quint) (q : Quint) (s a : ℕ) → Pairwise Apart qs → Has qs q → Matches q s a
    → (n : ℕ) × IsFirstMatch qs s a n q
match_found qs q s a apart h m = elim (first_match_or_none qs s a) [
  | inl found ↦
      let there = nth_in qs found.0 found.1 found.2.stands in
      let same : found.1 ≡ q = apart_once qs found.1 q apart there h (sym found.2.holds.from ∙ m.from)
      (sym found.2.holds.reads ∙ m.reads) in
      (found.0, subst (λ r. IsFirstMatch qs s a found.0 r) same found.2)
  | inr none ↦ let there = in_nth qs q h in absurd (none.none there.0 q there.1 m)
]

-- ---- the end of a list of images

-- the last image stands at the last place
pub last_stands : {X Y : Type 0} (f : X → Y) (xs : List X) (x : X)
    → nth (map f (xs ++ x ∷ [])) (length (map f (xs ++ x ∷ []))) ≡ Some (f x)
last_stands f [] x = refl
last_stands f (y ∷ []) x = refl
last_stands f (y ∷ z ∷ xs) x = last_stands f (z ∷ xs) x

-- what stands before it is one of the other images
pub early_in : {X Y : Type 0} (f : X → Y) (xs : List X) (x : X) (i : ℕ) (y : Y) → i < length (map f (xs ++ x ∷ []))
    → nth (map f (xs ++ x ∷ [])) i ≡ Some y → Has (map f xs) y
early_in f xs x zero y h e = absurd (cc)
early_in f [] x (suc i) y h e = absurd (omega arith)
early_in f (z ∷ xs) x (suc zero) y h e = inl (cc)
early_in f (z ∷ xs) x (suc (suc i)) y h e = inr (early_in f xs x (suc i) y (omega arith) e)

-- the final state is the next state of the last
pub final_last : {X : Type 0} (f : X → Quint) (xs : List X) (x : X) → final_of (map f (xs ++ x ∷ [])) ≡ (f x).next
final_last f [] x = refl
final_last f (y ∷ []) x = refl
final_last f (y ∷ z ∷ xs) x = final_last f (z ∷ xs) x
