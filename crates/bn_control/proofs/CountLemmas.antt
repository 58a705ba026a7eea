-- How many states are of a kind.
use Rattle.std.proofs.Common.{◌≡◌, ◌⊎◌, inl, inr, slice_get, ℕ, zero, suc, ◌+◌, List, [], ◌∷◌, ◌++◌, length, Some, refl}
use Rattle.std.proofs.Common.{sym, ap, subst, ◌∙◌, length-append}
use Rattle.std.proofs.lemmas.Bool.Decides.{eqb_tells}
use Rattle.bn_quad.specs.Quadruples.{Quadruples}
use Rattle.bn_network.specs.Controls.{ControlState, Begin, End, Reads, Shifts, Writes, Occurs, IsNumbering}
use Rattle.bn_lists.specs.Lists.{Has}
use Rattle.bn_lists.proofs.MemberLemmas.{place_of, member_at, in_front, behind, of_two}
use Rattle.bn_network.proofs.KeyLemmas.{by_key, keys_ordered}
use Rattle.bn_network.proofs.SortedLemmas.{one_place}
use Rattle.bn_lists.proofs.ApartLemmas.{IsApart, same_length, joined, apart_places}
use Rattle.bn_control.specs.Shown.{IsCount}

-- a list without repeats tells its places
one_place_each : (l : List ControlState) → IsApart l → (i j : ℕ) (q : ControlState) → slice_get l i ≡ Some q
    → slice_get l j ≡ Some q → i ≡ j
one_place_each [] a i j q e d = absurd (cc)
one_place_each (x ∷ l) a zero zero q e d = refl
one_place_each (x ∷ l) a zero (suc j) q e d = let same : x ≡ q =
    cc in absurd (a.0 (subst (λ y. Has l y) (sym same) (member_at l j q d)))
one_place_each (x ∷ l) a (suc i) zero q e d = let same : x ≡ q =
    cc in absurd (a.0 (subst (λ y. Has l y) (sym same) (member_at l i q e)))
one_place_each (x ∷ l) a (suc i) (suc j) q e d = ap suc (one_place_each l a.1 i j q e d)

-- a list of all states of a kind counts them
of_list : (P : ControlState → Type 0) (l : List ControlState) → IsApart l → ((q : ControlState) → P q → Has l q)
    → ((q : ControlState) → Has l q → P q) → IsCount P (length l)
of_list P l a each only = record {
  names = l;
  each = λ q h. place_of l q (each q h);
  only = λ i q e. only q (member_at l i q e);
  once = one_place_each l a;
  counted = refl;
}

-- none, one
pub none_count : (P : ControlState → Type 0) → ((q : ControlState) → P q → ⊥) → IsCount P 0
none_count P none = of_list P [] tt (λ q h. absurd (none q h)) (λ q h. absurd h)

pub one_count : (P : ControlState → Type 0) (x : ControlState) → P x → ((q : ControlState) → P q → q ≡ x) → IsCount P 1
one_count P x is only = of_list P (x ∷ []) ((λ h. h), tt) (λ q h. inl (only q h)) back
  where
    back : (q : ControlState) → Has (x ∷ []) q → P q
    back q (inl e) = subst P (sym e) is
    back q (inr h) = absurd h

-- the same kind in other words
pub same_count : (P Q : ControlState → Type 0) (n : ℕ) → ((q : ControlState) → P q → Q q)
    → ((q : ControlState) → Q q → P q) → IsCount P n → IsCount Q n
same_count P Q n forth back c = record {
  names = c.names;
  each = λ q h. c.each q (back q h);
  only = λ i q e. forth q (c.only i q e);
  once = c.once;
  counted = c.counted;
}

-- two kinds that share no state
pub both_count : (P Q : ControlState → Type 0) (n k : ℕ) → ((q : ControlState) → P q → Q q → ⊥) → IsCount P n
    → IsCount Q k → IsCount (λ q. P q ⊎ Q q) (n + k)
both_count P Q n k far a b =
    subst (IsCount (λ q. P q ⊎ Q q)) long (of_list (λ q. P q ⊎ Q q) (a.names ++ b.names) apart each only)
  where
    long : length (a.names ++ b.names) ≡ n + k
    long = length-append a.names b.names ∙ ap (λ v. v + length b.names) a.counted ∙ ap (λ v. n + v) b.counted

    first : (q : ControlState) → Has a.names q → P q
    first q h = let at = place_of a.names q h in a.only at.0 q at.1

    second : (q : ControlState) → Has b.names q → Q q
    second q h = let at = place_of b.names q h in b.only at.0 q at.1

    apart : IsApart (a.names ++ b.names)
    apart = joined a.names b.names (apart_places a.names a.once) (apart_places b.names b.once)
        (λ q h g. far q (first q h) (second q g))

    each : (q : ControlState) → P q ⊎ Q q → Has (a.names ++ b.names) q
    each q (inl h) = let at = a.each q h in in_front a.names b.names q (member_at a.names at.0 q at.1)
    each q (inr h) = let at = b.each q h in behind a.names b.names q (member_at b.names at.0 q at.1)

    only : (q : ControlState) → Has (a.names ++ b.names) q → P q ⊎ Q q
    only q h = elim (of_two a.names b.names q h) [ inl x ↦ inl (first q x) | inr y ↦ inr (second q y) ]

-- a numbering is as long as the states are many
pub numbering_count : (m : Quadruples) (n : ℕ) → IsCount (Occurs m) n → (names : List ControlState)
    → IsNumbering m names → n ≡ length names
numbering_count m n c names numbering =
    sym c.counted
    ∙ same_length c.names names (apart_places c.names c.once) (apart_places names
    (λ i j x e d. one_place by_key keys_ordered names numbering.rising_keys i j x e d))
    (λ x h. let at = place_of c.names x h in let there = numbering.each x (c.only at.0 x at.1) in member_at names
    there.0 x there.1)
    (λ x h. let at = place_of names x h in let there = c.each x (numbering.only at.0 x at.1) in member_at c.names
    there.0 x there.1)

-- ---- a state is of a kind that has been counted, or it isn't

lists_same : (l k : List ℕ) → (l ≡ k) ⊎ (l ≡ k → ⊥)
lists_same [] [] = inl refl
lists_same [] (y ∷ k) = inr (λ e. cc)
lists_same (x ∷ l) [] = inr (λ e. cc)
lists_same (x ∷ l) (y ∷ k) = elim (eqb_tells x y) [
  | inl head ↦ elim (lists_same l k) [ inl tail ↦ inl (λ i. head.1 i ∷ tail i) | inr other ↦ inr (λ e. other (cc)) ]
  | inr other ↦ inr (λ e. let head : x ≡ y = cc in other.1 head)
]

-- a state as a word of numbers, and back
abbrev code : ControlState → List ℕ
code Begin = 0 ∷ []
code End = 1 ∷ []
code (Reads a s) = 2 ∷ (a ∷ s)
code (Shifts n t) = 3 ∷ (n ∷ (t ∷ []))
code (Writes a t u) = 4 ∷ (a ∷ (t ∷ u))

abbrev decode : List ℕ → ControlState
decode (suc zero ∷ l) = End
decode (suc (suc zero) ∷ (a ∷ s)) = Reads a s
decode (suc (suc (suc zero)) ∷ (n ∷ (t ∷ l))) = Shifts n t
decode (suc (suc (suc (suc zero))) ∷ (a ∷ (t ∷ u))) = Writes a t u
decode _ = Begin

decoded : (q : ControlState) → decode (code q) ≡ q
decoded Begin = refl
decoded End = refl
decoded (Reads a s) = refl
decoded (Shifts n t) = refl
decoded (Writes a t u) = refl

states_same : (q r : ControlState) → (q ≡ r) ⊎ (q ≡ r → ⊥)
states_same q r = elim (lists_same (code q) (code r)) [
  | inl e ↦ inl (sym (decoded q) ∙ ap decode e ∙ decoded r)
  | inr ne ↦ inr (λ e. ne (ap code e))
]

among : (q : ControlState) (l : List ControlState) → Has l q ⊎ (Has l q → ⊥)
among q [] = inr (λ h. h)
among q (x ∷ l) = elim (states_same q x) [
  | inl e ↦ inl (inl e)
  | inr ne ↦ elim (among q l) [ inl h ↦ inl (inr h) | inr not_in ↦ inr (neither ne not_in) ]
]
  where
    neither : (q ≡ x → ⊥) → (Has l q → ⊥) → Has (x ∷ l) q → ⊥
    neither ne not_in (inl e) = ne e
    neither ne not_in (inr h) = not_in h

pub decided : (P : ControlState → Type 0) (n : ℕ) → IsCount P n → (q : ControlState) → P q ⊎ (P q → ⊥)
decided P n c q = elim (among q c.names) [
  | inl h ↦ inl (let at = place_of c.names q h in c.only at.0 q at.1)
  | inr not_in ↦ inr (λ h. let at = c.each q h in not_in (member_at c.names at.0 q at.1))
]
