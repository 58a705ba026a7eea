-- Lists that rise: one for each property, and one for each listing.
use Rattle.std.proofs.Common.{◌≡◌, ◌⊎◌, inl, inr, slice_get, ℕ, zero, suc, ◌<◌, List, [], ◌∷◌, Some, refl, sym, ap}
use Rattle.std.proofs.Common.{subst, ◌∙◌, arith}
use Rattle.std.specs.Cmp.{IsTotalOrder}
use Rattle.std.specs.Ordering.{ordering_reverse}
use Rattle.std.specs.declared.cmp.Ordering.{Ordering}
use Rattle.std.specs.declared.cmp.Ordering.TheVariants.{Less, Equal, Greater}
use Rattle.std.proofs.lemmas.Cmp.{tied_itself}
use Rattle.bn_lists.specs.Lists.{Has}
use Rattle.bn_lists.proofs.MemberLemmas.{member_at}
use Rattle.bn_network.proofs.ListedLemmas.{Listing}
use Rattle.bn_network.proofs.NumberLemmas.{by_order}

module _ {A : Type 0} (cmp : A → A → Ordering) (order : IsTotalOrder cmp) where
  -- nothing is before itself
  pub strict : (x : A) → cmp x x ≡ Less → ⊥
  strict x h = let tie = tied_itself order x in cc

  -- the elements rise, by their places
  abbrev pub Rises : List A → Type 0
  Rises l = (i j : ℕ) (x y : A) → i < j → slice_get l i ≡ Some x → slice_get l j ≡ Some y → cmp x y ≡ Less

  -- each element of the first list is one of the second
  abbrev pub IsWithin : List A → List A → Type 0
  IsWithin l k = (n : ℕ) (x : A) → slice_get l n ≡ Some x → (j : ℕ) × (slice_get k j ≡ Some x)

  -- lists that rise and have the same elements are one
  pub one_order : (l k : List A) → Rises l → Rises k → IsWithin l k → IsWithin k l → l ≡ k
  one_order [] [] sl sk f g = refl
  one_order [] (y ∷ k) sl sk f g = absurd (let h = g 0 y refl in let e = h.1 in cc)
  one_order (x ∷ l) [] sl sk f g = absurd (let h = f 0 x refl in let e = h.1 in cc)
  one_order (x ∷ l) (y ∷ k) sl sk f g =
      let there = f 0 x refl in
      let here = g 0 y refl in
      let first = heads there.0 here.0 there.1 here.1 in
      let rest = one_order l k (λ i j a b h. sl (suc i) (suc j) a b (omega arith))
      (λ i j a b h. sk (suc i) (suc j) a b (omega arith)) (within_l first) (within_k first) in
      λ i. first i ∷ rest i
    where
      heads : (j i : ℕ) → slice_get (y ∷ k) j ≡ Some x → slice_get (x ∷ l) i ≡ Some y → x ≡ y
      heads zero i e d = cc
      heads (suc j) zero e d = cc
      heads (suc j) (suc i) e d = absurd (strict x (order.trans x y x (sl 0 (suc i) x y (omega arith) refl d)
          (sk 0 (suc j) y x (omega arith) refl e)))

      within_l : x ≡ y → IsWithin l k
      within_l first n z e = go (f (suc n) z e).0 (f (suc n) z e).1
        where
          go : (j : ℕ) → slice_get (y ∷ k) j ≡ Some z → (j : ℕ) × (slice_get k j ≡ Some z)
          go zero d = let same : z ≡ x = cc in let low = sl 0 (suc n) x z (omega arith) refl e in absurd
              (strict x (subst (λ v. cmp x v ≡ Less) same low))
          go (suc j) d = (j, d)

      within_k : x ≡ y → IsWithin k l
      within_k first n z e = go (g (suc n) z e).0 (g (suc n) z e).1
        where
          go : (j : ℕ) → slice_get (x ∷ l) j ≡ Some z → (j : ℕ) × (slice_get l j ≡ Some z)
          go zero d = let same : z ≡ y = cc in let low = sk 0 (suc n) y z (omega arith) refl e in absurd
              (strict y (subst (λ v. cmp y v ≡ Less) same low))
          go (suc j) d = (j, d)

  -- in a list that rises an element has one place
  pub one_place : (l : List A) → Rises l → (i j : ℕ) (x : A) → slice_get l i ≡ Some x → slice_get l j ≡ Some x → i ≡ j
  one_place l rises i j x e d = elim (by_order i j) [
    | inl low ↦ absurd (strict x (rises i j x x low e d))
    | inr rest ↦ elim rest [ inl high ↦ absurd (strict x (rises j i x x high d e)) | inr is ↦ is ]
  ]

  -- each element is before those behind it
  abbrev pub IsSorted : List A → Type 0
  IsSorted [] = Unit {0}
  IsSorted (x ∷ l) = ((y : A) → Has l y → cmp x y ≡ Less) × IsSorted l

  -- such a list rises
  pub sorted_rises : (l : List A) → IsSorted l → Rises l
  sorted_rises [] s i j x y h e d = absurd (cc)
  sorted_rises (z ∷ l) s i zero x y h e d = absurd (omega arith)
  sorted_rises (z ∷ l) s zero (suc j) x y h e d = let first : z ≡ x =
      cc in subst (λ v. cmp v y ≡ Less) first (s.0 y (member_at l j y d))
  sorted_rises (z ∷ l) s (suc i) (suc j) x y h e d = sorted_rises l s.1 i j x y (omega arith) e d

  -- a list that rises and has these elements
  pub record Order (P : A → Type 0) : Type 0 where
    pub items : List A
    pub sorted : IsSorted items
    pub each : (x : A) → P x → Has items x
    pub only : (x : A) → Has items x → P x

  -- a list that rises and has one element more
  record Inserted (x : A) (l : List A) : Type 0 where
    items : List A
    sorted : IsSorted items
    here : Has items x
    others : (y : A) → Has l y → Has items y
    only : (y : A) → Has items y → (y ≡ x) ⊎ Has l y

  -- an element more, where those that tie with it are it
  inserted : (x : A) (l : List A) → IsSorted l → ((y : A) → Has l y → cmp x y ≡ Equal → x ≡ y) → Inserted x l
  inserted x [] s tied = record {
    items = x ∷ [];
    sorted = (λ y h. absurd h, tt);
    here = inl refl;
    others = λ y h. absurd h;
    only = λ y h. h;
  }
  inserted x (y ∷ l) s tied = by (inserted x l s.1 (λ z h. tied z (inr h))) (cmp x y) refl
    where
      ahead : cmp x y ≡ Less → (z : A) → Has (y ∷ l) z → cmp x z ≡ Less
      ahead e z (inl is) = subst (λ v. cmp x v ≡ Less) (sym is) e
      ahead e z (inr h) = order.trans x y z e (s.0 z h)

      behind : cmp y x ≡ Less → (z : A) → (z ≡ x) ⊎ Has l z → cmp y z ≡ Less
      behind e z (inl is) = subst (λ v. cmp y v ≡ Less) (sym is) e
      behind e z (inr h) = s.0 z h

      kept : (r : Inserted x l) (z : A) → Has (y ∷ l) z → Has (y ∷ r.items) z
      kept r z (inl is) = inl is
      kept r z (inr h) = inr (r.others z h)

      from : (r : Inserted x l) (z : A) → Has (y ∷ r.items) z → (z ≡ x) ⊎ Has (y ∷ l) z
      from r z (inl is) = inr (inl is)
      from r z (inr h) = elim (r.only z h) [ inl is ↦ inl is | inr more ↦ inr (inr more) ]

      by : Inserted x l → (o : Ordering) → cmp x y ≡ o → Inserted x (y ∷ l)
      by r Less e = record {
        items = x ∷ (y ∷ l);
        sorted = (ahead e, s);
        here = inl refl;
        others = λ z h. inr h;
        only = λ z h. h;
      }
      by r Equal e = record {
        items = y ∷ l;
        sorted = s;
        here = inl (tied y (inl refl) e);
        others = λ z h. h;
        only = λ z h. inr h;
      }
      by r Greater e =
          let low : cmp y x ≡ Less = order.antisymm y x ∙ ap ordering_reverse e in
          record {
            items = y ∷ r.items;
            sorted = (λ z h. behind low z (r.only z h), r.sorted);
            here = inr r.here;
            others = kept r;
            only = from r;
          }

  -- the elements of a list in order, where those that tie are one
  sorted_list : (l : List A) → ((x y : A) → Has l x → Has l y → cmp x y ≡ Equal → x ≡ y) → Order (λ x. Has l x)
  sorted_list [] tied = record { items = []; sorted = tt; each = λ x h. h; only = λ x h. h }
  sorted_list (a ∷ l) tied =
      let rest = sorted_list l (λ x y h k. tied x y (inr h) (inr k)) in
      let more = inserted a rest.items rest.sorted (λ y h. tied a y (inl refl) (inr (rest.only y h))) in
      record { items = more.items; sorted = more.sorted; each = each rest more; only = only rest more }
    where
      each : (rest : Order (λ x. Has l x)) (more : Inserted a rest.items) (x : A) → Has (a ∷ l) x → Has more.items x
      each rest more x (inl e) = subst (λ v. Has more.items v) (sym e) more.here
      each rest more x (inr h) = more.others x (rest.each x h)

      only : (rest : Order (λ x. Has l x)) (more : Inserted a rest.items) (x : A) → Has more.items x → Has (a ∷ l) x
      only rest more x h = elim (more.only x h) [ inl e ↦ inl e | inr k ↦ inr (rest.only x k) ]

  -- what is listed can be put in order, where those that tie are one
  pub order_of : (P : A → Type 0) → Listing P → ((x y : A) → P x → P y → cmp x y ≡ Equal → x ≡ y) → Order P
  order_of P all tied =
      let done = sorted_list all.items (λ x y h k. tied x y (all.only x h) (all.only y k)) in
      record {
        items = done.items;
        sorted = done.sorted;
        each = λ x h. done.each x (all.each x h);
        only = λ x h. all.only x (done.only x h);
      }
