-- Where a state of a control is found among them.
use Rattle.std.proofs.Common.{◌≡◌, inl, inr, get_or, slice_get, ℕ, ◌<◌, ◌≤◌, List, map, length, Option, Some, None}
use Rattle.std.proofs.Common.{option_map, refl, sym, ap, subst, ◌∙◌, arith}
use Rattle.std.specs.List.{HoldsAt}
use Rattle.std.specs.List.Sorted.{IsNonDecreasingBy, IsPartitionPoint}
use Rattle.std.specs.Ordering.{ordering_index}
use Rattle.std.specs.declared.cmp.Ordering.{Ordering}
use Rattle.std.specs.declared.cmp.Ordering.TheVariants.{Less, Equal, Greater}
use Rattle.std.proofs.lemmas.Bool.{cases_lt}
use Rattle.std.proofs.lemmas.Cmp.{alike_right, tied_itself}
use Rattle.std.proofs.lemmas.Option.{slice_get-map, slice_get-get_or, slice_get_within, get_or_from_slice_get}
use Rattle.bn_network.specs.Controls.{ControlState, Occurs}
use Rattle.bn_quad.specs.Quadruples.{Quadruples}
use Rattle.bn_network.proofs.KeyLemmas.{by_key, keys_ordered, ties_one}
use Rattle.bn_control.specs.declared.name.StateName.{StateName}
use Rattle.bn_control.specs.Names.{state_of, IsProper}
use Rattle.bn_control.specs.Ordered.{AreOrdered}
use Rattle.bn_control.proofs.KeyLemmas.{cmp, same_order}

-- the state that is kept at a number
pub named_at : (ss : List StateName) (n : ℕ) (x : StateName) → slice_get ss n ≡ Some x
    → slice_get (map state_of ss) n ≡ Some (state_of x)
named_at ss n x e = slice_get-map state_of ss n ∙ ap (option_map state_of) e

-- and the other way
pub kept_at : (ss : List StateName) (n : ℕ) (q : ControlState) → slice_get (map state_of ss) n ≡ Some q
    → (x : StateName) × (slice_get ss n ≡ Some x) × (state_of x ≡ q)
kept_at ss n q e = by (slice_get ss n) refl
  where
    by : (o : Option StateName) → slice_get ss n ≡ o → (x : StateName) × (slice_get ss n ≡ Some x) × (state_of x ≡ q)
    by None f = absurd (let g = sym e ∙ slice_get-map state_of ss n ∙ ap (option_map state_of) f in cc)
    by (Some x) f = (x, f, (let g = sym (slice_get-map state_of ss n ∙ ap (option_map state_of) f) ∙ e in cc))

most : (o : Ordering) → ordering_index o ≤ 2
most Less = omega arith
most Equal = omega arith
most Greater = omega arith

-- what is before another is before, at or behind a third no later
index_rises : (x y z : ControlState) → by_key x y ≡ Less → ordering_index (by_key x z) ≤ ordering_index (by_key y z)
index_rises x y z h = by (by_key y z) refl
  where
    by : (o : Ordering) → by_key y z ≡ o → ordering_index (by_key x z) ≤ ordering_index (by_key y z)
    by Less e = let low = keys_ordered.trans x y z h e in rw (low, e) (omega arith)
    by Equal e = let low = sym (alike_right keys_ordered y z x e) ∙ h in rw (low, e) (omega arith)
    by Greater e = rw e (most (by_key x z))

module _ (m : Quadruples) (ss : List StateName) (ordered : AreOrdered m ss) (x : StateName)
    (occurs : Occurs m (state_of x)) (proper : IsProper x) where
  -- what a look-up compares
  same_at : (n : ℕ) (y : StateName) → slice_get ss n ≡ Some y → cmp y x ≡ by_key (state_of y) (state_of x)
  same_at n y e = same_order y x (ordered.proper n y e) proper

  -- the answers of a search rise along the states
  rising : IsNonDecreasingBy (λ y. ordering_index (cmp y x)) ss
  rising i j d low few = elim (cases_lt i j) [
    | inl before ↦ (
        let here = slice_get-get_or ss i d (omega arith) in
        let there = slice_get-get_or ss j d few in
        let less = ordered.numbering.rising_keys i j (state_of (get_or ss i d)) (state_of (get_or ss j d)) before
        (named_at ss i (get_or ss i d) here) (named_at ss j (get_or ss j d) there) in
        rw (same_at i (get_or ss i d) here, same_at j (get_or ss j d) there)
        (index_rises (state_of (get_or ss i d)) (state_of (get_or ss j d)) (state_of x) less))
    | inr not ↦ (let same : i ≡ j = omega arith in rw same (omega arith))
  ]

  -- what is found is the state
  pub found : (n : ℕ) → n < length ss → HoldsAt (λ y. cmp y x ≡ Equal) ss n
      → slice_get (map state_of ss) n ≡ Some (state_of x)
  found n few tie =
      let here = slice_get-get_or ss n x few in
      let y = get_or ss n x in
      let equal : by_key (state_of (get_or ss n x)) (state_of x) ≡ Equal =
      sym (same_at n (get_or ss n x) here) ∙ tie x in
      let same = ties_one m (state_of (get_or ss n x)) (state_of x)
      (ordered.numbering.only n (state_of (get_or ss n x)) (named_at ss n (get_or ss n x) here)) occurs equal in
      named_at ss n (get_or ss n x) here ∙ ap (λ q. Some q) same

  -- and it is found
  pub not_missing : (n : ℕ) → n ≤ length ss → (IsNonDecreasingBy (λ y. ordering_index (cmp y x)) ss
      → IsPartitionPoint (λ y. cmp y x ≡ Less) (λ y. cmp y x ≡ Greater) ss n) → ⊥
  not_missing n few apart =
      let there = ordered.numbering.each (state_of x) occurs in
      let kept = kept_at ss there.0 (state_of x) there.1 in
      let equal : cmp kept.0 x ≡ Equal = same_at there.0 kept.0 kept.1 ∙ ap (λ q. by_key q (state_of x)) kept.2
      ∙ tied_itself keys_ordered (state_of x) in
      let value = get_or_from_slice_get ss there.0 kept.0 x kept.1 in
      let at = apart rising in
      let low = slice_get_within ss there.0 kept.0 kept.1 in
      elim (cases_lt there.0 n) [
        | inl before ↦ (let less = at.0 there.0 x (omega arith) before in let e : cmp kept.0 x
            ≡ Less = subst (λ v. cmp v x ≡ Less) value less in let both = sym e ∙ equal in cc)
        | inr not ↦ (let more = at.1 there.0 x not low in let e : cmp kept.0 x
            ≡ Greater = subst (λ v. cmp v x ≡ Greater) value more in let both = sym e ∙ equal in cc)
      ]
