-- The names of a control's states, put in order.
use Rattle.std.proofs.Common.{◌≡◌, get_or, slice_get, ℕ, ◌<◌, List, map, Some, sym, ap, subst, ◌∙◌, Contains}
use Rattle.std.specs.List.{Any}
use Rattle.std.specs.List.Sorted.{IsStrictlySortedBy}
use Rattle.std.specs.declared.cmp.Ordering.TheVariants.{Less, Equal}
use Rattle.std.proofs.lemmas.Map.Keys.{Less-from_sorted}
use Rattle.std.proofs.lemmas.Option.{slice_get-get_or, slice_get_within, get_or_from_slice_get}
use Rattle.bn_quad.specs.Quadruples.{Quadruples}
use Rattle.bn_network.specs.Controls.{ControlState, Occurs}
use Rattle.bn_network.proofs.KeyLemmas.{by_key, ties_one}
use Rattle.bn_lists.specs.Lists.{Has}
use Rattle.bn_lists.proofs.MemberLemmas.{place_of, member_at}
use Rattle.bn_control.specs.declared.name.StateName.{StateName}
use Rattle.bn_control.specs.Names.{state_of}
use Rattle.bn_control.specs.Ordered.{AreNames, AreOrdered}
use Rattle.bn_control.proofs.KeyLemmas.{cmp, same_order}
use Rattle.bn_control.proofs.SearchLemmas.{named_at, kept_at}

-- ---- elements of a list, in std's word

pub from_contained : {A : Type 0} (xs : List A) (x : A) → Contains xs x → Has xs x
from_contained xs x h = member_at xs h.0 x (slice_get-get_or xs h.0 x h.1 ∙ ap (λ y. Some y) h.2)

pub contained : {A : Type 0} (xs : List A) (x : A) → Has xs x → Contains xs x
contained xs x h = let at = place_of xs x h in (
  at.0,
  slice_get_within xs at.0 x at.1,
  get_or_from_slice_get xs at.0 x x at.1,
)

-- ---- in their order

module _ (m : Quadruples) (raw ss : List StateName) (names : AreNames m raw) (strict : IsStrictlySortedBy cmp ss)
    (all : (x : StateName) → Contains raw x → Any (λ y. cmp x y ≡ Equal) ss)
    (only : (x : StateName) → Contains ss x → Contains raw x) where
  among : (n : ℕ) (x : StateName) → slice_get ss n ≡ Some x → Has raw x
  among n x e = from_contained raw x (only x (contained ss x (member_at ss n x e)))

  at_place : (q : ControlState) → Occurs m q → (n : ℕ) × (slice_get (map state_of ss) n ≡ Some q)
  at_place q occurs =
      let kept = names.each q occurs in
      let tie = all kept.0 (contained raw kept.0 kept.1) in
      let here : slice_get ss tie.0 ≡ Some tie.1 = slice_get-get_or ss tie.0 tie.1 tie.2 ∙ ap (λ y. Some y) tie.3 in
      let there = among tie.0 tie.1 here in
      let equal : by_key (state_of kept.0) (state_of tie.1) ≡ Equal =
      sym (same_order kept.0 tie.1 (names.proper kept.0 kept.1) (names.proper tie.1 there)) ∙ tie.4 in
      let same = ties_one m (state_of kept.0) (state_of tie.1) (names.only kept.0 kept.1) (names.only tie.1 there) equal
      in
      (tie.0, named_at ss tie.0 tie.1 here ∙ ap (λ r. Some r) (sym same ∙ kept.2))

  pub in_their_order : AreOrdered m ss
  in_their_order = record {
    proper = λ n x e. names.proper x (among n x e);
    numbering = record {
      each = at_place;
      only = λ n q e. (let kept = kept_at ss n q e in subst (Occurs m) kept.2
          (names.only kept.0 (among n kept.0 kept.1)));
      rising_keys = rising;
    };
  }
    where
      rising : (i j : ℕ) (q r : ControlState) → i < j → slice_get (map state_of ss) i ≡ Some q
          → slice_get (map state_of ss) j ≡ Some r → by_key q r ≡ Less
      rising i j q r low e d =
          let a = kept_at ss i q e in
          let b = kept_at ss j r d in
          let few = slice_get_within ss j b.0 b.1 in
          let less = Less-from_sorted cmp ss i j a.0 strict low few in
          let first : get_or ss i a.0 ≡ a.0 = get_or_from_slice_get ss i a.0 a.0 a.1 in
          let second : get_or ss j a.0 ≡ b.0 = get_or_from_slice_get ss j b.0 a.0 b.1 in
          let less' : cmp a.0 b.0 ≡ Less = (λ v. cmp (sym first v) (sym second v)) ∙ less in
          let keys = sym (same_order a.0 b.0 (names.proper a.0 (among i a.0 a.1))
          (names.proper b.0 (among j b.0 b.1))) ∙ less' in
          (λ v. by_key (sym a.2 v) (sym b.2 v)) ∙ keys
