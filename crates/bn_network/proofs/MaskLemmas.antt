-- Masks and overlaps of quadruples, without the order of their numbers.
use Rattle.std.specs.Prelude.{◌≡◌, ℕ, List, [], ◌∷◌, Some, ◌⊎◌}
use Rattle.std.proofs.Common.{subst, inl, inr}
use Rattle.bn_lists.specs.Lists.{nth}
use Rattle.bn_lists.proofs.ListLemmas.{nth_once}
use Rattle.bn_quad.specs.Quadruples.{Deed, Rewrite, Move, Rule, deeds_of}
use Rattle.bn_quad.specs.Overlap.{IsAlike, OnEachTape, HaveSameTapes, HasNoClash}
use Rattle.bn_quad.proofs.ClashLemmas.{clash_once}
use Rattle.bn_quad.specs.declared.clash.Clash.TheVariants.{Domain, Range, Reads, Writes}
use Rattle.bn_network.specs.ControlLaws.{TapesAreSame, OverlapsAreOne}

alike_or_not : (d e : Deed) → IsAlike d e ⊎ (IsAlike d e → ⊥)
alike_or_not (Rewrite r w) (Rewrite s v) = inl tt
alike_or_not (Rewrite r w) (Move s) = inr (λ h. h)
alike_or_not (Move r) (Rewrite s v) = inr (λ h. h)
alike_or_not (Move r) (Move s) = inl tt

all_alike_or_not : (ds es : List Deed) → OnEachTape IsAlike ds es ⊎ (OnEachTape IsAlike ds es → ⊥)
all_alike_or_not [] [] = inl tt
all_alike_or_not [] (e ∷ es) = inr (λ h. h)
all_alike_or_not (d ∷ ds) [] = inr (λ h. h)
all_alike_or_not (d ∷ ds) (e ∷ es) =
    elim (alike_or_not d e) [
      | inl here ↦ elim (all_alike_or_not ds es) [ inl rest ↦ inl (here, rest) | inr none ↦ inr (λ h. none h.1) ]
      | inr none ↦ inr (λ h. none h.0)
    ]

alike_itself : (d : Deed) → IsAlike d d
alike_itself (Rewrite r w) = tt
alike_itself (Move s) = tt

same_itself : (r s : Rule ℕ) → r ≡ s → HaveSameTapes r s
same_itself r s e = subst (HaveSameTapes r) e (alike_itself r.one, (alike_itself r.two, (alike_itself r.three, tt)))

reads : (rs : List (Rule ℕ)) (i j : ℕ) (r s : Rule ℕ) → HasNoClash Reads rs → nth rs i ≡ Some r → nth rs j ≡ Some s
    → r.from ≡ s.from → HaveSameTapes r s
reads rs i j r s apart here there from =
    elim (all_alike_or_not (deeds_of r) (deeds_of s)) [
      | inl same ↦ same
      | inr other ↦
          let one : i ≡ j = clash_once Reads rs i j r s apart here there (record { from = from; apart = other }) in
          same_itself r s (nth_once rs j r s (subst (λ n. nth rs n ≡ Some r) one here) there)
    ]

writes : (rs : List (Rule ℕ)) (i j : ℕ) (r s : Rule ℕ) → HasNoClash Writes rs → nth rs i ≡ Some r → nth rs j ≡ Some s
    → r.to ≡ s.to → HaveSameTapes r s
writes rs i j r s apart here there to =
    elim (all_alike_or_not (deeds_of r) (deeds_of s)) [
      | inl same ↦ same
      | inr other ↦
          let one : i ≡ j = clash_once Writes rs i j r s apart here there (record { to = to; apart = other }) in
          same_itself r s (nth_once rs j r s (subst (λ n. nth rs n ≡ Some r) one here) there)
    ]

pub tapes-same : TapesAreSame
tapes-same = (reads, writes)

pub overlaps-one : OverlapsAreOne
overlaps-one = (
  λ rs i j r s apart here there k. clash_once Domain rs i j r s apart here there k,
  λ rs i j r s apart here there k. clash_once Range rs i j r s apart here there k,
)
