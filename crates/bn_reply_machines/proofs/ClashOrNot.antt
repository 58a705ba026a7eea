-- Of quadruples no two overlap, or there are a least two that do.
use Rattle.std.proofs.Common.{◌≡◌, ℕ, zero, suc, ◌+◌, ◌<◌, ◌≤◌, List, length, get_or, ◌⊎◌, inl, inr, arith}
use Rattle.std.proofs.lemmas.Bool.Decides.{eqb_tells}
use Rattle.bn_lists.specs.Lists.{nth}
use Rattle.bn_lists.proofs.ListLemmas.{nth-get_or}
use Rattle.bn_machine.specs.declared.quint.Shift.TheVariants.{Stay}
use Rattle.std.specs.Prelude.{Some}
use Rattle.bn_quad.specs.Quadruples.{Deed, Rewrite, Move, Rule, deeds_of}
use Rattle.bn_quad.specs.Overlap.{MeetsInDomain, MeetsInRange, OnEachTape, OverlapsInDomain, OverlapsInRange}
use Rattle.bn_quad.specs.Overlap.{QuadruplesClash, HasNoClash, IsLeastClash}
use Rattle.bn_quad.specs.Search.{HasNoPartner, IsLeastPartner}
use Rattle.bn_quad.proofs.SearchLemmas.{HasNoPartnerBefore, HasNoClashBefore, least_clash, least_partner, no_clash}
use Rattle.bn_quad.proofs.SearchLemmas.{no_clash_before_one}
use Rattle.bn_quad.proofs.SearchLemmas.{no_clash_more, no_partner, no_partner_at_start, no_partner_more}
use Rattle.bn_quad.specs.declared.clash.Clash.{Clash}

-- ---- two quadruples

pub same : (a b : ℕ) → (a ≡ b) ⊎ (a ≡ b → ⊥)
same a b = elim (eqb_tells a b) [ inl h ↦ inl h.1 | inr h ↦ inr h.1 ]

pub both : (P Q : Type 0) → P ⊎ (P → ⊥) → Q ⊎ (Q → ⊥) → (P × Q) ⊎ (P × Q → ⊥)
both P Q (inr never) q = inr (λ h. never h.0)
both P Q (inl p) (inr never) = inr (λ h. never h.1)
both P Q (inl p) (inl q) = inl (p, q)

meets_in_domain : (d e : Deed) → MeetsInDomain d e ⊎ (MeetsInDomain d e → ⊥)
meets_in_domain (Rewrite r w) (Rewrite s v) = same r s
meets_in_domain (Rewrite r w) (Move s) = inl tt
meets_in_domain (Move s) (Rewrite r w) = inl tt
meets_in_domain (Move s) (Move t) = inl tt

meets_in_range : (d e : Deed) → MeetsInRange d e ⊎ (MeetsInRange d e → ⊥)
meets_in_range (Rewrite r w) (Rewrite s v) = same w v
meets_in_range (Rewrite r w) (Move s) = inl tt
meets_in_range (Move s) (Rewrite r w) = inl tt
meets_in_range (Move s) (Move t) = inl tt

pub on_each_tape : (R : Deed → Deed → Type 0) → ((d e : Deed) → R d e ⊎ (R d e → ⊥)) → (r s : Rule ℕ) →
    OnEachTape R (deeds_of r) (deeds_of s) ⊎ (OnEachTape R (deeds_of r) (deeds_of s) → ⊥)
on_each_tape R test r s = both _ _ (test r.one s.one) (both _ _ (test r.two s.two)
    (both _ _ (test r.three s.three) (inl tt)))

pub overlap_in_domain : (r s : Rule ℕ) → OverlapsInDomain r s ⊎ (OverlapsInDomain r s → ⊥)
overlap_in_domain r s = elim (both _ _ (same r.from s.from) (on_each_tape MeetsInDomain meets_in_domain r s)) [
  | inl h ↦ inl (record { from = h.0; tapes = h.1 })
  | inr never ↦ inr (λ h. never (h.from, h.tapes))
]

pub overlap_in_range : (r s : Rule ℕ) → OverlapsInRange r s ⊎ (OverlapsInRange r s → ⊥)
overlap_in_range r s = elim (both _ _ (same r.to s.to) (on_each_tape MeetsInRange meets_in_range r s)) [
  | inl h ↦ inl (record { to = h.0; tapes = h.1 })
  | inr never ↦ inr (λ h. never (h.to, h.tapes))
]

-- ---- all pairs

-- a quadruple to name where there is none
nought : Rule ℕ
nought = record { from = 0; one = Move Stay; two = Move Stay; three = Move Stay; to = 0 }

module _ (clash : Clash) (test : (r s : Rule ℕ) → QuadruplesClash clash r s ⊎ (QuadruplesClash clash r s → ⊥))
    (rs : List (Rule ℕ)) where
  partner_from : (i : ℕ) (r : Rule ℕ) → nth rs i ≡ Some r → (fuel n : ℕ) → n + fuel ≡ length rs → i ≤ n
      → HasNoPartnerBefore clash rs i (suc n) →
      HasNoPartner clash rs i ⊎ ((j : ℕ) × IsLeastPartner clash rs i j)
  partner_from i r here zero n sum behind before = inl (no_partner clash rs i (suc n) (omega arith) before)
  partner_from i r here (suc fuel) n sum behind before =
      let inside : n < length rs = omega arith in
      let next : suc n + fuel ≡ length rs = omega arith in
      let order : i < suc n = omega arith in
      let there = nth-get_or rs n nought inside in
      elim (test r (get_or rs n nought)) [
        | inl clashes ↦ inr (
          suc n,
          least_partner clash rs i (suc n) r (get_or rs n nought) order before here there clashes,
        )
        | inr apart ↦ partner_from i r here fuel (suc n) next (omega arith)
            (no_partner_more clash rs i (suc n) r (get_or rs n nought) before here there apart)
      ]

  clash_from : (fuel n : ℕ) → n + fuel ≡ length rs → HasNoClashBefore clash rs (suc n)
      → HasNoClash clash rs ⊎ ((i : ℕ) × (j : ℕ) × IsLeastClash clash rs i j)
  clash_from zero n sum before = inl (no_clash clash rs (suc n) (omega arith) before)
  clash_from (suc fuel) n sum before =
      let inside : n < length rs = omega arith in
      let next : suc n + fuel ≡ length rs = omega arith in
      elim (partner_from (suc n) (get_or rs n nought) (nth-get_or rs n nought inside) fuel (suc n) next (omega arith)
      (no_partner_at_start clash rs (suc n))) [
        | inl none ↦ clash_from fuel (suc n) next (no_clash_more clash rs (suc n) before none)
        | inr some ↦ inr (suc n, some.0, least_clash clash rs (suc n) some.0 before some.1)
      ]

  pub clash_or_none : HasNoClash clash rs ⊎ ((i : ℕ) × (j : ℕ) × IsLeastClash clash rs i j)
  clash_or_none = clash_from (length rs) 0 (omega arith) (no_clash_before_one clash rs)
