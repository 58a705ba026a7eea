-- Searches for the least pair of quadruples that clash, and for the first quadruple with a flaw.
use Rattle.std.specs.Prelude.{◌≡◌, ℕ, zero, suc, ◌<◌, ◌≤◌, List, length, Some, ◌⊎◌}
use Rattle.std.proofs.Common.{subst, arith, inl, inr}
use Rattle.std.proofs.lemmas.Bool.{cases_lt}
use Rattle.bn_lists.specs.Lists.{AllBefore, nth}
use Rattle.bn_lists.proofs.ListLemmas.{nth_within, nth_once, all_before_more, first_at, none_to_end}
use Rattle.bn_quad.specs.Quadruples.{Rule, Configuration, AppliesTo, IsFirstRule, HasNoRule}
use Rattle.bn_quad.specs.Overlap.{QuadruplesClash, IsClash, HasNoClash, IsLeastClash, IsFlawed, HasNoFlaw, IsFirstFlaw}
use Rattle.bn_quad.specs.declared.clash.Clash.{Clash}
use Rattle.bn_quad.specs.declared.clash.Flaw.{Flaw}
use Rattle.bn_quad.specs.Search.{HasNoPartner, IsLeastPartner}

pub record HasNoPartnerBefore (clash : Clash) (rs : List (Rule ℕ)) (i n : ℕ) : Type 0 where
  pub none : (j : ℕ) → j < n → IsClash clash rs i j → ⊥

-- no quadruple before n clashes with a later one
pub record HasNoClashBefore (clash : Clash) (rs : List (Rule ℕ)) (n : ℕ) : Type 0 where
  pub none : (m j : ℕ) → m < n → IsClash clash rs m j → ⊥

pub no_partner_at_start : (clash : Clash) (rs : List (Rule ℕ)) (i : ℕ) → HasNoPartnerBefore clash rs i (suc i)
no_partner_at_start clash rs i = record { none = λ j h k. let later = k.before in omega arith }

pub no_partner_more : (clash : Clash) (rs : List (Rule ℕ)) (i n : ℕ) (r s : Rule ℕ) → HasNoPartnerBefore clash rs i n
    → nth rs i ≡ Some r → nth rs n ≡ Some s → (QuadruplesClash clash r s → ⊥) → HasNoPartnerBefore clash rs i (suc n)
no_partner_more clash rs i n r s before here there apart = record { none = λ j h k. by_order j k (cases_lt j n) h }
  where
    by_order : (j : ℕ) → IsClash clash rs i j → (j < n) ⊎ (n ≤ j) → j < suc n → ⊥
    by_order j k (inl low) h = before.none j low k
    by_order j k (inr high) h =
        let same : j ≡ n = omega arith in
        let first : k.first ≡ r = nth_once rs i k.first r k.first_stands here in
        let second : k.second ≡ s = nth_once rs n k.second s (subst (λ m. nth rs m ≡ Some k.second) same
        k.second_stands) there in
        apart (subst (λ t. QuadruplesClash clash r t) second (subst (λ t. QuadruplesClash clash t k.second) first
        k.clashes))

pub no_partner : (clash : Clash) (rs : List (Rule ℕ)) (i n : ℕ) → length rs < n → HasNoPartnerBefore clash rs i n
    → HasNoPartner clash rs i
no_partner clash rs i n past before = record {
  none = λ j k. let known : j ≤ length rs = nth_within rs j k.second k.second_stands in before.none j (omega arith) k;
}

pub least_partner : (clash : Clash) (rs : List (Rule ℕ)) (i j : ℕ) (r s : Rule ℕ) → i < j
    → HasNoPartnerBefore clash rs i j → nth rs i ≡ Some r → nth rs j ≡ Some s → QuadruplesClash clash r s
    → IsLeastPartner clash rs i j
least_partner clash rs i j r s order before here there clashes = record {
  holds = record {
    before = order;
    first = r;
    second = s;
    first_stands = here;
    second_stands = there;
    clashes = clashes;
  };
  least = before.none;
}

pub no_clash_before_one : (clash : Clash) (rs : List (Rule ℕ)) → HasNoClashBefore clash rs 1
no_clash_before_one clash rs = record { none = none }
  where
    none : (m j : ℕ) → m < 1 → IsClash clash rs m j → ⊥
    none zero j h k = let e = k.first_stands in absurd (cc)
    none (suc m) j h k = absurd (omega arith)

pub no_clash_more : (clash : Clash) (rs : List (Rule ℕ)) (n : ℕ) → HasNoClashBefore clash rs n → HasNoPartner clash rs n
    → HasNoClashBefore clash rs (suc n)
no_clash_more clash rs n before here = record { none = λ m j h k. by_order m j k (cases_lt m n) h }
  where
    by_order : (m j : ℕ) → IsClash clash rs m j → (m < n) ⊎ (n ≤ m) → m < suc n → ⊥
    by_order m j k (inl low) h = before.none m j low k
    by_order m j k (inr high) h = let same : m ≡ n = omega arith in here.none j
        (subst (λ i. IsClash clash rs i j) same k)

pub no_clash : (clash : Clash) (rs : List (Rule ℕ)) (n : ℕ) → length rs < n → HasNoClashBefore clash rs n
    → HasNoClash clash rs
no_clash clash rs n past before = record {
  none = λ i j k. let known : i ≤ length rs = nth_within rs i k.first k.first_stands in before.none i j (omega arith) k;
}

pub least_clash : (clash : Clash) (rs : List (Rule ℕ)) (i j : ℕ) → HasNoClashBefore clash rs i
    → IsLeastPartner clash rs i j → IsLeastClash clash rs i j
least_clash clash rs i j before k = record { holds = k.holds; least_first = before.none; least_second = k.least }

-- none of the quadruples before the n-th has the flaw
abbrev pub HasNoFlawBefore : Flaw → List (Rule ℕ) → ℕ → Type 0
HasNoFlawBefore flaw rs n = AllBefore (λ r. IsFlawed flaw r → ⊥) rs n

pub no_flaw_more : (flaw : Flaw) (rs : List (Rule ℕ)) (n : ℕ) (r : Rule ℕ) → HasNoFlawBefore flaw rs n
    → nth rs n ≡ Some r → (IsFlawed flaw r → ⊥) → HasNoFlawBefore flaw rs (suc n)
no_flaw_more flaw rs n r before here sound = all_before_more (λ s. IsFlawed flaw s → ⊥) rs n r before here sound

pub no_flaw : (flaw : Flaw) (rs : List (Rule ℕ)) (n : ℕ) → length rs < n → HasNoFlawBefore flaw rs n → HasNoFlaw flaw rs
no_flaw flaw rs n past before = none_to_end (IsFlawed flaw) rs n past before

pub first_flaw : (flaw : Flaw) (rs : List (Rule ℕ)) (n : ℕ) (r : Rule ℕ) → HasNoFlawBefore flaw rs n
    → nth rs n ≡ Some r → IsFlawed flaw r → IsFirstFlaw flaw rs n
first_flaw flaw rs n r before here k = (r, first_at (IsFlawed flaw) rs n r before here k)

pub first_rule_at : (rs : List (Rule ℕ)) (c : Configuration ℕ) (n : ℕ) (r : Rule ℕ)
    → AllBefore (λ s. AppliesTo s c → ⊥) rs n → nth rs n ≡ Some r → AppliesTo r c → IsFirstRule rs c n r
first_rule_at rs c n r before here applies = first_at (λ s. AppliesTo s c) rs n r before here applies

pub no_rule : (rs : List (Rule ℕ)) (c : Configuration ℕ) (n : ℕ) → length rs < n
    → AllBefore (λ s. AppliesTo s c → ⊥) rs n → HasNoRule rs c
no_rule rs c n past before = none_to_end (λ s. AppliesTo s c) rs n past before
