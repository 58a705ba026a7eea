-- Two quadruples clash in either order.
use Rattle.std.specs.Prelude.{◌≡◌, ℕ, ◌<◌, ◌≤◌, List, Some, ◌⊎◌}
use Rattle.std.proofs.Common.{sym, arith, inl, inr}
use Rattle.std.proofs.lemmas.Bool.{cases_lt}
use Rattle.bn_lists.specs.Lists.{nth}
use Rattle.bn_quad.specs.Quadruples.{Deed, Rewrite, Move, Rule}
use Rattle.bn_quad.specs.Overlap.{MeetsInDomain, MeetsInRange, IsAlike, QuadruplesClash, HasNoClash}
use Rattle.bn_quad.specs.declared.clash.Clash.{Clash}
use Rattle.bn_quad.specs.declared.clash.Clash.TheVariants.{Domain, Range, Reads, Writes}

meets_in_domain_again : (d e : Deed) → MeetsInDomain d e → MeetsInDomain e d
meets_in_domain_again (Rewrite r w) (Rewrite r' w') h = sym h
meets_in_domain_again (Rewrite r w) (Move s) h = tt
meets_in_domain_again (Move s) (Rewrite r w) h = tt
meets_in_domain_again (Move s) (Move s') h = tt

meets_in_range_again : (d e : Deed) → MeetsInRange d e → MeetsInRange e d
meets_in_range_again (Rewrite r w) (Rewrite r' w') h = sym h
meets_in_range_again (Rewrite r w) (Move s) h = tt
meets_in_range_again (Move s) (Rewrite r w) h = tt
meets_in_range_again (Move s) (Move s') h = tt

alike_again : (d e : Deed) → IsAlike d e → IsAlike e d
alike_again (Rewrite r w) (Rewrite r' w') h = tt
alike_again (Rewrite r w) (Move s) h = absurd h
alike_again (Move s) (Rewrite r w) h = absurd h
alike_again (Move s) (Move s') h = tt

pub clash_again : {Q : Type 0} (clash : Clash) (r s : Rule Q) → QuadruplesClash clash r s → QuadruplesClash clash s r
clash_again Domain r s h = record {
  from = sym h.from;
  tapes = (
    meets_in_domain_again r.one s.one h.tapes.0,
    (meets_in_domain_again r.two s.two h.tapes.1.0, (meets_in_domain_again r.three s.three h.tapes.1.1.0, tt)),
  );
}
clash_again Range r s h = record {
  to = sym h.to;
  tapes = (
    meets_in_range_again r.one s.one h.tapes.0,
    (meets_in_range_again r.two s.two h.tapes.1.0, (meets_in_range_again r.three s.three h.tapes.1.1.0, tt)),
  );
}
clash_again Reads r s h = record {
  from = sym h.from;
  apart = λ k. h.apart
      (alike_again s.one r.one k.0, (alike_again s.two r.two k.1.0, (alike_again s.three r.three k.1.1.0, tt)));
}
clash_again Writes r s h = record {
  to = sym h.to;
  apart = λ k. h.apart
      (alike_again s.one r.one k.0, (alike_again s.two r.two k.1.0, (alike_again s.three r.three k.1.1.0, tt)));
}

-- where no two of a list clash, two that would are one
pub clash_once : {Q : Type 0} (clash : Clash) (rs : List (Rule Q)) (m n : ℕ) (r s : Rule Q) → HasNoClash clash rs
    → nth rs m ≡ Some r → nth rs n ≡ Some s → QuadruplesClash clash r s → m ≡ n
clash_once clash rs m n r s apart here there k = by_order (cases_lt m n) (cases_lt n m)
  where
    by_order : (m < n) ⊎ (n ≤ m) → (n < m) ⊎ (m ≤ n) → m ≡ n
    by_order (inl low) p = absurd (apart.none m n (record {
      before = low;
      first = r;
      second = s;
      first_stands = here;
      second_stands = there;
      clashes = k;
    }))
    by_order (inr p) (inl low) = absurd (apart.none n m (record {
      before = low;
      first = s;
      second = r;
      first_stands = there;
      second_stands = here;
      clashes = clash_again clash r s k;
    }))
    by_order (inr p) (inr q) = omega arith
