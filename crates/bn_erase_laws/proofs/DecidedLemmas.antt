-- Whether some quadruple of a list applies can be decided, where states can be told apart; so a run of at most n steps
-- comes to an end, or makes all n.
use Rattle.std.specs.Prelude.{◌≡◌, ◌≢◌, ℕ, zero, suc, ◌≤◌, ◌⊎◌, List, [], ◌∷◌}
use Rattle.std.proofs.Common.{refl, sym, ap, ◌∙◌, subst, arith, inl, inr}
use Rattle.std.proofs.lemmas.Bool.Decides.{eqb_tells}
use Rattle.bn_lists.specs.Runs.{Reaches}
use Rattle.bn_machine.specs.Tape.{Tape, scanned}
use Rattle.bn_quad.specs.Quadruples.{Deed, Rewrite, Move, Rule, Configuration, DeedApplies, AppliesTo, after, HasNoRule}
use Rattle.bn_quad.specs.Quadruples.{everywhere}
use Rattle.bn_lists.specs.Lists.{IsIn}
use Rattle.bn_bennett_laws.proofs.MembershipLemmas.{in_head, in_tail, in_cases, not_in_empty}
use Rattle.bn_bennett_laws.specs.Steps.{Steps}
use Rattle.bn_bennett_laws.specs.declared.name.Name.{Name}
use Rattle.bn_bennett_laws.specs.declared.name.Name.TheVariants.{Compute, ComputeWithin, GoRight, CopyLetter, GoLeft}
use Rattle.bn_bennett_laws.specs.declared.name.Name.TheVariants.{PassLetter, Retrace, RetraceWithin}
use Rattle.bn_erase_laws.specs.declared.name.ErasingName.{ErasingName}
use Rattle.bn_erase_laws.specs.declared.name.ErasingName.TheVariants.{First, Second}

-- ---- states

-- a name as two numbers, and the name of two numbers
abbrev kind_of : Name → ℕ
kind_of (Compute j) = 0
kind_of (ComputeWithin m) = 1
kind_of GoRight = 2
kind_of CopyLetter = 3
kind_of GoLeft = 4
kind_of PassLetter = 5
kind_of (Retrace j) = 6
kind_of (RetraceWithin m) = 7

abbrev index_of : Name → ℕ
index_of (Compute j) = j
index_of (ComputeWithin m) = m
index_of GoRight = 0
index_of CopyLetter = 0
index_of GoLeft = 0
index_of PassLetter = 0
index_of (Retrace j) = j
index_of (RetraceWithin m) = m

abbrev name_of : ℕ → ℕ → Name
name_of zero j = Compute j
name_of (suc zero) j = ComputeWithin j
name_of (suc (suc zero)) j = GoRight
name_of (suc (suc (suc zero))) j = CopyLetter
name_of (suc (suc (suc (suc zero)))) j = GoLeft
name_of (suc (suc (suc (suc (suc zero))))) j = PassLetter
name_of (suc (suc (suc (suc (suc (suc zero)))))) j = Retrace j
name_of (suc (suc (suc (suc (suc (suc (suc k))))))) j = RetraceWithin j

name_again : (a : Name) → name_of (kind_of a) (index_of a) ≡ a
name_again (Compute j) = refl
name_again (ComputeWithin m) = refl
name_again GoRight = refl
name_again CopyLetter = refl
name_again GoLeft = refl
name_again PassLetter = refl
name_again (Retrace j) = refl
name_again (RetraceWithin m) = refl

-- two names are one, or they are apart
pub same_name : (a b : Name) → (a ≡ b) ⊎ (a ≢ b)
same_name a b =
    elim (eqb_tells (kind_of a) (kind_of b)) [
      | inr other ↦ inr (λ e. other.1 (ap kind_of e))
      | inl kind ↦ elim (eqb_tells (index_of a) (index_of b)) [
        | inr other ↦ inr (λ e. other.1 (ap index_of e))
        | inl index ↦ inl (sym (name_again a) ∙ (λ i. name_of (kind.1 i) (index.1 i)) ∙ name_again b)
      ]
    ]

pub same_erasing_name : (a b : ErasingName) → (a ≡ b) ⊎ (a ≢ b)
same_erasing_name (First a) (First b) = elim (same_name a b)
    [ inl same ↦ inl (ap First same) | inr other ↦ inr (λ e. other (cc)) ]
same_erasing_name (First a) (Second b) = inr (λ e. cc)
same_erasing_name (Second a) (First b) = inr (λ e. cc)
same_erasing_name (Second a) (Second b) = elim (same_name a b)
    [ inl same ↦ inl (ap Second same) | inr other ↦ inr (λ e. other (cc)) ]

-- ---- quadruples

admits_or_not : (d : Deed) (t : Tape) → DeedApplies d t ⊎ (DeedApplies d t → ⊥)
admits_or_not (Rewrite read written) t = elim (eqb_tells (scanned t) read)
    [ inl same ↦ inl same.1 | inr other ↦ inr other.1 ]
admits_or_not (Move s) t = inl tt

module _ {Q : Type 0} (told_apart : (a b : Q) → (a ≡ b) ⊎ (a ≢ b)) where
  applies_or_not : (r : Rule Q) (c : Configuration Q) → AppliesTo r c ⊎ (AppliesTo r c → ⊥)
  applies_or_not r c =
      elim (told_apart c.state r.from) [
        | inr other ↦ inr (λ a. other a.from)
        | inl from ↦ elim (admits_or_not r.one c.one) [
          | inr other ↦ inr (λ a. other a.one)
          | inl one ↦ elim (admits_or_not r.two c.two) [
            | inr other ↦ inr (λ a. other a.two)
            | inl two ↦ elim (admits_or_not r.three c.three) [
              | inr other ↦ inr (λ a. other a.three)
              | inl three ↦ inl (record { from = from; one = one; two = two; three = three })
            ]
          ]
        ]
      ]

  -- a quadruple of the list that applies, or none applies
  some_or_none : (rs : List (Rule Q)) (c : Configuration Q) → ((r : Rule Q) × IsIn rs r × AppliesTo r c)
      ⊎ ((r : Rule Q) → IsIn rs r → AppliesTo r c → ⊥)
  some_or_none [] c = inr (λ r h a. not_in_empty r h)
  some_or_none (s ∷ rs) c =
      elim (applies_or_not s c) [
        | inl applies ↦ inl (s, in_head s rs, applies)
        | inr first ↦ elim (some_or_none rs c) [
          | inl found ↦ inl (found.0, in_tail s found.0 rs found.1, found.2)
          | inr rest ↦ inr (λ r h a. elim (in_cases s r rs h) [
            | inl same ↦ first (subst (λ t. AppliesTo t c) (sym same) a)
            | inr further ↦ rest r further a
          ])
        ]
      ]

  module _ (rs : List (Rule Q)) (final : Q) where
    -- what there is at a configuration: the final state, no quadruple, or a step
    pub data Next (c : Configuration Q) : Type 0 where
      is_final : c.state ≡ final → Next c
      has_none : c.state ≢ final → HasNoRule rs c → Next c
      steps_on : (d : Configuration Q) → Steps everywhere rs final c d → Next c

    pub next_of : (c : Configuration Q) → Next c
    next_of c =
        elim (told_apart c.state final) [
          | inl is ↦ is_final is
          | inr going ↦ elim (some_or_none rs c) [
            | inl found ↦ steps_on (after found.0 c) (record {
              going = going;
              follows = record {
                number = found.1.place;
                leads = record
                    { rule = found.0; stands = found.1.stands; leads = record { applies = found.2; gives = refl } };
              };
              stays = record { one = tt; two = tt; three = tt };
            })
            | inr none ↦ has_none going (record { none = λ n r e a. none r (record { place = n; stands = e }) a })
          ]
        ]

    -- a run of at most n steps to where none leads on, or to the n-th
    pub record Bounded (n : ℕ) (c : Configuration Q) : Type 0 where
      pub made : ℕ
      pub last : Configuration Q
      pub run : Reaches (Steps everywhere rs final) made c last
      pub in_time : made ≤ n
      pub next : Next last
      pub all : (d : Configuration Q) → Steps everywhere rs final last d → made ≡ n

    bounded_more : (n : ℕ) (c d : Configuration Q) → Steps everywhere rs final c d → Bounded n d → Bounded (suc n) c
    bounded_more n c d step b = record {
      made = suc b.made;
      last = b.last;
      run = (d, step, b.run);
      in_time = let low : b.made ≤ n = b.in_time in omega arith;
      next = b.next;
      all = λ e further. let count : b.made ≡ n = b.all e further in omega arith;
    }

    none_goes : (c d : Configuration Q) → HasNoRule rs c → Steps everywhere rs final c d → ⊥
    none_goes c d none s = none.none s.follows.number s.follows.leads.rule s.follows.leads.stands
        s.follows.leads.leads.applies

    pub bounded : (n : ℕ) (c : Configuration Q) → Bounded n c
    bounded zero c = record {
      made = 0;
      last = c;
      run = refl;
      in_time = omega arith;
      next = next_of c;
      all = λ d s. refl;
    }
    bounded (suc n) c =
        elim (next_of c) [
          | is_final is ↦ record {
            made = 0;
            last = c;
            run = refl;
            in_time = omega arith;
            next = is_final is;
            all = λ d s. absurd (s.going is);
          }
          | has_none going none ↦ record {
            made = 0;
            last = c;
            run = refl;
            in_time = omega arith;
            next = has_none going none;
            all = λ d s. absurd (none_goes c d none s);
          }
          | steps_on d s ↦ bounded_more n c d s (bounded n d)
        ]
