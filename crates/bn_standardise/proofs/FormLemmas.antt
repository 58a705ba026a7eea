-- The machine that is made is in standard form.
use Rattle.std.specs.Prelude.{◌≡◌, ℕ, zero, suc, List, [], ◌∷◌, ◌++◌, length, map, Some, ◌⊎◌}
use Rattle.std.proofs.Common.{refl, sym, subst, ◌∙◌, ap, arith, inl, inr}
use Rattle.bn_machine.specs.Machine.{Program, start_of, final_of}
use Rattle.bn_lists.specs.Lists.{nth, Has}
use Rattle.bn_machine.specs.declared.quint.Quint.{Quint}
use Rattle.bn_machine.specs.Standard.{IsStandard, NamesStart, NamesFinal}
use Rattle.bn_standardise.specs.Rules.{entering, leaving, middle_of}
use Rattle.bn_standardise.specs.declared.name.Name.{Name}
use Rattle.bn_standardise.specs.declared.name.Name.TheVariants.{First, Own, Last}
use Rattle.bn_standardise.specs.declared.rule.Rule.{Rule}
use Rattle.bn_standardise.specs.Standardised.{numbered, standardised_by, Occurs, TellsApart, IsLoose}
use Rattle.bn_lists.proofs.MemberLemmas.{of_two}
use Rattle.bn_standardise.proofs.ListLemmas.{nth_in, in_map_cases, pairwise_unambiguous, last_stands, early_in}
use Rattle.bn_standardise.proofs.ListLemmas.{final_last}
use Rattle.bn_standardise.proofs.RuleLemmas.{final_occurs, later_state, earlier_next, quints_apart}

-- the rules but the last
abbrev body_of : Program → List Rule
body_of p = entering (start_of p.quints) ∷ middle_of p

-- the final state is that of the last rule
pub final_state : (number : Name → ℕ) (p : Program) → final_of (standardised_by number p).quints ≡ number Last
final_state number p = final_last (numbered number) (body_of p) (leaving (final_of p.quints))

-- which states a quintuple has
state_cases : (number : Name → ℕ) (p : Program) (q : Quint) → IsLoose p → Has (standardised_by number p).quints q
    → (q.state ≡ number First) ⊎ ((s : ℕ) × Occurs p.quints s × (q.state ≡ number (Own s)))
state_cases number p q loose (inl e) = inl (ap (λ (r : Quint). r.state) e)
state_cases number p q loose (inr h) =
    let rule = in_map_cases (numbered number) (middle_of p ++ leaving (final_of p.quints) ∷ []) q h in
    let own = later_state p rule.0 loose.machine.some rule.1 in
    inr (own.0, own.1, ap (λ (r : Quint). r.state) rule.2 ∙ ap number own.2)

-- and which next states
next_cases : (number : Name → ℕ) (p : Program) (q : Quint) → IsLoose p → Has (standardised_by number p).quints q
    → (q.next ≡ number Last) ⊎ ((s : ℕ) × Occurs p.quints s × (q.next ≡ number (Own s)))
next_cases number p q loose h =
    let rule = in_map_cases (numbered number) (body_of p ++ leaving (final_of p.quints) ∷ []) q h in
    elim (of_two (body_of p) (leaving (final_of p.quints) ∷ []) rule.0 rule.1) [
      | inl early ↦ let own = earlier_next p rule.0 loose.machine.some early in inr
          (own.0, own.1, ap (λ (r : Quint). r.next) rule.2 ∙ ap number own.2)
      | inr (inl e) ↦ inl (ap (λ (r : Quint). r.next) rule.2 ∙ ap (λ (r : Rule). number r.next) e)
      | inr (inr none) ↦ absurd none
    ]

-- the start state isn't used elsewhere
start_alone : (number : Name → ℕ) (p : Program) → IsLoose p → TellsApart number p → (i : ℕ) (q : Quint)
    → nth (standardised_by number p).quints i ≡ Some q → NamesStart (number First) i q → ⊥
start_alone number p loose tells i q stands (inl next) = elim
    (next_cases number p q loose (nth_in (standardised_by number p).quints i q stands)) [
      | inl last ↦ tells.ends (sym next ∙ last)
      | inr own ↦ tells.first own.0 own.1 (sym own.2 ∙ next)
    ]
start_alone number p loose tells zero q stands (inr h) = absurd (cc)
start_alone number p loose tells (suc zero) q stands (inr h) = absurd (omega (arith, h.0))
start_alone number p loose tells (suc (suc i)) q stands (inr h) =
    let rest : List Rule = middle_of p ++ leaving (final_of p.quints) ∷ [] in
    let rule = in_map_cases (numbered number) rest q (nth_in (map (numbered number) rest) (suc i) q stands) in
    let own = later_state p rule.0 loose.machine.some rule.1 in
    tells.first own.0 own.1 (sym (ap (λ (r : Quint). r.state) rule.2 ∙ ap number own.2) ∙ h.1)

-- nor is the final state
final_alone : (number : Name → ℕ) (p : Program) → IsLoose p → TellsApart number p → (i : ℕ) (q : Quint)
    → nth (standardised_by number p).quints i ≡ Some q → NamesFinal (number Last)
    (length (standardised_by number p).quints) i q → ⊥
final_alone number p loose tells i q stands (inl state) = elim
    (state_cases number p q loose (nth_in (standardised_by number p).quints i q stands)) [
      | inl first ↦ tells.ends (sym first ∙ state)
      | inr own ↦ tells.last own.0 own.1 (sym own.2 ∙ state)
    ]
final_alone number p loose tells i q stands (inr h) =
    let early = early_in (numbered number) (body_of p) (leaving (final_of p.quints)) i q h.0 stands in
    let rule = in_map_cases (numbered number) (body_of p) q early in
    let own = earlier_next p rule.0 loose.machine.some rule.1 in
    tells.last own.0 own.1 (sym (ap (λ (r : Quint). r.next) rule.2 ∙ ap number own.2) ∙ h.1)

-- the five demands
pub is_standard : (number : Name → ℕ) (p : Program) → IsLoose p → TellsApart number p
    → IsStandard (standardised_by number p).quints
is_standard number p loose tells = record {
  unambiguous = pairwise_unambiguous (standardised_by number p).quints (quints_apart number p loose tells);
  begins = record {
    quint = numbered number (entering (start_of p.quints));
    stands = refl;
    begins = record { reads = refl; writes = refl; shifts = refl };
  };
  lone_start = record { none = λ i u. start_alone number p loose tells i u.quint u.stands u.names };
  ends = record {
    quint = numbered number (leaving (final_of p.quints));
    stands = last_stands (numbered number) (body_of p) (leaving (final_of p.quints));
    ends = record {
      reads = refl;
      writes = refl;
      shifts = refl;
      apart = tells.first (final_of p.quints) (final_occurs p.quints loose.machine.some);
    };
  };
  lone_final = record {
    none = λ i u. final_alone number p loose tells i u.quint u.stands
        (subst (λ f. NamesFinal f (length (standardised_by number p).quints) i u.quint) (final_state number p) u.names);
  };
}
