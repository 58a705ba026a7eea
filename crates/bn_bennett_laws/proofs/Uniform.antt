-- Bennett's list is uniform: which tapes are read and written goes by state.
use Rattle.std.specs.Prelude.{◌≡◌, ◌≢◌, ℕ, Some, Bool, true, false, cond, nat_eq}
use Rattle.std.proofs.Common.{refl, sym, ap, ◌∙◌, inl, inr}
use Rattle.std.proofs.lemmas.Bool.Decides.{eqb_tells}
use Rattle.bn_machine.specs.Machine.{Program, start_of, final_of}
use Rattle.bn_lists.specs.Lists.{nth, IsIn}
use Rattle.bn_machine.specs.declared.quint.Quint.{Quint}
use Rattle.bn_machine.specs.Standard.{IsStandard}
use Rattle.bn_quad.specs.Quadruples.{Deed, Rewrite, Move, Rule}
use Rattle.bn_quad.specs.Overlap.{IsAlike, HaveSameTapes, IsSilent, HasNoClash}
use Rattle.bn_quad.specs.declared.clash.Clash.TheVariants.{Reads, Writes}
use Rattle.bn_bennett_laws.specs.Names.{IsUniformFrom}
use Rattle.bn_bennett_laws.specs.List.{bennett, initial_name, final_name}
use Rattle.bn_bennett_laws.proofs.ListLemmas.{each_rule}
use Rattle.bn_bennett_laws.specs.declared.name.Name.{Name}
use Rattle.bn_bennett_laws.specs.declared.name.Name.TheVariants.{Compute, ComputeWithin, GoRight, CopyLetter, GoLeft}
use Rattle.bn_bennett_laws.specs.declared.name.Name.TheVariants.{PassLetter, Retrace, RetraceWithin}

-- ---- which tapes are read, and so written

abbrev is_read : Deed → Bool
is_read (Rewrite read written) = true
is_read (Move s) = false

abbrev Mask : Type 0
Mask = Bool × Bool × Bool

abbrev mask : Rule Name → Mask
mask r = (is_read r.one, is_read r.two, is_read r.three)

alike : (d e : Deed) → is_read d ≡ is_read e → IsAlike d e
alike (Rewrite r w) (Rewrite r' w') h = tt
alike (Rewrite r w) (Move s) h = absurd (cc)
alike (Move s) (Rewrite r w) h = absurd (cc)
alike (Move s) (Move s') h = tt

same_tapes : (r s : Rule Name) → mask r ≡ mask s → HaveSameTapes r s
same_tapes r s e = (
  alike r.one s.one (ap (λ (m : Mask). m.0) e),
  (alike r.two s.two (ap (λ (m : Mask). m.1) e), (alike r.three s.three (ap (λ (m : Mask). m.2) e), tt)),
)

abbrev all : Mask
all = (true, true, true)

abbrev none : Mask
none = (false, false, false)

abbrev outer : Mask
outer = (true, false, true)

abbrev history : Mask
history = (false, true, false)

-- the tapes that are read in a state
left : ℕ → Name → Mask
left final (Compute j) = cond (nat_eq j final) all outer
left final (ComputeWithin m) = history
left final GoRight = none
left final CopyLetter = all
left final GoLeft = none
left final PassLetter = all
left final (Retrace j) = history
left final (RetraceWithin m) = outer

-- the tapes that are written on the way to a state
entered : ℕ → Name → Mask
entered final (Compute j) = history
entered final (ComputeWithin m) = outer
entered final GoRight = all
entered final CopyLetter = none
entered final GoLeft = all
entered final PassLetter = none
entered final (Retrace j) = cond (nat_eq j final) all outer
entered final (RetraceWithin m) = history

at_final : (j : ℕ) → cond (nat_eq j j) all outer ≡ all
at_final j = elim (eqb_tells j j) [ inl same ↦ ap (λ b. cond b all outer) same.0 | inr other ↦ absurd (other.1 refl) ]

elsewhere : (j final : ℕ) → j ≢ final → cond (nat_eq j final) all outer ≡ outer
elsewhere j final apart = elim (eqb_tells j final) [
  | inl same ↦ absurd (apart same.1)
  | inr other ↦ ap (λ b. cond b all outer) other.0
]

module _ (p : Program) (standard : IsStandard p.quints) where
  abbrev f : ℕ
  f = final_of p.quints

  not_left : (m : ℕ) (q : Quint) → nth p.quints m ≡ Some q → q.state ≢ f
  not_left m q e same = standard.lone_final.none m (record { quint = q; stands = e; names = inl same })

  not_entered : (m : ℕ) (q : Quint) → nth p.quints m ≡ Some q → q.next ≢ start_of p.quints
  not_entered m q e same = standard.lone_start.none m (record { quint = q; stands = e; names = inl same })

  reads_by_state : (r : Rule Name) → IsIn (bennett p) r → mask r ≡ left f r.from
  unfolding left
  reads_by_state = each_rule (λ r. mask r ≡ left f r.from) p (λ m q e. sym (elsewhere q.state f (not_left m q e)))
      (λ m q e. refl) (sym (at_final f)) refl (λ x low high. refl) refl refl (λ x low high. refl) refl (λ m q e. refl)
      (λ m q e. refl)

  writes_by_state : (r : Rule Name) → IsIn (bennett p) r → mask r ≡ entered f r.to
  unfolding entered
  writes_by_state = each_rule (λ r. mask r ≡ entered f r.to) p (λ m q e. refl) (λ m q e. refl) refl refl
      (λ x low high. refl) refl refl (λ x low high. refl) (sym (at_final f)) (λ m q e. refl)
      (λ m q e. sym (elsewhere q.state f (not_left m q e)))

  reads_apart : HasNoClash Reads (bennett p)
  reads_apart = record {
    none = λ i j clash.
        let first = reads_by_state clash.first (record { place = i; stands = clash.first_stands }) in
        let second = reads_by_state clash.second (record { place = j; stands = clash.second_stands }) in
        clash.clashes.apart (same_tapes clash.first clash.second (first ∙ ap (left f) clash.clashes.from ∙ sym second));
  }

  writes_apart : HasNoClash Writes (bennett p)
  writes_apart = record {
    none = λ i j clash.
        let first = writes_by_state clash.first (record { place = i; stands = clash.first_stands }) in
        let second = writes_by_state clash.second (record { place = j; stands = clash.second_stands }) in
        clash.clashes.apart (same_tapes clash.first clash.second
        (first ∙ ap (entered f) clash.clashes.to ∙ sym second));
  }

  pub list_uniform : IsUniformFrom (initial_name p) (final_name p) (bennett p)
  list_uniform = record {
    reads = reads_apart;
    writes = writes_apart;
    active = each_rule (λ r. IsSilent r → ⊥) p (λ m q e h. h.one) (λ m q e h. h.two) (λ h. h.one)
        (λ h. let still = h.one in cc) (λ x low high h. h.one) (λ h. h.one) (λ h. let still = h.one in cc)
        (λ x low high h. h.one) (λ h. h.one) (λ m q e h. h.two) (λ m q e h. h.one);
    not_entered = each_rule (λ r. r.to ≢ initial_name p) p (λ m q e h. cc) (λ m q e h. not_entered m q e (cc)) (λ h. cc)
        (λ h. cc) (λ x low high h. cc) (λ h. cc) (λ h. cc) (λ x low high h. cc) (λ h. cc) (λ m q e h. cc)
        (λ m q e h. cc);
    not_left = each_rule (λ r. r.from ≢ final_name p) p (λ m q e h. cc) (λ m q e h. cc) (λ h. cc) (λ h. cc)
        (λ x low high h. cc) (λ h. cc) (λ h. cc) (λ x low high h. cc) (λ h. cc) (λ m q e h. not_entered m q e (cc))
        (λ m q e h. cc);
  }
