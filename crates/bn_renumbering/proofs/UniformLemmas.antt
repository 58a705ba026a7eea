-- A machine is uniform where it is so with other numbers.
use Rattle.std.specs.Prelude.{◌≡◌, ℕ, ◌<◌, List, [], ◌∷◌, length, map, refl}
use Rattle.std.proofs.Common.{arith, sym, ap, subst, ◌∙◌}
use Rattle.bn_quad.specs.Quadruples.{Deed, Rewrite, Move, Rule, initial_of, final_state_of}
use Rattle.bn_quad.specs.Overlap.{MeetsInDomain, MeetsInRange, IsAlike, IsIdle, QuadruplesClash, HasNoClash, IsUniform}
use Rattle.bn_quad.specs.declared.clash.Clash.{Clash}
use Rattle.bn_quad.specs.declared.clash.Clash.TheVariants.{Domain, Range, Reads, Writes}
use Rattle.bn_erase_laws.proofs.MappedLemmas.{nth_mapped}
use Rattle.bn_renumbering.specs.Renumbering.{Renumbering, renumbered_deed, renumbered_rule}
use Rattle.bn_renumbering.specs.Laws.{RenumberingsAreUniform, RenumberingsPassTests}

in_domain : (g : ℕ → ℕ) (d e : Deed) → MeetsInDomain d e → MeetsInDomain (renumbered_deed g d) (renumbered_deed g e)
in_domain g (Rewrite r w) (Rewrite r' w') h = ap g h
in_domain g (Rewrite r w) (Move s) h = tt
in_domain g (Move s) (Rewrite r w) h = tt
in_domain g (Move s) (Move s') h = tt

in_range : (g : ℕ → ℕ) (d e : Deed) → MeetsInRange d e → MeetsInRange (renumbered_deed g d) (renumbered_deed g e)
in_range g (Rewrite r w) (Rewrite r' w') h = ap g h
in_range g (Rewrite r w) (Move s) h = tt
in_range g (Move s) (Rewrite r w) h = tt
in_range g (Move s) (Move s') h = tt

alike_before : (g : ℕ → ℕ) (d e : Deed) → IsAlike (renumbered_deed g d) (renumbered_deed g e) → IsAlike d e
alike_before g (Rewrite r w) (Rewrite r' w') h = tt
alike_before g (Rewrite r w) (Move s) h = absurd h
alike_before g (Move s) (Rewrite r w) h = absurd h
alike_before g (Move s) (Move s') h = tt

idle_after : (g : ℕ → ℕ) (d : Deed) → IsIdle d → IsIdle (renumbered_deed g d)
idle_after g (Rewrite r w) h = h
idle_after g (Move s) h = h

module _ (k : Renumbering) where
  clash_after : (clash : Clash) (r s : Rule ℕ) → QuadruplesClash clash r s
      → QuadruplesClash clash (renumbered_rule k r) (renumbered_rule k s)
  clash_after Domain r s h =
      record {
        from = ap k.states h.from;
        tapes = (
          in_domain k.one r.one s.one h.tapes.0,
          (in_domain k.two r.two s.two h.tapes.1.0, (in_domain k.three r.three s.three h.tapes.1.1.0, tt)),
        );
      }
  clash_after Range r s h =
      record {
        to = ap k.states h.to;
        tapes = (
          in_range k.one r.one s.one h.tapes.0,
          (in_range k.two r.two s.two h.tapes.1.0, (in_range k.three r.three s.three h.tapes.1.1.0, tt)),
        );
      }
  clash_after Reads r s h =
      record {
        from = ap k.states h.from;
        apart = λ a. h.apart (
          alike_before k.one r.one s.one a.0,
          (alike_before k.two r.two s.two a.1.0, (alike_before k.three r.three s.three a.1.1.0, tt)),
        );
      }
  clash_after Writes r s h =
      record {
        to = ap k.states h.to;
        apart = λ a. h.apart (
          alike_before k.one r.one s.one a.0,
          (alike_before k.two r.two s.two a.1.0, (alike_before k.three r.three s.three a.1.1.0, tt)),
        );
      }

  free_before : (clash : Clash) (rs : List (Rule ℕ)) → HasNoClash clash (map (renumbered_rule k) rs)
      → HasNoClash clash rs
  free_before clash rs h = record {
    none = λ i j c. h.none i j (record {
      before = c.before;
      first = renumbered_rule k c.first;
      second = renumbered_rule k c.second;
      first_stands = nth_mapped (renumbered_rule k) rs i c.first c.first_stands;
      second_stands = nth_mapped (renumbered_rule k) rs j c.second c.second_stands;
      clashes = clash_after clash c.first c.second c.clashes;
    });
  }

  pub initial_renumbered : (rs : List (Rule ℕ)) → 0 < length rs
      → initial_of (map (renumbered_rule k) rs) ≡ k.states (initial_of rs)
  initial_renumbered [] some = absurd (omega arith)
  initial_renumbered (r ∷ rs) some = refl

  pub final_renumbered : (rs : List (Rule ℕ)) → 0 < length rs
      → final_state_of (map (renumbered_rule k) rs) ≡ k.states (final_state_of rs)
  final_renumbered [] some = absurd (omega arith)
  final_renumbered (r ∷ []) some = refl
  final_renumbered (r ∷ s ∷ rs) some = final_renumbered (s ∷ rs) (omega arith)

  uniform_before : (rs : List (Rule ℕ)) → 0 < length rs → IsUniform (map (renumbered_rule k) rs) → IsUniform rs
  uniform_before rs some u = record {
    reads = free_before Reads rs u.reads;
    writes = free_before Writes rs u.writes;
    active = record {
      none = λ n r at silent.
          u.active.none n (renumbered_rule k r) (nth_mapped (renumbered_rule k) rs n r at)
          (record {
            one = idle_after k.one r.one silent.one;
            two = idle_after k.two r.two silent.two;
            three = idle_after k.three r.three silent.three;
          });
    };
    initial = record {
      none =
          λ n r at is. u.initial.none n (renumbered_rule k r) (nth_mapped (renumbered_rule k) rs n r at)
          (ap k.states is ∙ sym (initial_renumbered rs some));
    };
    final = record {
      none = λ n r at is. u.final.none n (renumbered_rule k r) (nth_mapped (renumbered_rule k) rs n r at)
          (ap k.states is ∙ sym (final_renumbered rs some));
    };
  }

pub renumberings-pass : RenumberingsPassTests
renumberings-pass k p m is = (
  λ h. free_before k Domain p.rules (subst (HasNoClash Domain) (sym is.rules) h),
  λ h. free_before k Range p.rules (subst (HasNoClash Range) (sym is.rules) h),
)

pub renumberings-uniform : RenumberingsAreUniform
renumberings-uniform k p m machine is u = record {
  deterministic = (renumberings-pass k p m is).0 u.deterministic;
  reversible = (renumberings-pass k p m is).1 u.reversible;
  uniform = uniform_before k p.rules machine.some (subst IsUniform (sym is.rules) u.uniform);
}
