-- Lists turned round: the tests change places, and runs go backward.
use Rattle.std.specs.Prelude.{◌≡◌, ℕ, zero, suc, ◌+◌, ◌-◌, ◌≤◌, List, [], ◌∷◌, ◌++◌, length, map, reverse}
use Rattle.std.proofs.Common.{refl, sym, ap, ◌∙◌, subst, arith}
use Rattle.std.proofs.lemmas.List.{map-append, reverse-append, reverse-reverse}
use Rattle.bn_lists.specs.Runs.{Reaches}
use Rattle.bn_lists.proofs.RunsLemmas.{runs_more}
use Rattle.bn_lists.proofs.ListLemmas.{nth_within}
use Rattle.bn_machine.specs.Tape.{opposite}
use Rattle.bn_machine.specs.declared.quint.Shift.{Shift}
use Rattle.bn_machine.specs.declared.quint.Shift.TheVariants.{Left, Stay, Right}
use Rattle.bn_quad.specs.Quadruples.{Deed, Rewrite, Move, Rule, Configuration, Follows, turned_deed, turned}
use Rattle.bn_quad.specs.Quadruples.{turned_list, Rooms, AreAllowed}
use Rattle.bn_quad.specs.Overlap.{MeetsInDomain, MeetsInRange, IsAlike, IsIdle, IsSilent, QuadruplesClash, HasNoClash}
use Rattle.bn_quad.proofs.ReversibleLemmas.{turned-turned, turned_list_steps_back}
use Rattle.bn_quad.specs.declared.clash.Clash.{Clash}
use Rattle.bn_quad.specs.declared.clash.Clash.TheVariants.{Domain, Range, Reads, Writes}
use Rattle.bn_lists.specs.Lists.{IsIn}
use Rattle.bn_bennett_laws.proofs.MembershipLemmas.{in_map, from_map, in_reverse}
use Rattle.bn_bennett_laws.specs.Names.{IsUniformFrom}
use Rattle.bn_bennett_laws.specs.Steps.{Steps}
use Rattle.bn_bennett_laws.proofs.Apart.{apart_reverse}
use Rattle.bn_erase_laws.proofs.MappedLemmas.{AreFree, free_again, free_of, no_clash_of, free_mapped}
use Rattle.bn_erase_laws.specs.ListLaws.{TurnedListsPassTests, TurnedListsRunBack}

-- ---- deeds

meets_in_range_before : (d e : Deed) → MeetsInDomain (turned_deed d) (turned_deed e) → MeetsInRange d e
meets_in_range_before (Rewrite r w) (Rewrite r' w') h = h
meets_in_range_before (Rewrite r w) (Move s) h = tt
meets_in_range_before (Move s) (Rewrite r w) h = tt
meets_in_range_before (Move s) (Move s') h = tt

meets_in_domain_before : (d e : Deed) → MeetsInRange (turned_deed d) (turned_deed e) → MeetsInDomain d e
meets_in_domain_before (Rewrite r w) (Rewrite r' w') h = h
meets_in_domain_before (Rewrite r w) (Move s) h = tt
meets_in_domain_before (Move s) (Rewrite r w) h = tt
meets_in_domain_before (Move s) (Move s') h = tt

alike_turned : (d e : Deed) → IsAlike d e → IsAlike (turned_deed d) (turned_deed e)
alike_turned (Rewrite r w) (Rewrite r' w') h = tt
alike_turned (Rewrite r w) (Move s) h = absurd h
alike_turned (Move s) (Rewrite r w) h = absurd h
alike_turned (Move s) (Move s') h = tt

stay_before : (s : Shift) → opposite s ≡ Stay → s ≡ Stay
stay_before Left e = absurd (cc)
stay_before Stay e = refl
stay_before Right e = absurd (cc)

idle_before : (d : Deed) → IsIdle (turned_deed d) → IsIdle d
idle_before (Rewrite r w) h = h
idle_before (Move s) h = stay_before s h

-- the kind of clash that a clash of two quadruples is when they are turned round
abbrev turned_clash : Clash → Clash
turned_clash Domain = Range
turned_clash Range = Domain
turned_clash Reads = Writes
turned_clash Writes = Reads

module _ {Q : Type 0} where
  clash_before : (clash : Clash) (r s : Rule Q) → QuadruplesClash clash (turned r) (turned s)
      → QuadruplesClash (turned_clash clash) r s
  clash_before Domain r s h = record {
    to = h.from;
    tapes = (
      meets_in_range_before r.one s.one h.tapes.0,
      (meets_in_range_before r.two s.two h.tapes.1.0, (meets_in_range_before r.three s.three h.tapes.1.1.0, tt)),
    );
  }
  clash_before Range r s h = record {
    from = h.to;
    tapes = (
      meets_in_domain_before r.one s.one h.tapes.0,
      (meets_in_domain_before r.two s.two h.tapes.1.0, (meets_in_domain_before r.three s.three h.tapes.1.1.0, tt)),
    );
  }
  clash_before Reads r s h = record {
    to = h.from;
    apart = λ k. h.apart
        (alike_turned r.one s.one k.0, (alike_turned r.two s.two k.1.0, (alike_turned r.three s.three k.1.1.0, tt)));
  }
  clash_before Writes r s h = record {
    from = h.to;
    apart = λ k. h.apart
        (alike_turned r.one s.one k.0, (alike_turned r.two s.two k.1.0, (alike_turned r.three s.three k.1.1.0, tt)));
  }

  silent_before : (r : Rule Q) → IsSilent (turned r) → IsSilent r
  silent_before r h = record {
    one = idle_before r.one h.one;
    two = idle_before r.two h.two;
    three = idle_before r.three h.three;
  }

  -- ---- the list

  reverse_of_map : (rs : List (Rule Q)) → reverse (map turned rs) ≡ map turned (reverse rs)
  reverse_of_map [] = refl
  reverse_of_map (r ∷ rs) =
      reverse-append (turned r ∷ []) (map turned rs)
      ∙ ap (λ ss. ss ++ turned r ∷ []) (reverse_of_map rs)
      ∙ sym (map-append turned (reverse rs) (r ∷ []))
      ∙ ap (map turned) (sym (reverse-append (r ∷ []) rs))

  turned_twice : (rs : List (Rule Q)) → map turned (map turned rs) ≡ rs
  turned_twice [] = refl
  turned_twice (r ∷ rs) = λ i. turned-turned r i ∷ turned_twice rs i

  -- turned round twice it is the list
  pub turned_list-turned_list : (rs : List (Rule Q)) → turned_list (turned_list rs) ≡ rs
  turned_list-turned_list rs = ap (map turned) (reverse_of_map (reverse rs)) ∙ turned_twice (reverse (reverse rs))
      ∙ reverse-reverse rs

  -- what stands in it is a quadruple of the list, turned round
  pub from_turned : (rs : List (Rule Q)) (s : Rule Q) → IsIn (turned_list rs) s
      → (r : Rule Q) × IsIn rs r × (turned r ≡ s)
  from_turned rs s h =
      let found = from_map turned (reverse rs) s h in
      (found.0, subst (λ ss. IsIn ss found.0) (reverse-reverse rs) (in_reverse (reverse rs) found.0 found.1), found.2)

  pub in_turned : (rs : List (Rule Q)) (r : Rule Q) → IsIn rs r → IsIn (turned_list rs) (turned r)
  in_turned rs r h = in_map turned (reverse rs) r (in_reverse rs r h)

  -- ---- tests

  turned_free : (clash : Clash) (rs : List (Rule Q)) → HasNoClash (turned_clash clash) rs
      → HasNoClash clash (turned_list rs)
  turned_free clash rs h = no_clash_of clash (turned_list rs)
      (free_mapped turned (turned_clash clash) clash (reverse rs) (clash_before clash)
      (apart_reverse (AreFree (turned_clash clash)) (free_again (turned_clash clash)) rs
      (free_of (turned_clash clash) rs h)))

  -- a list is free of a clash where the list turned round is free of the clash turned round
  turned_free_back : (clash : Clash) (rs : List (Rule Q)) → HasNoClash (turned_clash clash) (turned_list rs)
      → HasNoClash clash rs
  turned_free_back clash rs h = subst (HasNoClash clash) (turned_list-turned_list rs)
      (turned_free clash (turned_list rs) h)

  pub turned_deterministic : (rs : List (Rule Q)) → HasNoClash Range rs → HasNoClash Domain (turned_list rs)
  turned_deterministic rs h = turned_free Domain rs h

  pub turned_reversible : (rs : List (Rule Q)) → HasNoClash Domain rs → HasNoClash Range (turned_list rs)
  turned_reversible rs h = turned_free Range rs h

  pub turned_uniform : (rs : List (Rule Q)) (initial final : Q) → IsUniformFrom initial final rs
      → IsUniformFrom final initial (turned_list rs)
  turned_uniform rs initial final h = record {
    reads = turned_free Reads rs h.writes;
    writes = turned_free Writes rs h.reads;
    active = λ s k silent. let found = from_turned rs s k in h.active found.0 found.1
        (silent_before found.0 (subst (λ t. IsSilent t) (sym found.2) silent));
    not_entered = λ s k is. let found = from_turned rs s k in h.not_left found.0 found.1
        (ap (λ (t : Rule Q). t.to) found.2 ∙ is);
    not_left = λ s k is. let found = from_turned rs s k in h.not_entered found.0 found.1
        (ap (λ (t : Rule Q). t.from) found.2 ∙ is);
  }

  pub turned_uniform_back : (rs : List (Rule Q)) (initial final : Q) → IsUniformFrom final initial (turned_list rs)
      → IsUniformFrom initial final rs
  turned_uniform_back rs initial final h = subst (IsUniformFrom initial final) (turned_list-turned_list rs)
      (turned_uniform (turned_list rs) final initial h)

  -- ---- runs

  pub follows_turned : (rs : List (Rule Q)) (c d : Configuration Q) → Follows rs c d → Follows (turned_list rs) d c
  follows_turned rs c d h =
      let low : h.number ≤ length rs = nth_within rs h.number h.leads.rule h.leads.stands in
      let m : ℕ = length rs + 1 - h.number in
      record { number = m; leads = (turned_list_steps_back rs h.number m c d (omega arith)).0 h.leads }

  module _ (rs : List (Rule Q)) (initial final : Q) (uniform : IsUniformFrom initial final rs) (rooms : Rooms) where
    -- a step leads to no initial state, so the list turned round makes it backward
    step_turned : (c d : Configuration Q) → AreAllowed rooms c → Steps rooms rs final c d
        → Steps rooms (turned_list rs) initial d c
    step_turned c d here h = record {
      going = λ is. let l = h.follows.leads in uniform.not_entered l.rule
          (record { place = h.follows.number; stands = l.stands })
          (sym (ap (λ (x : Configuration Q). x.state) l.leads.gives) ∙ is);
      follows = follows_turned rs c d h.follows;
      stays = here;
    }

    pub run_turned : (n : ℕ) (c d : Configuration Q) → AreAllowed rooms c → Reaches (Steps rooms rs final) n c d
        → Reaches (Steps rooms (turned_list rs) initial) n d c
    run_turned zero c d here run = sym run
    run_turned (suc n) c d here run =
        let count : n + 1 ≡ suc n = omega arith in
        let rest = run_turned n run.0 d run.1.stays run.2 in
        subst (λ i. Reaches (Steps rooms (turned_list rs) initial) i d c) count
        (runs_more (Steps rooms (turned_list rs) initial) n d run.0 c rest (step_turned c run.0 here run.1))

  pub run_turned_back : (rs : List (Rule Q)) (initial final : Q) → IsUniformFrom initial final rs
      → (rooms : Rooms) (n : ℕ) (c d : Configuration Q) → AreAllowed rooms d
      → Reaches (Steps rooms (turned_list rs) initial) n d c → Reaches (Steps rooms rs final) n c d
  run_turned_back rs initial final uniform rooms n c d there run =
      subst (λ ss. Reaches (Steps rooms ss final) n c d) (turned_list-turned_list rs)
      (run_turned (turned_list rs) final initial (turned_uniform rs initial final uniform) rooms n d c there run)

-- ---- the laws

pub turned_lists_pass_tests : TurnedListsPassTests
turned_lists_pass_tests rs = (
  (λ h. turned_free_back Range rs h, turned_deterministic rs),
  (λ h. turned_free_back Domain rs h, turned_reversible rs),
  λ initial final. (turned_uniform_back rs initial final, turned_uniform rs initial final),
)

pub turned_lists_run_back : TurnedListsRunBack
turned_lists_run_back rs initial final uniform rooms n c d here there =
    (run_turned rs initial final uniform rooms n c d here, run_turned_back rs initial final uniform rooms n c d there)
