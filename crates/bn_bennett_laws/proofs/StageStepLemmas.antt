-- Runs of a deterministic list of rules end in one way.
use Rattle.std.specs.Prelude.{◌≡◌, ℕ, zero, suc, ◌<◌, ◌≤◌, ◌⊎◌, List, ℤ}
use Rattle.std.proofs.Common.{refl, sym, ◌∙◌, subst, arith, inl, inr}
use Rattle.std.proofs.lemmas.Bool.{cases_lt}
use Rattle.bn_lists.specs.Runs.{Reaches, IsFunction}
use Rattle.bn_lists.proofs.RunsLemmas.{runs_end_once}
use Rattle.bn_machine.specs.Window.{Room, anywhere, within, Allows}
use Rattle.bn_machine.proofs.OutcomeLemmas.{run_goes_on, not_inside_and_beyond, beyond_one_side}
use Rattle.bn_machine.specs.declared.quint.Side.{Side}
use Rattle.bn_quad.specs.Quadruples.{Rule, Configuration, Follows, HasNoRule, Rooms, AreAllowed}
use Rattle.bn_quad.specs.Overlap.{IsDeterministic}
use Rattle.bn_quad.proofs.ReversibleLemmas.{one_successor}
use Rattle.bn_bennett_laws.specs.Steps.{Steps, IsOutside, IsFirstOutside, HasNoFirstRead, Exit, Leaving, EndsAt}
use Rattle.bn_bennett_laws.specs.Steps.{finishes, stops, leaves, HasExit}

not_both : (room : Room) (side : Side) (p : ℤ) → IsOutside room side p → Allows room p → ⊥
not_both anywhere side p h k = h
not_both (within left right) side p h k = not_inside_and_beyond left right p side h k

one_side : (room : Room) (p : ℤ) (s t : Side) → IsOutside room s p → IsOutside room t p → s ≡ t
one_side anywhere p s t h k = absurd h
one_side (within left right) p s t h k = beyond_one_side left right p s t h k

module _ {Q : Type 0} where
  -- no rule reads what the head of tape 1 scans, so none applies
  pub no_first_read : (rs : List (Rule Q)) (c : Configuration Q) → HasNoFirstRead rs c → HasNoRule rs c
  no_first_read rs c h = record { none = λ n r e a. h.none n r e a.from a.one }

  outside_once : (rooms : Rooms) (d : Configuration Q) (m n : ℕ) (s t : Side) → IsFirstOutside rooms d m s
      → IsFirstOutside rooms d n t → (m ≡ n) × (s ≡ t)
  outside_once rooms d zero n s t h k = absurd h
  outside_once rooms d (suc (suc (suc (suc m)))) n s t h k = absurd h
  outside_once rooms d (suc zero) zero s t h k = absurd k
  outside_once rooms d (suc zero) (suc zero) s t h k = (refl, one_side rooms.one d.one.head s t h k)
  outside_once rooms d (suc zero) (suc (suc zero)) s t h k = absurd (not_both rooms.one s d.one.head h k.0)
  outside_once rooms d (suc zero) (suc (suc (suc zero))) s t h k = absurd (not_both rooms.one s d.one.head h k.0)
  outside_once rooms d (suc zero) (suc (suc (suc (suc n)))) s t h k = absurd k
  outside_once rooms d (suc (suc zero)) zero s t h k = absurd k
  outside_once rooms d (suc (suc zero)) (suc zero) s t h k = absurd (not_both rooms.one t d.one.head k h.0)
  outside_once rooms d (suc (suc zero)) (suc (suc zero)) s t h k = (refl, one_side rooms.two d.two.head s t h.1 k.1)
  outside_once rooms d (suc (suc zero)) (suc (suc (suc zero))) s t h k =
      absurd (not_both rooms.two s d.two.head h.1 k.1)
  outside_once rooms d (suc (suc zero)) (suc (suc (suc (suc n)))) s t h k = absurd k
  outside_once rooms d (suc (suc (suc zero))) zero s t h k = absurd k
  outside_once rooms d (suc (suc (suc zero))) (suc zero) s t h k = absurd (not_both rooms.one t d.one.head k h.0)
  outside_once rooms d (suc (suc (suc zero))) (suc (suc zero)) s t h k =
      absurd (not_both rooms.two t d.two.head k.1 h.1)
  outside_once rooms d (suc (suc (suc zero))) (suc (suc (suc zero))) s t h k =
      (refl, one_side rooms.three d.three.head s t h.2 k.2)
  outside_once rooms d (suc (suc (suc zero))) (suc (suc (suc (suc n)))) s t h k = absurd k

  not_allowed : (rooms : Rooms) (d : Configuration Q) (n : ℕ) (s : Side) → IsFirstOutside rooms d n s
      → AreAllowed rooms d → ⊥
  not_allowed rooms d zero s h k = h
  not_allowed rooms d (suc zero) s h k = not_both rooms.one s d.one.head h k.one
  not_allowed rooms d (suc (suc zero)) s h k = not_both rooms.two s d.two.head h.1 k.two
  not_allowed rooms d (suc (suc (suc zero))) s h k = not_both rooms.three s d.three.head h.2 k.three
  not_allowed rooms d (suc (suc (suc (suc n)))) s h k = h

  none_follows : (rs : List (Rule Q)) (c d : Configuration Q) → HasNoRule rs c → Follows rs c d → ⊥
  none_follows rs c d none h = none.none h.number h.leads.rule h.leads.stands h.leads.leads.applies

  module _ (rooms : Rooms) (rs : List (Rule Q)) (final : Q) (apart : IsDeterministic rs) where
    -- one configuration follows another at most
    pub follows_once : (c d e : Configuration Q) → Follows rs c d → Follows rs c e → d ≡ e
    follows_once = one_successor rs apart

    pub steps_once : IsFunction (Steps rooms rs final)
    steps_once = λ c d e h k. follows_once c d e h.follows k.follows

    -- where a run ends no step leads on
    pub ends_there : (c d : Configuration Q) (e : Exit) → EndsAt rooms rs final c e → Steps rooms rs final c d → ⊥
    ends_there c d e (finishes is why) s = s.going is
    ends_there c d e (stops going none why) s = none_follows rs c d none s.follows
    ends_there c d e (leaves tape side b going follows out why) s =
        not_allowed rooms d tape side (subst (λ x. IsFirstOutside rooms x tape side)
        (follows_once c b d follows s.follows) out) s.stays

    pub ends_once : (c : Configuration Q) (e f : Exit) → EndsAt rooms rs final c e → EndsAt rooms rs final c f → e ≡ f
    ends_once c e f (finishes is why) (finishes is' why') = why ∙ sym why'
    ends_once c e f (finishes is why) (stops going none why') = absurd (going is)
    ends_once c e f (finishes is why) (leaves tape side d going follows out why') = absurd (going is)
    ends_once c e f (stops going none why) (finishes is why') = absurd (going is)
    ends_once c e f (stops going none why) (stops going' none' why') = why ∙ sym why'
    ends_once c e f (stops going none why) (leaves tape side d going' follows out why') =
        absurd (none_follows rs c d none follows)
    ends_once c e f (leaves tape side d going follows out why) (finishes is why') = absurd (going is)
    ends_once c e f (leaves tape side d going follows out why) (stops going' none why') =
        absurd (none_follows rs c d none follows)
    ends_once c e f (leaves tape side d going follows out why) (leaves tape' side' d' going' follows' out' why') =
        let same = outside_once rooms d' tape tape' side side' (subst (λ x. IsFirstOutside rooms x tape side)
        (follows_once c d d' follows follows') out) out' in
        why ∙ (λ i. Leaving (same.0 i) (same.1 i)) ∙ sym why'

    -- a run ends after one number of steps, at one configuration, in one way
    pub exits_once : (m n : ℕ) (c d b : Configuration Q) (e f : Exit) → HasExit rooms rs final m c d e
        → HasExit rooms rs final n c b f → (m ≡ n) × (d ≡ b) × (e ≡ f)
    exits_once m n c d b e f h k = by_order (cases_lt m n) (cases_lt n m)
      where
        by_order : (m < n) ⊎ (n ≤ m) → (n < m) ⊎ (m ≤ n) → (m ≡ n) × (d ≡ b) × (e ≡ f)
        by_order (inl low) o = let more = run_goes_on (Steps rooms rs final) steps_once m n c d b low h.run k.run in
            absurd (ends_there d more.0 e h.ends more.1)
        by_order (inr high) (inl low) = let more = run_goes_on (Steps rooms rs final) steps_once n m c b d low k.run
            h.run in absurd (ends_there b more.0 f k.ends more.1)
        by_order (inr high) (inr low) =
            let count : m ≡ n = omega arith in
            let there : d ≡ b = runs_end_once (Steps rooms rs final) steps_once n c d b
            (subst (λ i. Reaches (Steps rooms rs final) i c d) count h.run) k.run in
            (count, there, ends_once b e f (subst (λ x. EndsAt rooms rs final x e) there h.ends) k.ends)

    -- the heads stay in their rooms along a run
    pub run_allowed : (n : ℕ) (c d : Configuration Q) → AreAllowed rooms c → Reaches (Steps rooms rs final) n c d
        → AreAllowed rooms d
    run_allowed zero c d here run = subst (λ x. AreAllowed rooms x) run here
    run_allowed (suc n) c d here run = run_allowed n run.0 d run.1.stays run.2
