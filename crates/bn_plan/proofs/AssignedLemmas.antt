-- The function gives the plan.
use Rattle.std.specs.Prelude.{◌≡◌, ℕ, zero, suc, ◌+◌, ◌<◌, ◌≤◌, true, false, List, [], ◌∷◌, ◌⊎◌, ltb}
use Rattle.std.proofs.Common.{refl, sym, subst, ◌∙◌, ap, arith, inl, inr}
use Rattle.std.proofs.lemmas.Bool.{cases_lt, cases_Bool}
use Rattle.std.proofs.lemmas.Bool.Decides.{eqb_tells, Decides-ltb}
use Rattle.bn_circuits.specs.declared.line.Wire.{Wire}
use Rattle.bn_plan.specs.declared.tracked.Tracked.{Tracked}
use Rattle.bn_lists.specs.Lists.{Has}
use Rattle.bn_plan.specs.Wires.{lesser, greater}
use Rattle.bn_plan.specs.Plans.{untracked, wires_of, IsFree, TakesLeast, TakeLeast, IsPlan, tracks_of}
use Rattle.bn_plan.specs.Assigned.{is_free, first_free, tracked, assigned}
use Rattle.bn_plan.proofs.TrackLemmas.{Blocks, block_later}
use Rattle.bn_plan.proofs.PlanLemmas.{free_beyond, same_tracks}

-- the test on two numbers
ltb_tells : (a b : ℕ) → ((ltb a b ≡ true) × (a < b)) ⊎ ((ltb a b ≡ false) × (b ≤ a))
ltb_tells a b = elim (cases_lt a b) [
  | inl low ↦ inl ((Decides-ltb a b).1 low, low)
  | inr high ↦ elim (cases_Bool (ltb a b)) [
    | inl hit ↦ let low : a < b = (Decides-ltb a b).0 hit in absurd (omega (arith, low, high))
    | inr miss ↦ inr (miss, high)
  ]
]

-- the test says whether a track is free
free_tells : (earlier : List Tracked) (n : ℕ) (w : Wire) → ((is_free earlier n w ≡ true) × IsFree earlier n (lesser w))
    ⊎ ((is_free earlier n w ≡ false) × Blocks earlier n w)
free_tells [] n w = inl (refl, λ t h e. absurd h)
free_tells (t ∷ ts) n w = elim (eqb_tells t.track n) [
  | inr other ↦ elim (free_tells ts n w) [
    | inl free ↦ inl (rw (other.0, free.0) refl, λ s h e. passed free.1 (λ f. absurd (other.1 f)) s h e)
    | inr blocked ↦ inr (rw (other.0, blocked.0) refl, block_later t ts n w blocked.1)
  ]
  | inl same ↦ elim (ltb_tells (greater (untracked t)) (lesser w)) [
    | inr reaches ↦ inr (
      rw (same.0, reaches.0) refl,
      record {
        tracked = t;
        stands = inl refl;
        track = same.1;
        reaches = reaches.1;
      },
    )
    | inl before ↦ elim (free_tells ts n w) [
      | inl free ↦ inl (rw (same.0, before.0, free.0) refl, λ s h e. passed free.1 (λ _. before.1) s h e)
      | inr blocked ↦ inr (rw (same.0, before.0, blocked.0) refl, block_later t ts n w blocked.1)
    ]
  ]
]
  where
    passed : IsFree ts n (lesser w) → (t.track ≡ n → greater (untracked t) < lesser w) → (s : Tracked) → Has (t ∷ ts) s
        → s.track ≡ n → greater (untracked s) < lesser w
    passed free here s (inl e) f = subst (λ (x : Tracked). greater (untracked x) < lesser w) (sym e)
        (here (sym (ap (λ (x : Tracked). x.track) e) ∙ f))
    passed free here s (inr h) f = free s h f

-- a search from n on, where none before n is free
first_free_least : (earlier : List Tracked) (w : Wire) (fuel n : ℕ) → 0 < n → tracks_of earlier < n + fuel
    → ((m : ℕ) → 0 < m → m < n → IsFree earlier m (lesser w) → ⊥)
    → TakesLeast earlier (record { from = w.from; to = w.to; track = first_free earlier w fuel n })
first_free_least earlier w zero n some far before = record {
  counted = some;
  free = free_beyond earlier n w (omega (arith, far));
  least = before;
}
first_free_least earlier w (suc fuel) n some far before = elim (free_tells earlier n w) [
  | inl free ↦ rw free.0 (record { counted = some; free = free.1; least = before })
  | inr blocked ↦ rw blocked.0 (first_free_least earlier w fuel (suc n) (omega arith) (omega (arith, far))
      (λ m positive low free. elim (cases_lt m n) [
        | inl lower ↦ before m positive lower free
        | inr higher ↦
            let same : blocked.1.tracked.track ≡ m = omega (arith, blocked.1.track, higher, low) in
            let early = free blocked.1.tracked blocked.1.stands same in
            absurd (omega (arith, early, blocked.1.reaches))
      ]))
]

-- each wire takes its least track
assigned_least : (earlier : List Tracked) (ws : List Wire) → TakeLeast earlier (assigned earlier ws)
assigned_least earlier [] = tt
assigned_least earlier (w ∷ ws) = (
  first_free_least earlier w (tracks_of earlier) 1 (omega arith) (omega arith)
      (λ m some low. absurd (omega (arith, some, low))),
  assigned_least (tracked earlier w ∷ earlier) ws,
)

-- the wires stay as they are
assigned_wires : (earlier : List Tracked) (ws : List Wire) → wires_of (assigned earlier ws) ≡ ws
assigned_wires earlier [] = refl
assigned_wires earlier (w ∷ ws) = ap (λ vs. w ∷ vs) (assigned_wires (tracked earlier w ∷ earlier) ws)

-- a plan is what the function makes of its wires
pub plans_compute : (ws : List Wire) (plan : List Tracked) → IsPlan ws plan → plan ≡ assigned [] (wires_of plan)
plans_compute ws plan p = same_tracks [] plan (assigned [] (wires_of plan)) (sym (assigned_wires [] (wires_of plan)))
    p.tracks (assigned_least [] (wires_of plan))
