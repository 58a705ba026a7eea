-- Wires have a plan; those that begin at different positions have only one.
use Rattle.std.specs.Prelude.{◌≡◌, ◌≢◌, ◌↔◌, ℕ, zero, suc, ◌+◌, ◌<◌, ◌≤◌, List, [], ◌∷◌, map, eqb, ◌⊎◌}
use Rattle.std.specs.List.{IsDistinct}
use Rattle.std.specs.List.Sorted.{IsPermutation}
use Rattle.std.proofs.Common.{refl, sym, subst, ◌∙◌, ap, arith, inl, inr}
use Rattle.std.proofs.lemmas.Bool.{cases_lt}
use Rattle.std.proofs.lemmas.List.Sorted.{IsPermutation-refl, IsPermutation-cons, IsPermutation-trans}
use Rattle.std.proofs.lemmas.List.Sorted.{IsPermutation-middle, IsPermutation-sym, IsPermutation-map}
use Rattle.std.proofs.lemmas.List.Sorted.{Contains-permutation}
use Rattle.std.proofs.lemmas.Map.Keys.{IsDistinct-IsPermutation}
use Rattle.bn_circuits.specs.declared.line.Wire.{Wire}
use Rattle.bn_plan.specs.declared.tracked.Tracked.{Tracked}
use Rattle.bn_plan.specs.Lists.{Pairwise}
use Rattle.bn_lists.specs.Lists.{Has}
use Rattle.bn_plan.specs.Wires.{lesser}
use Rattle.bn_plan.specs.Plans.{untracked, wires_of, IsFree, TakesLeast, TakeLeast, IsPlan, tracks_of}
use Rattle.bn_plan.proofs.ListLemmas.{pairwise_weaker, pairwise_map, pairwise_unmap, pairwise_both, distinct_pairwise}
use Rattle.bn_plan.proofs.ListLemmas.{in_contains, contains_in, eqb_flips}
use Rattle.bn_plan.proofs.TrackLemmas.{free_or_blocked, below_tracks_of}

-- ---- the wires in order

-- wires in the order of their lesser ends
abbrev pub InOrder : List Wire → Type 0
InOrder ws = Pairwise (λ v w. lesser v ≤ lesser w) ws

-- a list with one wire more, in order
record Inserted (w : Wire) (ws zs : List Wire) : Type 0 where
  order : InOrder zs
  all : IsPermutation (w ∷ ws) zs
  from : (v : Wire) → Has zs v → (v ≡ w) ⊎ Has ws v

-- before the first
insert_first : (w v : Wire) (vs : List Wire) → InOrder (v ∷ vs) → lesser w ≤ lesser v → Inserted w (v ∷ vs) (w ∷ v ∷ vs)
insert_first w v vs order low = record {
  order = (first, order);
  all = IsPermutation-refl (w ∷ v ∷ vs);
  from = λ u h. h;
}
  where
    first : (u : Wire) → Has (v ∷ vs) u → lesser w ≤ lesser u
    first u (inl e) = subst (λ x. lesser w ≤ lesser x) (sym e) low
    first u (inr h) = let next = order.0 u h in omega (arith, low, next)

-- behind the first
insert_later : (w v : Wire) (vs zs : List Wire) → InOrder (v ∷ vs) → lesser v < lesser w → Inserted w vs zs
    → Inserted w (v ∷ vs) (v ∷ zs)
insert_later w v vs zs order high rest = record {
  order = (
    λ u h. elim (rest.from u h) [
      | inl e ↦ subst (λ x. lesser v ≤ lesser x) (sym e) (omega (arith, high))
      | inr k ↦ order.0 u k
    ],
    rest.order,
  );
  all = IsPermutation-trans (w ∷ v ∷ vs) (v ∷ w ∷ vs) (v ∷ zs) (IsPermutation-middle (w ∷ []) v vs)
      (IsPermutation-cons v (w ∷ vs) zs rest.all);
  from = from;
}
  where
    from : (u : Wire) → Has (v ∷ zs) u → (u ≡ w) ⊎ Has (v ∷ vs) u
    from u (inl e) = inr (inl e)
    from u (inr h) = elim (rest.from u h) [ inl e ↦ inl e | inr k ↦ inr (inr k) ]

-- a wire has its place in every list in order
inserted : (w : Wire) (ws : List Wire) → InOrder ws → (zs : List Wire) × Inserted w ws zs
inserted w [] order = (
  w ∷ [],
  record {
    order = ((λ u h. absurd h), tt);
    all = IsPermutation-refl (w ∷ []);
    from = λ u h. h;
  },
)
inserted w (v ∷ vs) order = elim (cases_lt (lesser v) (lesser w)) [
  | inl high ↦ let rest = inserted w vs order.1 in (v ∷ rest.0, insert_later w v vs rest.0 order high rest.1)
  | inr low ↦ (w ∷ v ∷ vs, insert_first w v vs order low)
]

-- all wires in order
pub in_order : (ws : List Wire) → (zs : List Wire) × InOrder zs × IsPermutation ws zs
in_order [] = ([], tt, IsPermutation-refl [])
in_order (w ∷ ws) =
    let rest = in_order ws in
    let more = inserted w rest.0 rest.1 in (
      more.0,
      more.1.order,
      IsPermutation-trans (w ∷ ws) (w ∷ rest.0) more.0 (IsPermutation-cons w ws rest.0 rest.2) more.1.all,
    )

-- ---- a track for each

-- no wire has a track beyond the greatest
pub free_beyond : (earlier : List Tracked) (n : ℕ) (w : Wire) → tracks_of earlier < n → IsFree earlier n (lesser w)
free_beyond earlier n w far t h e = let low = below_tracks_of earlier t h in absurd (omega (arith, far, e, low))

-- the least free track from n on, where none before n is free
least_free : (earlier : List Tracked) (w : Wire) (fuel n : ℕ) → 0 < n → tracks_of earlier < n + fuel
    → ((m : ℕ) → 0 < m → m < n → IsFree earlier m (lesser w) → ⊥)
    → (t : Tracked) × (untracked t ≡ w) × TakesLeast earlier t
least_free earlier w zero n some far before = (
  record { from = w.from; to = w.to; track = n },
  refl,
  record { counted = some; free = free_beyond earlier n w (omega (arith, far)); least = before },
)
least_free earlier w (suc fuel) n some far before = elim (free_or_blocked earlier n w) [
  | inl free ↦ (
    record { from = w.from; to = w.to; track = n },
    refl,
    record { counted = some; free = free; least = before },
  )
  | inr blocked ↦ least_free earlier w fuel (suc n) (omega arith) (omega (arith, far))
      (λ m positive low free. elim (cases_lt m n) [
        | inl lower ↦ before m positive lower free
        | inr higher ↦
            let same : blocked.tracked.track ≡ m = omega (arith, blocked.track, higher, low) in
            let early = free blocked.tracked blocked.stands same in
            absurd (omega (arith, early, blocked.reaches))
      ])
]

-- tracks for wires one after another
assigned : (earlier : List Tracked) (ws : List Wire) → (ts : List Tracked) × (wires_of ts ≡ ws) × TakeLeast earlier ts
assigned earlier [] = ([], refl, tt)
assigned earlier (w ∷ ws) =
    let first = least_free earlier w (tracks_of earlier) 1 (omega arith) (omega arith)
    (λ m some low. absurd (omega (arith, some, low))) in
    let rest = assigned (first.0 ∷ earlier) ws in
    (first.0 ∷ rest.0, (λ i. first.1 i ∷ rest.1 i), (first.2, rest.2))

-- so there is a plan
pub plan_exists : (ws : List Wire) → (plan : List Tracked) × IsPlan ws plan
plan_exists ws =
    let sorted = in_order ws in
    let tracks = assigned [] sorted.0 in (
      tracks.0,
      record {
        all = subst (IsPermutation ws) (sym tracks.1) sorted.2;
        order = pairwise_unmap (λ v w. lesser v ≤ lesser w) untracked tracks.0 (subst InOrder (sym tracks.1) sorted.1);
        tracks = tracks.2;
      },
    )

-- ---- only one

-- two lists in strict order with the same elements are one
pub same_sorted : (xs ys : List Wire) → Pairwise (λ v w. lesser v < lesser w) xs
    → Pairwise (λ v w. lesser v < lesser w) ys → ((w : Wire) → Has xs w → Has ys w) → ((w : Wire) → Has ys w → Has xs w)
    → xs ≡ ys
same_sorted [] [] a b there back = refl
same_sorted [] (y ∷ ys) a b there back = absurd (back y (inl refl))
same_sorted (x ∷ xs) [] a b there back = absurd (there x (inl refl))
same_sorted (x ∷ xs) (y ∷ ys) a b there back = let rest = same_sorted xs ys a.1 b.1 tail_there tail_back in λ i. heads i
    ∷ rest i
  where
    by_heads : (x ≡ y) ⊎ Has ys x → (y ≡ x) ⊎ Has xs y → x ≡ y
    by_heads (inl e) k = e
    by_heads (inr h) (inl e) = sym e
    by_heads (inr h) (inr k) = let one = b.0 x h in let two = a.0 y k in absurd (omega (arith, one, two))

    heads : x ≡ y
    heads = by_heads (there x (inl refl)) (back y (inl refl))

    not_first : (w z : Wire) → lesser w < lesser z → z ≡ w → ⊥
    not_first w z low e = let same : lesser z ≡ lesser w = ap lesser e in absurd (omega (arith, low, same))

    tail_there : (w : Wire) → Has xs w → Has ys w
    tail_there w h = elim (there w (inr h)) [ inl e ↦ absurd (not_first x w (a.0 w h) (e ∙ sym heads)) | inr k ↦ k ]

    tail_back : (w : Wire) → Has ys w → Has xs w
    tail_back w h = elim (back w (inr h)) [ inl e ↦ absurd (not_first y w (b.0 w h) (e ∙ heads)) | inr k ↦ k ]

-- the wires of a plan are in strict order
strict : (ws : List Wire) (plan : List Tracked) → IsDistinct eqb (map lesser ws) → IsPlan ws plan
    → Pairwise (λ v w. lesser v < lesser w) (wires_of plan)
strict ws plan distinct p =
    let moved = IsDistinct-IsPermutation eqb eqb_flips (map lesser ws) (map lesser (wires_of plan))
    (IsPermutation-map lesser ws (wires_of plan) p.all) distinct in
    let apart = pairwise_unmap (λ x y. x ≢ y) lesser (wires_of plan)
    (distinct_pairwise (map lesser (wires_of plan)) moved) in
    let order = pairwise_map (λ v w. lesser v ≤ lesser w) untracked plan p.order in
    pairwise_weaker (λ v w. (lesser v ≤ lesser w) × (lesser v ≢ lesser w)) (λ v w. lesser v < lesser w) (wires_of plan)
    (λ v w h k both. let low = both.0 in let other = both.1 in omega (arith, low, other))
    (pairwise_both (λ v w. lesser v ≤ lesser w) (λ v w. lesser v ≢ lesser w) (wires_of plan) order apart)

-- the wires of one plan are in every other
pub moves_in : (xs ys : List Wire) → IsPermutation xs ys → (w : Wire) → Has xs w → Has ys w
moves_in xs ys all w h = let there = Contains-permutation xs ys w all (in_contains xs w h) in contains_in ys w there.0
    there.1 there.2

-- two plans of the same wires have them in the same order
same_wires : (ws vs : List Wire) (a b : List Tracked) → IsDistinct eqb (map lesser ws) → IsDistinct eqb (map lesser vs)
    → ((w : Wire) → Has ws w ↔ Has vs w) → IsPlan ws a → IsPlan vs b → wires_of a ≡ wires_of b
same_wires ws vs a b first second same p q = same_sorted (wires_of a) (wires_of b) (strict ws a first p)
    (strict vs b second q)
    (λ w h. moves_in vs (wires_of b) q.all w ((same w).0 (moves_in (wires_of a) ws
    (IsPermutation-sym ws (wires_of a) p.all) w h)))
    (λ w h. moves_in ws (wires_of a) p.all w ((same w).1 (moves_in (wires_of b) vs
    (IsPermutation-sym vs (wires_of b) q.all) w h)))

-- the least free track is one
least_once : (earlier : List Tracked) (s t : Tracked) → (untracked s) ≡ (untracked t) → TakesLeast earlier s
    → TakesLeast earlier t → s ≡ t
least_once earlier s t wires a b = let tracks = by_order (cases_lt s.track t.track) (cases_lt t.track s.track) in λ i.
    record { from = (wires i).from; to = (wires i).to; track = tracks i }
  where
    by_order : (s.track < t.track) ⊎ (t.track ≤ s.track) → (t.track < s.track) ⊎ (s.track ≤ t.track) → s.track ≡ t.track
    by_order (inl h) k = absurd (b.least s.track a.counted h (subst (λ w. IsFree earlier s.track (lesser w)) wires
        a.free))
    by_order (inr h) (inl k) = absurd (a.least t.track b.counted k
        (subst (λ w. IsFree earlier t.track (lesser w)) (sym wires) b.free))
    by_order (inr h) (inr k) = omega (arith, h, k)

-- the same wires take the same tracks
pub same_tracks : (earlier a b : List Tracked) → wires_of a ≡ wires_of b → TakeLeast earlier a → TakeLeast earlier b
    → a ≡ b
same_tracks earlier [] [] e p q = refl
same_tracks earlier [] (t ∷ b) e p q = absurd (cc)
same_tracks earlier (s ∷ a) [] e p q = absurd (cc)
same_tracks earlier (s ∷ a) (t ∷ b) e p q =
    let wires : (untracked s) ≡ (untracked t) = cc in
    let others : wires_of a ≡ wires_of b = cc in
    let first : s ≡ t = least_once earlier s t wires p.0 q.0 in
    let rest = same_tracks (s ∷ earlier) a b others p.1 (subst (λ x. TakeLeast (x ∷ earlier) b) (sym first) q.1) in
    λ i. first i ∷ rest i

-- so two plans are one
pub plan_once : (ws vs : List Wire) (a b : List Tracked) → IsDistinct eqb (map lesser ws)
    → IsDistinct eqb (map lesser vs) → ((w : Wire) → Has ws w ↔ Has vs w) → IsPlan ws a → IsPlan vs b → a ≡ b
plan_once ws vs a b first second same p q = same_tracks [] a b (same_wires ws vs a b first second same p q) p.tracks
    q.tracks
