-- Tracks: wires of one track fit, no assignment has fewer tracks than wires cover a position, and the plan has no more.
use Rattle.std.specs.Prelude.{◌≡◌, ◌≢◌, ℕ, zero, suc, ◌+◌, ◌<◌, ◌≤◌, Bool, true, cond, List, [], ◌∷◌, length, map, ◌⊎◌}
use Rattle.std.specs.List.{count_by, filter}
use Rattle.std.specs.List.Sorted.{IsPermutation}
use Rattle.std.proofs.Common.{refl, sym, subst, ◌∙◌, ap, arith, inl, inr}
use Rattle.std.proofs.lemmas.Bool.{cases_lt}
use Rattle.std.proofs.lemmas.Bool.Decides.{eqb_tells}
use Rattle.std.proofs.lemmas.List.{length-map}
use Rattle.std.proofs.lemmas.List.Sums.{length-filter}
use Rattle.std.proofs.lemmas.List.Sorted.{sum_by-IsPermutation}
use Rattle.bn_circuits.specs.declared.line.Wire.{Wire}
use Rattle.bn_plan.specs.declared.tracked.Tracked.{Tracked}
use Rattle.bn_plan.specs.Lists.{Pairwise}
use Rattle.bn_lists.specs.Lists.{Has}
use Rattle.bn_plan.specs.Wires.{lesser, greater, Covers, covers, Fit, density, IsDensest}
use Rattle.bn_plan.specs.Plans.{untracked, wires_of, IsFree, TakeLeast, IsPlan, tracks_of, TracksFit, IsAssignment}
use Rattle.bn_plan.specs.Plans.{HasTracks}
use Rattle.bn_plan.proofs.ListLemmas.{in_map, in_map_cases, pairwise_weaker, pairwise_map, pairwise_filter, in_filter}
use Rattle.bn_plan.proofs.ListLemmas.{filter_in, count-cons, count-map, no_longer, down_from, length-down_from}
use Rattle.bn_plan.proofs.ListLemmas.{down_from_in, down_from_within, down_from_apart}
use Rattle.bn_plan.proofs.DensityLemmas.{covers_is, covers_true, covers_start}

-- ---- wires of one track fit

-- a wire that ends before another fits with it
apart_fit : (v w : Wire) → greater v < lesser w → Fit v w
apart_fit v w before p a b = absurd (omega (arith, before, a.ends, b.starts))

-- an earlier wire and a later one of its track
fits_earlier : (earlier ts : List Tracked) → TakeLeast earlier ts → (s t : Tracked) → Has earlier s → Has ts t
    → s.track ≡ t.track → Fit (untracked s) (untracked t)
fits_earlier earlier [] a s t h k e = absurd k
fits_earlier earlier (u ∷ ts) a s t h (inl same) e =
    apart_fit (untracked s) (untracked t) (subst (λ (x : Tracked). greater (untracked s) < lesser (untracked x))
    (sym same) (a.0.free s h (e ∙ ap (λ (x : Tracked). x.track) same)))
fits_earlier earlier (u ∷ ts) a s t h (inr k) e = fits_earlier (u ∷ earlier) ts a.1 s t (inr h) k e

-- so those of one track fit
pub tracks_fit : (earlier ts : List Tracked) → TakeLeast earlier ts → TracksFit ts
tracks_fit earlier [] a = tt
tracks_fit earlier (t ∷ ts) a = (
  (λ s h. fits_earlier (t ∷ earlier) ts a.1 t s (inl refl) h),
  tracks_fit (t ∷ earlier) ts a.1,
)

-- in a plan
pub plans_fit : (ws : List Wire) (plan : List Tracked) → IsPlan ws plan → TracksFit plan
plans_fit ws plan p = tracks_fit [] plan p.tracks

-- ---- how many wires with tracks cover a position

-- the test on a wire with its track
abbrev pub covers_at : ℕ → Tracked → Bool
covers_at p t = covers p (untracked t)

-- the tracks of the wires that cover the position
abbrev pub tracks_at : ℕ → List Tracked → List ℕ
tracks_at p ts = map (λ (t : Tracked). t.track) (filter (covers_at p) ts)

-- they are as many as the wires
pub length-tracks_at : (p : ℕ) (ts : List Tracked) → length (tracks_at p ts) ≡ count_by (covers_at p) ts
length-tracks_at p ts = length-map (filter (covers_at p) ts) (λ (t : Tracked). t.track) ∙ length-filter (covers_at p) ts

-- the same as of the wires, in any order
pub density_of : (ws : List Wire) (ts : List Tracked) (p : ℕ) → IsPermutation ws (wires_of ts)
    → density ws p ≡ count_by (covers_at p) ts
density_of ws ts p all = sym (sum_by-IsPermutation (λ w. cond (covers p w) 1 0) ws (wires_of ts) all)
    ∙ count-map (covers p) untracked ts

-- ---- no assignment has fewer tracks

-- the wires at one position have different tracks
pub cover_bound : (ts : List Tracked) (used : List ℕ) (p : ℕ) → TracksFit ts
    → ((t : Tracked) → Has ts t → Covers p (untracked t) → Has used t.track) → count_by (covers_at p) ts ≤ length used
cover_bound ts used p fit has =
    let apart = pairwise_map (λ x y. x ≢ y) (λ (t : Tracked). t.track) (filter (covers_at p) ts)
    (pairwise_weaker (λ (s t : Tracked). s.track ≡ t.track → Fit (untracked s) (untracked t))
    (λ (s t : Tracked). s.track ≢ t.track) (filter (covers_at p) ts) differ
    (pairwise_filter (λ (s t : Tracked). s.track ≡ t.track → Fit (untracked s) (untracked t)) (covers_at p) ts fit)) in
    let bound = no_longer (tracks_at p ts) used apart held in
    let count = length-tracks_at p ts in
    omega (arith, count, bound)
  where
    differ : (s t : Tracked) → Has (filter (covers_at p) ts) s → Has (filter (covers_at p) ts) t
        → (s.track ≡ t.track → Fit (untracked s) (untracked t)) → s.track ≢ t.track
    differ s t h k fits e = fits e p (covers_is p (untracked s) (filter_in (covers_at p) ts s h).1)
        (covers_is p (untracked t) (filter_in (covers_at p) ts t k).1)

    held : (x : ℕ) → Has (tracks_at p ts) x → Has used x
    held x h =
        let from = in_map_cases (λ (t : Tracked). t.track) (filter (covers_at p) ts) x h in
        let stays = filter_in (covers_at p) ts from.0 from.1 in
        subst (Has used) (sym from.2) (has from.0 stays.0 (covers_is p (untracked from.0) stays.1))

pub tracks_are_needed : (ws : List Wire) (ts : List Tracked) (used : List ℕ) (p : ℕ) → IsAssignment ws ts
    → HasTracks used ts → density ws p ≤ length used
tracks_are_needed ws ts used p a has =
    let count = density_of ws ts p a.all in
    let bound = cover_bound ts used p a.fit (λ t h _. has t h) in
    omega (arith, count, bound)

-- ---- the plan has no more

-- the wire of this track, of the earlier ones, that doesn't end before
pub record Blocks (earlier : List Tracked) (n : ℕ) (w : Wire) : Type 0 where
  pub tracked : Tracked
  pub stands : Has earlier tracked
  pub track : tracked.track ≡ n
  pub reaches : lesser w ≤ greater (untracked tracked)

-- the same among more wires
pub block_later : (t : Tracked) (ts : List Tracked) (n : ℕ) (w : Wire) → Blocks ts n w → Blocks (t ∷ ts) n w
block_later t ts n w b = record { tracked = b.tracked; stands = inr b.stands; track = b.track; reaches = b.reaches }

-- a track is free, or some wire blocks it
pub free_or_blocked : (earlier : List Tracked) (n : ℕ) (w : Wire) → IsFree earlier n (lesser w) ⊎ Blocks earlier n w
free_or_blocked [] n w = inl (λ t h e. absurd h)
free_or_blocked (t ∷ ts) n w = elim (free_or_blocked ts n w) [
  | inr blocked ↦ inr (block_later t ts n w blocked)
  | inl free ↦ elim (eqb_tells t.track n) [
    | inr other ↦ inl (λ s h e. passed free (λ f. absurd (other.1 f)) s h e)
    | inl same ↦ elim (cases_lt (greater (untracked t)) (lesser w)) [
      | inl before ↦ inl (λ s h e. passed free (λ _. before) s h e)
      | inr reaches ↦ inr (record { tracked = t; stands = inl refl; track = same.1; reaches = reaches })
    ]
  ]
]
  where
    passed : IsFree ts n (lesser w) → (t.track ≡ n → greater (untracked t) < lesser w) → (s : Tracked) → Has (t ∷ ts) s
        → s.track ≡ n → greater (untracked s) < lesser w
    passed free here s (inl e) f = subst (λ (x : Tracked). greater (untracked x) < lesser w) (sym e)
        (here (sym (ap (λ (x : Tracked). x.track) e) ∙ f))
    passed free here s (inr h) f = free s h f

-- where every track below T holds a wire that covers the position, T - 1 wires do
many_cover : (ts : List Tracked) (p m : ℕ) → ((n : ℕ) → 0 < n → n ≤ m
    → (t : Tracked) × Has ts t × (t.track ≡ n) × Covers p (untracked t)) → m ≤ count_by (covers_at p) ts
many_cover ts p m each =
    let bound = no_longer (down_from m) (tracks_at p ts) (down_from_apart m) held in
    let first = length-down_from m in
    let second = length-tracks_at p ts in
    omega (arith, bound, first, second)
  where
    held : (n : ℕ) → Has (down_from m) n → Has (tracks_at p ts) n
    held n h =
        let within = down_from_within m n h in
        let found = each n within.0 within.1 in
        subst (Has (tracks_at p ts)) found.2 (in_map (λ (t : Tracked). t.track) (filter (covers_at p) ts) found.0
        (in_filter (covers_at p) ts found.0 found.1 (covers_true p (untracked found.0) found.3)))

-- a wire's track is at most the number of wires that cover its lesser end
pub track_bound : (earlier ts : List Tracked) → ((s t : Tracked) → Has earlier s → Has ts t
    → lesser (untracked s) ≤ lesser (untracked t)) → Pairwise (λ (s t : Tracked). lesser (untracked s)
    ≤ lesser (untracked t)) ts → TakeLeast earlier ts → (t : Tracked) → Has ts t
    → t.track ≤ count_by (covers_at (lesser (untracked t))) earlier + count_by (covers_at (lesser (untracked t))) ts
track_bound earlier [] before order a t h = absurd h
track_bound earlier (u ∷ ts) before order a t (inr h) =
    let rest = track_bound (u ∷ earlier) ts still order.1 a.1 t h in
    let first = count-cons (covers_at (lesser (untracked t))) u earlier in
    let second = count-cons (covers_at (lesser (untracked t))) u ts in
    omega (arith, rest, first, second)
  where
    still : (s t : Tracked) → Has (u ∷ earlier) s → Has ts t → lesser (untracked s) ≤ lesser (untracked t)
    still s t (inl e) k = subst (λ (x : Tracked). lesser (untracked x) ≤ lesser (untracked t)) (sym e) (order.0 t k)
    still s t (inr h) k = before s t h (inr k)
track_bound earlier (u ∷ ts) before order a t (inl e) = subst
    (λ (x : Tracked). x.track ≤ count_by (covers_at (lesser (untracked x))) earlier
    + count_by (covers_at (lesser (untracked x))) (u ∷ ts)) (sym e) here
  where
    covered : (m : ℕ) → suc m ≡ u.track → (n : ℕ) → 0 < n → n ≤ m
        → (s : Tracked) × Has earlier s × (s.track ≡ n) × Covers (lesser (untracked u)) (untracked s)
    covered m sum n some h = elim (free_or_blocked earlier n (untracked u)) [
      | inl free ↦ absurd (a.0.least n some (omega (arith, sum, h)) free)
      | inr b ↦ (
        b.tracked,
        b.stands,
        b.track,
        record {
          starts = before b.tracked u b.stands (inl refl);
          ends = b.reaches;
        },
      )
    ]

    by_track : (m : ℕ) → suc m ≡ u.track → u.track ≤ count_by (covers_at (lesser (untracked u))) earlier
        + count_by (covers_at (lesser (untracked u))) (u ∷ ts)
    by_track m sum =
        let many = many_cover earlier (lesser (untracked u)) m (covered m sum) in
        let own : covers (lesser (untracked u)) (untracked u) ≡ true =
        covers_true (lesser (untracked u)) (untracked u) (covers_start (untracked u)) in
        let count : count_by (covers_at (lesser (untracked u))) (u ∷ ts)
        ≡ 1 + count_by (covers_at (lesser (untracked u))) ts = count-cons (covers_at (lesser (untracked u))) u ts
        ∙ ap (λ b. cond b 1 0 + count_by (covers_at (lesser (untracked u))) ts) own in
        omega (arith, many, count, sum)

    here : u.track ≤ count_by (covers_at (lesser (untracked u))) earlier
        + count_by (covers_at (lesser (untracked u))) (u ∷ ts)
    here = from_track u.track refl a.0.counted
      where
        from_track : (k : ℕ) → k ≡ u.track → 0 < u.track → u.track
            ≤ count_by (covers_at (lesser (untracked u))) earlier + count_by (covers_at (lesser (untracked u))) (u ∷ ts)
        from_track zero e some = absurd (omega (arith, e, some))
        from_track (suc m) e some = by_track m e

-- ---- the tracks that are used

-- no track is beyond the greatest
pub below_tracks_of : (ts : List Tracked) (t : Tracked) → Has ts t → t.track ≤ tracks_of ts
below_tracks_of [] t h = absurd h
below_tracks_of (u ∷ ts) t (inl e) = let same : t.track ≡ u.track =
    ap (λ (x : Tracked). x.track) e in omega (arith, same)
below_tracks_of (u ∷ ts) t (inr h) = let rest = below_tracks_of ts t h in omega (arith, rest)

-- a bound on each is one on the greatest
tracks_bound : (ts : List Tracked) (d : ℕ) → ((t : Tracked) → Has ts t → t.track ≤ d) → tracks_of ts ≤ d
tracks_bound [] d each = omega arith
tracks_bound (t ∷ ts) d each = let here = each t (inl refl) in let rest =
    tracks_bound ts d (λ s h. each s (inr h)) in omega (arith, here, rest)

-- the greatest is one of them
greatest_used : (ts : List Tracked) → 0 < tracks_of ts → (t : Tracked) × Has ts t × (t.track ≡ tracks_of ts)
greatest_used [] some = absurd (omega arith)
greatest_used (t ∷ ts) some = elim (cases_lt t.track (tracks_of ts)) [
  | inl less ↦ let rest = greatest_used ts (omega (arith, less)) in (rest.0, inr rest.1, rest.2 ∙ omega (arith, less))
  | inr more ↦ (t, inl refl, omega (arith, more))
]

-- tracks count from 1
pub all_counted : (earlier ts : List Tracked) → TakeLeast earlier ts → (t : Tracked) → Has ts t → 0 < t.track
all_counted earlier [] a t h = absurd h
all_counted earlier (u ∷ ts) a t (inl e) = subst (λ (x : Tracked). 0 < x.track) (sym e) a.0.counted
all_counted earlier (u ∷ ts) a t (inr h) = all_counted (u ∷ earlier) ts a.1 t h

-- below a track that is used all are used
below_used : (earlier ts : List Tracked) → TakeLeast earlier ts → (t : Tracked) → Has ts t → (n : ℕ) → 0 < n
    → n < t.track → (s : Tracked) × (Has earlier s ⊎ Has ts s) × (s.track ≡ n)
below_used earlier [] a t h n some low = absurd h
below_used earlier (u ∷ ts) a t (inl e) n some low =
    let same : t.track ≡ u.track = ap (λ (x : Tracked). x.track) e in
    elim (free_or_blocked earlier n (untracked u)) [
      | inl free ↦ absurd (a.0.least n some (omega (arith, low, same)) free)
      | inr b ↦ (b.tracked, inl b.stands, b.track)
    ]
below_used earlier (u ∷ ts) a t (inr h) n some low = placed (below_used (u ∷ earlier) ts a.1 t h n some low)
  where
    moved : (s : Tracked) → (Has (u ∷ earlier) s ⊎ Has ts s) → Has earlier s ⊎ Has (u ∷ ts) s
    moved s (inl (inl e)) = inr (inl e)
    moved s (inl (inr k)) = inl k
    moved s (inr k) = inr (inr k)

    placed : ((s : Tracked) × (Has (u ∷ earlier) s ⊎ Has ts s) × (s.track ≡ n))
        → (s : Tracked) × (Has earlier s ⊎ Has (u ∷ ts) s) × (s.track ≡ n)
    placed p = (p.0, moved p.0 p.1, p.2)

-- the plan uses the tracks up to the greatest density
pub plans_use_no_more : (ws : List Wire) (plan : List Tracked) (d p : ℕ) → IsPlan ws plan → IsDensest ws d p
    → (tracks_of plan ≡ d) × ((t : Tracked) → Has plan t → (0 < t.track) × (t.track ≤ d))
    × ((n : ℕ) → 0 < n → n ≤ d → (t : Tracked) × Has plan t × (t.track ≡ n))
plans_use_no_more ws plan d p a densest = (same, (λ t h. (all_counted [] plan a.tracks t h, each t h)), used)
  where
    each : (t : Tracked) → Has plan t → t.track ≤ d
    each t h =
        let bound = track_bound [] plan (λ s u k l. absurd k) a.order a.tracks t h in
        let count = density_of ws plan (lesser (untracked t)) a.all in
        let most = densest.greatest (lesser (untracked t)) in
        omega (arith, bound, count, most)

    same : tracks_of plan ≡ d
    same =
        let few = tracks_bound plan d each in
        let used = down_from (tracks_of plan) in
        let needed = tracks_are_needed ws plan (down_from (tracks_of plan)) p
        (record { all = a.all; fit = plans_fit ws plan a }) (λ t h. down_from_in (tracks_of plan) t.track
        (all_counted [] plan a.tracks t h) (below_tracks_of plan t h)) in
        let long = length-down_from (tracks_of plan) in
        omega (arith, few, needed, long, densest.reached)

    used : (n : ℕ) → 0 < n → n ≤ d → (t : Tracked) × Has plan t × (t.track ≡ n)
    used n some h =
        let top = greatest_used plan (omega (arith, same, some, h)) in
        elim (cases_lt n top.0.track) [
          | inl low ↦ let found = below_used [] plan a.tracks top.0 top.1 n some low in
              (found.0, elim found.1 [ inl none ↦ absurd none | inr there ↦ there ], found.2)
          | inr high ↦ (top.0, top.1, omega (arith, high, top.2, same, h))
        ]
