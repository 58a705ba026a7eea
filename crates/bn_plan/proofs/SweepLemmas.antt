-- What is kept of the wires that have begun stays so from one position to the next.
use Rattle.std.specs.Prelude.{◌≡◌, ◌≢◌, ◌↔◌, ◌⊎◌, ℕ, zero, suc, ◌+◌, ◌<◌, ◌≤◌, max, List, [], ◌∷◌, ◌++◌, length, eqb}
use Rattle.std.specs.Prelude.{get_or, Some, None}
use Rattle.std.specs.List.Sorted.{IsPermutation}
use Rattle.std.proofs.Common.{refl, sym, subst, ◌∙◌, ap, arith, inl, inr}
use Rattle.std.proofs.lemmas.Bool.{cases_lt}
use Rattle.std.proofs.lemmas.Bool.Decides.{eqb_tells}
use Rattle.std.proofs.lemmas.List.Sorted.{IsPermutation-sym, Contains-permutation}
use Rattle.std.proofs.lemmas.Map.Keys.{IsDistinct-IsPermutation}
use Rattle.bn_circuits.specs.declared.line.Wire.{Wire}
use Rattle.bn_plan.specs.declared.tracked.Tracked.{Tracked}
use Rattle.bn_plan.specs.Lists.{Pairwise}
use Rattle.bn_lists.specs.Lists.{Has}
use Rattle.bn_plan.specs.Wires.{lesser, greater, Covers, Fit, AreRotary}
use Rattle.bn_plan.specs.Plans.{untracked, wires_of, IsFree, TakesLeast, TakeLeast, tracks_of}
use Rattle.bn_plan.specs.Sweeping.{Swept, IsSwept, BeginsAt}
use Rattle.bn_plan.proofs.ListLemmas.{in_map, in_contains, contains_in, distinct_pairwise, pairwise_distinct, eqb_flips}
use Rattle.bn_plan.proofs.TrackLemmas.{tracks_fit, below_tracks_of, all_counted}

-- ---- lists with one element more at their end

pub in_push : {X : Type 0} (xs : List X) (y x : X) → Has (xs ++ y ∷ []) x → Has xs x ⊎ (x ≡ y)
in_push [] y x (inl e) = inr e
in_push [] y x (inr h) = absurd h
in_push (z ∷ zs) y x (inl e) = inl (inl e)
in_push (z ∷ zs) y x (inr h) = elim (in_push zs y x h) [ inl k ↦ inl (inr k) | inr e ↦ inr e ]

pub push_old : {X : Type 0} (xs : List X) (y x : X) → Has xs x → Has (xs ++ y ∷ []) x
push_old [] y x h = absurd h
push_old (z ∷ zs) y x (inl e) = inl e
push_old (z ∷ zs) y x (inr h) = inr (push_old zs y x h)

pub push_new : {X : Type 0} (xs : List X) (y : X) → Has (xs ++ y ∷ []) y
push_new [] y = inl refl
push_new (z ∷ zs) y = inr (push_new zs y)

pub pairwise_push : {X : Type 0} (R : X → X → Type 0) (xs : List X) (y : X) → Pairwise R xs
    → ((x : X) → Has xs x → R x y) → Pairwise R (xs ++ y ∷ [])
pairwise_push R [] y a each = ((λ x h. absurd h), tt)
pairwise_push R (z ∷ zs) y a each = (first, pairwise_push R zs y a.1 (λ x h. each x (inr h)))
  where
    first : (x : _) → Has (zs ++ y ∷ []) x → R z x
    first x h = elim (in_push zs y x h) [ inl k ↦ a.0 x k | inr e ↦ subst (R z) (sym e) (each z (inl refl)) ]

-- two elements are one, or related one way or the other
pairwise_pick : {X : Type 0} (R : X → X → Type 0) (xs : List X) → Pairwise R xs → (x y : X) → Has xs x → Has xs y
    → (x ≡ y) ⊎ (R x y ⊎ R y x)
pairwise_pick R [] a x y h k = absurd h
pairwise_pick R (z ∷ zs) a x y (inl h) (inl k) = inl (h ∙ sym k)
pairwise_pick R (z ∷ zs) a x y (inl h) (inr k) = inr (inl (subst (λ w. R w y) (sym h) (a.0 y k)))
pairwise_pick R (z ∷ zs) a x y (inr h) (inl k) = inr (inr (subst (λ w. R w x) (sym k) (a.0 x h)))
pairwise_pick R (z ∷ zs) a x y (inr h) (inr k) = pairwise_pick R zs a.1 x y h k

pub tracks_of-push : (ts : List Tracked) (t : Tracked) → tracks_of (ts ++ t ∷ []) ≡ max (tracks_of ts) t.track
tracks_of-push [] t = omega arith
tracks_of-push (u ∷ us) t = let rest = tracks_of-push us t in omega (arith, rest)

-- elements of a list are those of another order of it
pub moved_in : {X : Type 0} (xs ys : List X) → IsPermutation xs ys → (x : X) → Has xs x → Has ys x
moved_in xs ys all x h = let there = Contains-permutation xs ys x all (in_contains xs x h) in contains_in ys x there.0
    there.1 there.2

pub moved_back : {X : Type 0} (xs ys : List X) → IsPermutation xs ys → (x : X) → Has ys x → Has xs x
moved_back xs ys all = moved_in ys xs (IsPermutation-sym xs ys all)

-- numbers without repeats stay so
pub moved_apart : (xs ys : List ℕ) → IsPermutation xs ys → Pairwise (λ m n. m ≢ n) xs → Pairwise (λ m n. m ≢ n) ys
moved_apart xs ys all a = distinct_pairwise ys (IsDistinct-IsPermutation eqb eqb_flips xs ys all
    (pairwise_distinct xs a))

-- ---- the least track of a wire more

-- a list laid backwards onto another
abbrev onto : List Tracked → List Tracked → List Tracked
onto [] ts = ts
onto (u ∷ us) ts = onto us (u ∷ ts)

in_onto : (us ts : List Tracked) (t : Tracked) → Has (onto us ts) t → Has us t ⊎ Has ts t
in_onto [] ts t h = inr h
in_onto (u ∷ us) ts t h = elim (in_onto us (u ∷ ts) t h) [
  | inl k ↦ inl (inr k)
  | inr k ↦ sides k
]
  where
    sides : Has (u ∷ ts) t → Has (u ∷ us) t ⊎ Has ts t
    sides (inl e) = inl (inl e)
    sides (inr k) = inr k

onto_below : (us ts : List Tracked) (t : Tracked) → Has ts t → Has (onto us ts) t
onto_below [] ts t h = h
onto_below (u ∷ us) ts t h = onto_below us (u ∷ ts) t (inr h)

onto_in : (us ts : List Tracked) (t : Tracked) → Has us t → Has (onto us ts) t
onto_in [] ts t h = absurd h
onto_in (u ∷ us) ts t (inl e) = onto_below us (u ∷ ts) t (inl e)
onto_in (u ∷ us) ts t (inr h) = onto_in us (u ∷ ts) t h

least_push : (earlier ts : List Tracked) (t : Tracked) → TakeLeast earlier ts → TakesLeast (onto ts earlier) t
    → TakeLeast earlier (ts ++ t ∷ [])
least_push earlier [] t a here = (here, tt)
least_push earlier (u ∷ us) t a here = (a.0, least_push (u ∷ earlier) us t a.1 here)

-- the order of the earlier wires doesn't matter
least_onto : (ts : List Tracked) (t : Tracked) → TakesLeast ts t → TakesLeast (onto ts []) t
least_onto ts t a = record {
  counted = a.counted;
  free = λ s h e. a.free s (back s h) e;
  least = λ n some low free. a.least n some low (λ s h e. free s (onto_in ts [] s h) e);
}
  where
    back : (s : Tracked) → Has (onto ts []) s → Has ts s
    back s h = elim (in_onto ts [] s h) [ inl k ↦ k | inr none ↦ absurd none ]

pub take_least_push : (ts : List Tracked) (t : Tracked) → TakeLeast [] ts → TakesLeast ts t
    → TakeLeast [] (ts ++ t ∷ [])
take_least_push ts t a here = least_push [] ts t a (least_onto ts t here)

-- ---- what holds at each position

module _ (ws : List Wire) (r : AreRotary ws) (p : ℕ) (s : Swept) (is : IsSwept ws p s) where
  -- a wire that has begun is one of the list's, and its lesser end is behind
  pub known : (t : Tracked) → Has s.wires t → Has ws (untracked t) × (lesser (untracked t) < p)
  known t h = (is.begun (untracked t)).0 (in_map untracked s.wires t h)

  pub counted : (t : Tracked) → Has s.wires t → 0 < t.track
  counted t h = all_counted [] s.wires is.least t h

  pub within : (t : Tracked) → Has s.wires t → t.track ≤ s.tracks
  within t h = let low = below_tracks_of s.wires t h in omega (arith, low, is.tracks)

  -- two wires of one track that both reach the position are one
  one_reaches : (t u : Tracked) → Has s.wires t → Has s.wires u → t.track ≡ u.track → p ≤ greater (untracked t)
      → p ≤ greater (untracked u) → t ≡ u
  one_reaches t u h k same low high = elim (pairwise_pick (λ (x y : Tracked). x.track ≡ y.track
      → Fit (untracked x) (untracked y)) s.wires (tracks_fit [] s.wires is.least) t u h k) [
        | inl e ↦ e
        | inr apart ↦ absurd (fits apart)
      ]
    where
      cover : (x : Tracked) → Has s.wires x → p ≤ greater (untracked x) → Covers p (untracked x)
      cover x l reach = let begun = (known x l).1 in record { starts = omega (arith, begun); ends = reach }

      fits : (t.track ≡ u.track → Fit (untracked t) (untracked u))
          ⊎ (u.track ≡ t.track → Fit (untracked u) (untracked t)) → ⊥
      fits (inl fit) = fit same p (cover t h low) (cover u k high)
      fits (inr fit) = fit (sym same) p (cover u k high) (cover t h low)

  -- where a wire of a track reaches the position, the track isn't free
  not_free : (t : Tracked) → Has s.wires t → p ≤ greater (untracked t) → Has s.free t.track → ⊥
  not_free t h reach k = let early = ((is.free t.track).0 k).2 t h refl in absurd (omega (arith, early, reach))

  -- the wires that have begun, at the next position
  begun_still : ((w : Wire) → BeginsAt ws p w → ⊥) → (w : Wire)
      → Has (wires_of s.wires) w ↔ Has ws w × (lesser w < p + 1)
  begun_still none w = ((λ h. let k = (is.begun w).0 h in let low = k.1 in (k.0, omega (arith, low))), back)
    where
      back : Has ws w × (lesser w < p + 1) → Has (wires_of s.wires) w
      back h = elim (cases_lt (lesser w) p) [
        | inl low ↦ (is.begun w).1 (h.0, low)
        | inr high ↦ let upper = h.1 in absurd (none w (h.0, omega (arith, high, upper)))
      ]

  -- ---- a position at which no wire begins

  -- nor ends
  pub swept_none : ((w : Wire) → BeginsAt ws p w → ⊥) → get_or s.ending p None ≡ None → IsSwept ws (p + 1) s
  swept_none none empty = record {
    order = is.order;
    least = is.least;
    begun = begun_still none;
    tracks = is.tracks;
    few = let few = is.few in omega (arith, few);
    free = λ n. (
      (λ h. let k = (is.free n).0 h in (k.0, k.1, λ t l e. let early = k.2 t l e in omega (arith, early))),
      λ h. (is.free n).1 (h.0, h.1, λ t l e. passed t l (h.2 t l e)),
    );
    once = is.once;
    ends = λ t h reach. is.ends t h (omega (arith, reach));
    ended = λ q n reach more some. is.ended q n (omega (arith, reach)) more some;
    densest = is.densest;
  }
    where
      passed : (t : Tracked) → Has s.wires t → greater (untracked t) < p + 1 → greater (untracked t) < p
      passed t h low = elim (cases_lt (greater (untracked t)) p) [
        | inl less ↦ less
        | inr high ↦
            let here : greater (untracked t) ≡ p = omega (arith, low, high) in
            let clash : Some t.track ≡ None = sym (is.ends t h high) ∙ ap (λ q. get_or s.ending q None) here ∙ empty in
            absurd (cc)
      ]

  -- but one ends
  pub swept_end : (free : List ℕ) (x : ℕ) → ((w : Wire) → BeginsAt ws p w → ⊥) → p < length s.ending
      → get_or s.ending p None ≡ Some x → IsPermutation (x ∷ s.free) free
      → IsSwept ws (p + 1) (record {
        wires = s.wires;
        free = free;
        ending = s.ending;
        tracks = s.tracks;
        densest = s.densest;
      })
  swept_end free x none inside some moved = record {
    order = is.order;
    least = is.least;
    begun = begun_still none;
    tracks = is.tracks;
    few = let few = is.few in omega (arith, few);
    free = λ n. (there n, back n);
    once = moved_apart (x ∷ s.free) free moved (
      (λ n h e. not_free (last.0) last.1 (omega (arith, last.2)) (subst (Has s.free) (sym e ∙ track) h)),
      is.once,
    );
    ends = λ t h reach. is.ends t h (omega (arith, reach));
    ended = λ q n reach more some_there. is.ended q n (omega (arith, reach)) more some_there;
    densest = is.densest;
  }
    where
      last : (t : Tracked) × Has s.wires t × (greater (untracked t) ≡ p)
      last = is.ended p x (omega arith) inside some

      -- the wire that ends at the position has the track that is kept there
      track_there : (t : Tracked) → Has s.wires t → greater (untracked t) ≡ p → x ≡ t.track
      track_there t h here =
          let both : Some x ≡ Some t.track = sym some ∙ ap (λ q. get_or s.ending q None) (sym here)
          ∙ is.ends t h (omega (arith, here)) in
          cc

      track : x ≡ last.0.track
      track = track_there last.0 last.1 last.2

      freed : (n : ℕ) → n ≡ x → (0 < n) × (n ≤ s.tracks) × IsFree s.wires n (p + 1)
      freed n e = (
        (let low = counted last.0 last.1 in omega (arith, e, track, low)),
        (let high = within last.0 last.1 in omega (arith, e, track, high)),
        ends_here,
      )
        where
          ends_here : IsFree s.wires n (p + 1)
          ends_here u h f = elim (cases_lt (greater (untracked u)) p) [
            | inl less ↦ omega (arith, less)
            | inr high ↦
                let same : u ≡ last.0 = one_reaches u last.0 h last.1 (f ∙ e ∙ track) high
                (let here = last.2 in omega (arith, here)) in
                let place : greater (untracked u) ≡ greater (untracked last.0) =
                ap (λ (y : Tracked). greater (untracked y)) same in
                let here = last.2 in
                omega (arith, place, here)
          ]

      sides : (n : ℕ) → Has (x ∷ s.free) n → (0 < n) × (n ≤ s.tracks) × IsFree s.wires n (p + 1)
      sides n (inl e) = freed n e
      sides n (inr h) = let k = (is.free n).0 h in (k.0, k.1, λ t l e. let early = k.2 t l e in omega (arith, early))

      there : (n : ℕ) → Has free n → (0 < n) × (n ≤ s.tracks) × IsFree s.wires n (p + 1)
      there n h = sides n (moved_back (x ∷ s.free) free moved n h)

      earlier : (n : ℕ) → n ≢ x → IsFree s.wires n (p + 1) → IsFree s.wires n p
      earlier n other ends t h e = elim (cases_lt (greater (untracked t)) p) [
        | inl less ↦ less
        | inr high ↦ let low = ends t h e in absurd (other (sym e ∙ sym (track_there t h (omega (arith, low, high)))))
      ]

      back : (n : ℕ) → (0 < n) × (n ≤ s.tracks) × IsFree s.wires n (p + 1) → Has free n
      back n h = moved_in (x ∷ s.free) free moved n (elim (eqb_tells n x) [
        | inl same ↦ inl same.1
        | inr other ↦ inr ((is.free n).1 (h.0, h.1, earlier n other.1 h.2))
      ])

-- ---- as the code has it

-- what was read at a position, whatever stands for a position that isn't there
pub read_is : {X : Type 0} (xs : List X) (i : ℕ) (x d : X) → i < length xs → x ≡ get_or xs i x → get_or xs i d ≡ x
read_is [] i x d h e = absurd (omega (arith, h))
read_is (y ∷ ys) zero x d h e = sym e
read_is (y ∷ ys) (suc i) x d h e = read_is ys i x d (omega (arith, h)) e
