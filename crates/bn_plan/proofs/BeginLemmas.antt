-- A wire that begins takes the least track; and what is kept at the first and behind the last position.
use Rattle.std.specs.Prelude.{◌≡◌, ◌≢◌, ◌↔◌, ◌⊎◌, ℕ, ◌+◌, ◌<◌, ◌≤◌, max, List, [], ◌∷◌, ◌++◌, length, slice_set, get_or}
use Rattle.std.specs.Prelude.{Option, Some, None}
use Rattle.std.proofs.Common.{refl, sym, subst, ◌∙◌, ap, arith, inl, inr}
use Rattle.std.proofs.lemmas.Bool.{cases_lt}
use Rattle.std.proofs.lemmas.Bool.Decides.{eqb_tells}
use Rattle.std.proofs.lemmas.List.{get_or-set_same, get_or-set_other, length-set}
use Rattle.bn_circuits.specs.declared.line.Wire.{Wire}
use Rattle.bn_plan.specs.declared.tracked.Tracked.{Tracked}
use Rattle.bn_plan.specs.Lists.{Pairwise}
use Rattle.bn_lists.specs.Lists.{Has}
use Rattle.bn_plan.specs.Wires.{lesser, greater, AreRotary}
use Rattle.bn_plan.specs.Plans.{untracked, wires_of, IsFree, TakeLeast, tracks_of}
use Rattle.bn_plan.specs.Sweeping.{Swept, IsWidest, IsSwept, TakesFree, TakesNew, TakesTrack, placed}
use Rattle.bn_plan.proofs.ListLemmas.{in_map, in_map_cases}
use Rattle.bn_plan.proofs.PositionLemmas.{lesser_below, greaters_apart, lessers_apart, ends_apart}
use Rattle.bn_plan.proofs.SweepLemmas.{in_push, push_old, push_new, pairwise_push, tracks_of-push, moved_in, moved_back}
use Rattle.bn_plan.proofs.SweepLemmas.{moved_apart, take_least_push, known, within}

-- ---- a wire that begins

module _ (ws : List Wire) (r : AreRotary ws) (w : Wire) (s : Swept) (is : IsSwept ws (lesser w) s) (member : Has ws w)
  where
    -- it hasn't begun before, and no wire that has ends where it begins or ends
    ends_elsewhere : (t : Tracked) → Has s.wires t → greater (untracked t) ≢ greater w
    ends_elsewhere t h e =
        let know = known ws r (lesser w) s is t h in
        let same : untracked t ≡ w = greaters_apart ws r (untracked t) w know.0 member e in
        let also : lesser (untracked t) ≡ lesser w = ap lesser same in
        let low = know.1 in
        absurd (omega (arith, low, also))

    ends_before : (t : Tracked) → Has s.wires t → greater (untracked t) < lesser w + 1
        → greater (untracked t) < lesser w
    ends_before t h low = elim (cases_lt (greater (untracked t)) (lesser w)) [
      | inl less ↦ less
      | inr high ↦ absurd (ends_apart ws r (untracked t) w (known ws r (lesser w) s is t h).0 member
          (omega (arith, low, high)))
    ]

    -- with this track
    module _ (n : ℕ) where
      more_cases : (t : Tracked) → Has (s.wires ++ placed w n ∷ []) t → Has s.wires t ⊎ (t ≡ placed w n)
      more_cases = in_push s.wires (placed w n)

      order_more : Pairwise (λ (t u : Tracked). lesser (untracked t) < lesser (untracked u))
          (s.wires ++ placed w n ∷ [])
      order_more = pairwise_push (λ (t u : Tracked). lesser (untracked t) < lesser (untracked u)) s.wires (placed w n)
          is.order (λ t h. (known ws r (lesser w) s is t h).1)

      begun_more : (v : Wire) → Has (wires_of (s.wires ++ placed w n ∷ [])) v ↔ Has ws v × (lesser v < lesser w + 1)
      begun_more v = (there, back)
        where
          there : Has (wires_of (s.wires ++ placed w n ∷ [])) v → Has ws v × (lesser v < lesser w + 1)
          there h = let from = in_map_cases untracked (s.wires ++ placed w n ∷ []) v h in elim
              (more_cases from.0 from.1) [
                | inl k ↦
                    let know = known ws r (lesser w) s is from.0 k in
                    let low = know.1 in
                    subst (λ x. Has ws x × (lesser x < lesser w + 1)) (sym from.2) (know.0, omega (arith, low))
                | inr e ↦
                    let same : v ≡ w = from.2 ∙ ap untracked e in
                    subst (λ x. Has ws x × (lesser x < lesser w + 1)) (sym same)
                    (member, let self : lesser w ≡ lesser w = refl in omega (arith, self))
              ]

          back : Has ws v × (lesser v < lesser w + 1) → Has (wires_of (s.wires ++ placed w n ∷ [])) v
          back h = elim (cases_lt (lesser v) (lesser w)) [
            | inl low ↦
                let from = in_map_cases untracked s.wires v ((is.begun v).1 (h.0, low)) in
                subst (Has (wires_of (s.wires ++ placed w n ∷ []))) (sym from.2)
                (in_map untracked (s.wires ++ placed w n ∷ []) from.0 (push_old s.wires (placed w n) from.0 from.1))
            | inr high ↦
                let upper = h.1 in
                let same : v ≡ w = lessers_apart ws r v w h.0 member (omega (arith, high, upper)) in
                subst (Has (wires_of (s.wires ++ placed w n ∷ []))) (sym same)
                (in_map untracked (s.wires ++ placed w n ∷ []) (placed w n) (push_new s.wires (placed w n)))
          ]

      -- the positions at which wires end
      ends_more : greater w < length s.ending → (t : Tracked) → Has (s.wires ++ placed w n ∷ []) t
          → lesser w + 1 ≤ greater (untracked t)
          → get_or (slice_set s.ending (greater w) (Some n)) (greater (untracked t)) None ≡ Some t.track
      ends_more inside t h reach = elim (more_cases t h) [
        | inl k ↦ get_or-set_other s.ending (greater w) (greater (untracked t)) (Some n) None (ends_elsewhere t k)
            ∙ is.ends t k (omega (arith, reach))
        | inr e ↦ subst (λ (x : Tracked). get_or (slice_set s.ending (greater w) (Some n)) (greater (untracked x)) None
            ≡ Some x.track) (sym e) (get_or-set_same s.ending (greater w) (Some n) None inside)
      ]

      ended_more : (q m : ℕ) → lesser w + 1 ≤ q → q < length (slice_set s.ending (greater w) (Some n))
          → get_or (slice_set s.ending (greater w) (Some n)) q None ≡ Some m
          → (t : Tracked) × Has (s.wires ++ placed w n ∷ []) t × (greater (untracked t) ≡ q)
      ended_more q m reach more some = elim (eqb_tells q (greater w)) [
        | inl same ↦ (placed w n, push_new s.wires (placed w n), sym same.1)
        | inr other ↦
            let stays : get_or (slice_set s.ending (greater w) (Some n)) q None ≡ get_or s.ending q None =
            get_or-set_other s.ending (greater w) q (Some n) None other.1 in
            let size : length (slice_set s.ending (greater w) (Some n)) ≡ length s.ending =
            length-set s.ending (greater w) (Some n) in
            let found = is.ended q m (omega (arith, reach)) (omega (arith, more, size)) (sym stays ∙ some) in
            (found.0, push_old s.wires (placed w n) found.0 found.1, found.2)
      ]

      -- the track is the least one that is free, if it is free and no lesser one is
      least_more : 0 < n → IsFree s.wires n (lesser w) → ((m : ℕ) → 0 < m → m < n → IsFree s.wires m (lesser w) → ⊥)
          → TakeLeast [] (s.wires ++ placed w n ∷ [])
      least_more some free least = take_least_push s.wires (placed w n) is.least
          (record { counted = some; free = free; least = least })

      -- a track that is free behind the wire isn't the wire's own
      other_track : (m : ℕ) → IsFree (s.wires ++ placed w n ∷ []) m (lesser w + 1) → m ≢ n
      other_track m free e =
          let early = free (placed w n) (push_new s.wires (placed w n)) (sym e) in
          let below = lesser_below ws r w member in
          absurd (omega (arith, early, below))

      free_old : (m : ℕ) → IsFree (s.wires ++ placed w n ∷ []) m (lesser w + 1) → IsFree s.wires m (lesser w)
      free_old m free t h e = ends_before t h (free t (push_old s.wires (placed w n) t h) e)

      free_more : (m : ℕ) → m ≢ n → IsFree s.wires m (lesser w) → IsFree (s.wires ++ placed w n ∷ []) m (lesser w + 1)
      free_more m other free t h e = elim (more_cases t h) [
        | inl k ↦ let early = free t k e in omega (arith, early)
        | inr same ↦ absurd (other (sym e ∙ ap (λ (x : Tracked). x.track) same))
      ]

    -- on a track that was free
    swept_free : (n : ℕ) (new : Swept) → greater w < length s.ending → TakesFree s n new
        → IsSwept ws (lesser w + 1) (record {
          wires = s.wires ++ placed w n ∷ [];
          free = new.free;
          ending = slice_set s.ending (greater w) (Some n);
          tracks = new.tracks;
          densest = new.densest;
        })
    swept_free n new inside takes = record {
      order = order_more n;
      least = least_more n was.0 was.2 lesser_taken;
      begun = begun_more n;
      tracks = tracks_of-push s.wires (placed w n) ∙ widest;
      few = let few = is.few in let same = takes.tracks in omega (arith, few, same);
      free = λ m. (there m, back m);
      once = apart.1;
      ends = ends_more n inside;
      ended = ended_more n;
      densest = still is.densest;
    }
      where
        was : (0 < n) × (n ≤ s.tracks) × IsFree s.wires n (lesser w)
        was = (is.free n).0 (moved_back s.free (n ∷ new.free) takes.taken n (inl refl))

        lesser_taken : (m : ℕ) → 0 < m → m < n → IsFree s.wires m (lesser w) → ⊥
        lesser_taken m some low free =
            let here = (is.free m).1 (some, let top = was.1 in omega (arith, low, top), free) in
            let bound = takes.least m here in
            absurd (omega (arith, low, bound))

        widest : max (tracks_of s.wires) n ≡ new.tracks
        widest = let top = was.1 in let same = takes.tracks in let all = is.tracks in omega (arith, top, same, all)

        apart : Pairwise (λ (x y : ℕ). x ≢ y) (n ∷ new.free)
        apart = moved_apart s.free (n ∷ new.free) takes.taken is.once

        there : (m : ℕ) → Has new.free m → (0 < m) × (m ≤ new.tracks)
            × IsFree (s.wires ++ placed w n ∷ []) m (lesser w + 1)
        there m h =
            let old = (is.free m).0 (moved_back s.free (n ∷ new.free) takes.taken m (inr h)) in (
              old.0,
              let low = old.1 in let same = takes.tracks in omega (arith, low, same),
              free_more n m (λ e. apart.0 m h (sym e)) old.2,
            )

        back : (m : ℕ) → (0 < m) × (m ≤ new.tracks) × IsFree (s.wires ++ placed w n ∷ []) m (lesser w + 1)
            → Has new.free m
        back m h =
            let old = (is.free m).1 (
              h.0,
              (let low = h.1 in let same = takes.tracks in omega (arith, low, same)),
              free_old n m h.2,
            ) in
            elim (moved_in s.free (n ∷ new.free) takes.taken m old)
            [ inl e ↦ absurd (other_track n m h.2 e) | inr k ↦ k ]

        still : ((s.tracks ≡ 0) × (s.densest ≡ 0)) ⊎ IsWidest s.wires s.tracks s.densest
            → ((new.tracks ≡ 0) × (new.densest ≡ 0)) ⊎ IsWidest (s.wires ++ placed w n ∷ []) new.tracks new.densest
        still (inl h) = inl (takes.tracks ∙ h.0, takes.densest ∙ h.1)
        still (inr h) = inr (record {
          first = h.first;
          stands = push_old s.wires (placed w n) h.first h.stands;
          track = h.track ∙ sym takes.tracks;
          begins = h.begins ∙ sym takes.densest;
          before = before;
        })
          where
            before : (t : Tracked) → Has (s.wires ++ placed w n ∷ []) t → lesser (untracked t) < new.densest
                → t.track < new.tracks
            before t k low = elim (more_cases n t k) [
              | inl l ↦ let less = h.before t l (let same = takes.densest in omega (arith, low, same)) in let same =
                  takes.tracks in omega (arith, less, same)
              | inr e ↦
                  let place : lesser (untracked t) ≡ lesser w = ap (λ (x : Tracked). lesser (untracked x)) e in
                  let early = (known ws r (lesser w) s is h.first h.stands).1 in
                  let begins = h.begins in
                  let same = takes.densest in
                  absurd (omega (arith, low, place, early, begins, same))
            ]

    -- on a new track
    swept_new : (n : ℕ) (new : Swept) → greater w < length s.ending → TakesNew s (lesser w) n new
        → IsSwept ws (lesser w + 1) (record {
          wires = s.wires ++ placed w n ∷ [];
          free = new.free;
          ending = slice_set s.ending (greater w) (Some n);
          tracks = new.tracks;
          densest = new.densest;
        })
    swept_new n new inside takes = record {
      order = order_more n;
      least = least_more n (let next = takes.is_next in omega (arith, next)) unused lesser_taken;
      begun = begun_more n;
      tracks = tracks_of-push s.wires (placed w n) ∙ widest;
      few = let few = is.few in let next = takes.is_next in let same = takes.tracks in omega (arith, few, next, same);
      free = λ m. ((λ h. absurd (subst (λ x. Has x m) takes.none_left h)), back m);
      once = subst (Pairwise (λ (x y : ℕ). x ≢ y)) (sym takes.none_left) tt;
      ends = ends_more n inside;
      ended = ended_more n;
      densest = inr (record {
        first = placed w n;
        stands = push_new s.wires (placed w n);
        track = sym takes.tracks;
        begins = sym takes.densest;
        before = before;
      });
    }
      where
        unused : IsFree s.wires n (lesser w)
        unused t h e = let low = within ws r (lesser w) s is t h in let next =
            takes.is_next in absurd (omega (arith, low, e, next))

        lesser_taken : (m : ℕ) → 0 < m → m < n → IsFree s.wires m (lesser w) → ⊥
        lesser_taken m some low free = absurd (subst (λ x. Has x m) takes.none_free
            ((is.free m).1 (some, (let next = takes.is_next in omega (arith, low, next)), free)))

        widest : max (tracks_of s.wires) n ≡ new.tracks
        widest = let next = takes.is_next in let same = takes.tracks in let all =
            is.tracks in omega (arith, next, same, all)

        back : (m : ℕ) → (0 < m) × (m ≤ new.tracks) × IsFree (s.wires ++ placed w n ∷ []) m (lesser w + 1)
            → Has new.free m
        back m h = elim (eqb_tells m n) [
          | inl e ↦ absurd (other_track n m h.2 e.1)
          | inr other ↦
              let differ = other.1 in
              let low = h.1 in
              let next = takes.is_next in
              let same = takes.tracks in
              let few : m ≤ s.tracks = omega (arith, differ, low, next, same) in
              absurd (subst (λ x. Has x m) takes.none_free ((is.free m).1 (h.0, few, free_old n m h.2)))
        ]

        before : (t : Tracked) → Has (s.wires ++ placed w n ∷ []) t → lesser (untracked t) < new.densest
            → t.track < new.tracks
        before t k low = elim (more_cases n t k) [
          | inl l ↦ let bound = within ws r (lesser w) s is t l in let next = takes.is_next in let same =
              takes.tracks in omega (arith, bound, next, same)
          | inr e ↦
              let place : lesser (untracked t) ≡ lesser w = ap (λ (x : Tracked). lesser (untracked x)) e in
              let same = takes.densest in
              absurd (omega (arith, low, place, same))
        ]

    pub swept_begin : (n : ℕ) (new : Swept) → greater w < length s.ending → TakesTrack s (lesser w) n new
        → IsSwept ws (lesser w + 1) (record {
          wires = s.wires ++ placed w n ∷ [];
          free = new.free;
          ending = slice_set s.ending (greater w) (Some n);
          tracks = new.tracks;
          densest = new.densest;
        })
    swept_begin n new inside t = elim t.takes [
      | inl free ↦ swept_free n new inside free
      | inr next ↦ swept_new n new inside next
    ]

-- ---- as the code has it

-- a wire that takes this track is written behind the others, and its track where it ends
pub begin_swept : (w : Wire) (s new : Swept) (n p g : ℕ) → p ≡ lesser w → g ≡ greater w → TakesTrack s p n new
    → g < length new.ending
    → (wires : List Tracked) (ending : List (Option ℕ)) → wires ≡ new.wires ++ placed w n ∷ []
    → ending ≡ slice_set new.ending g (Some n)
    → (ws : List Wire) → AreRotary ws → Has ws w → IsSwept ws (lesser w) s
    → IsSwept ws (lesser w + 1) (record {
      wires = wires;
      free = new.free;
      ending = ending;
      tracks = new.tracks;
      densest = new.densest;
    })
begin_swept w s new n p g first last takes inside wires ending all track ws r member is =
    let old : TakesTrack s (lesser w) n new = subst (λ x. TakesTrack s x n new) first takes in
    let size : length s.ending ≡ length new.ending = ap (λ (xs : List (Option ℕ)). length xs) (sym takes.ending) in
    let done = swept_begin ws r w s is member n new (omega (arith, inside, size, last)) old in
    let wires_are : s.wires ++ placed w n ∷ [] ≡ wires = ap (λ ts. ts ++ placed w n ∷ []) (sym takes.wires) ∙ sym all in
    let tracks_are : slice_set s.ending (greater w) (Some n) ≡ ending =
    ap (λ xs. slice_set xs (greater w) (Some n)) (sym takes.ending)
    ∙ ap (λ x. slice_set new.ending x (Some n)) (sym last) ∙ sym track in
    subst (λ ts. IsSwept ws (lesser w + 1) (record {
      wires = ts;
      free = new.free;
      ending = ending;
      tracks = new.tracks;
      densest = new.densest;
    })) wires_are
    (subst (λ xs. IsSwept ws (lesser w + 1) (record {
      wires = s.wires ++ placed w n ∷ [];
      free = new.free;
      ending = xs;
      tracks = new.tracks;
      densest = new.densest;
    })) tracks_are done)

-- a position up to the greater end is still one
pub still_within : (s new : Swept) (p n end g : ℕ) → g ≤ end → TakesTrack s p n new → end < length s.ending
    → g < length new.ending
still_within s new p n end g last takes inside =
    let size : length new.ending ≡ length s.ending = ap (λ (xs : List (Option ℕ)). length xs) takes.ending in
    omega (arith, inside, size, last)
