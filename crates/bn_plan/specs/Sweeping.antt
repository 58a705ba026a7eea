-- The progress of a plan in a sweep over the positions from 0: the stored state of the wires that have begun.
use Rattle.std.specs.Prelude.{◌≡◌, ◌≢◌, ◌↔◌, ◌⊎◌, ℕ, ◌+◌, ◌<◌, ◌≤◌, List, [], ◌∷◌, Option, Some, None, get_or, length}
use Rattle.std.specs.List.Sorted.{IsPermutation}
use Rattle.bn_circuits.specs.declared.line.Wire.{Wire}
use Rattle.bn_plan.specs.declared.tracked.Tracked.{Tracked}
use Rattle.bn_plan.specs.Lists.{Pairwise}
use Rattle.bn_lists.specs.Lists.{Has}
use Rattle.bn_plan.specs.Wires.{lesser, greater}
use Rattle.bn_plan.specs.Plans.{FloorPlan, untracked, wires_of, IsFree, TakeLeast, tracks_of}

-- the wires that have begun; the free tracks among those up to the greatest; for each position, the track of the wire
-- that has begun and ends there, or none; the greatest track; and the position at which the first wire with that track
-- begins
pub record Swept : Type 0 where
  pub wires : List Tracked
  pub free : List ℕ
  pub ending : List (Option ℕ)
  pub tracks : ℕ
  pub densest : ℕ

-- a wire on the greatest track begins at this position, and each wire that begins before has a lesser track
pub record IsWidest (ts : List Tracked) (n p : ℕ) : Type 0 where
  pub first : Tracked
  pub stands : Has ts first
  pub track : first.track ≡ n
  pub begins : lesser (untracked first) ≡ p
  pub before : (t : Tracked) → Has ts t → lesser (untracked t) < p → t.track < n

-- The state before position p, for the wires that begin before p. The wires are in order, each on its least track. The
-- free tracks are those whose wires all end before p, each listed once. For each position from p on, the track of the
-- wire that ends there is stored.
pub record IsSwept (ws : List Wire) (p : ℕ) (s : Swept) : Type 0 where
  pub order : Pairwise (λ (t u : Tracked). lesser (untracked t) < lesser (untracked u)) s.wires
  pub least : TakeLeast [] s.wires
  pub begun : (w : Wire) → Has (wires_of s.wires) w ↔ Has ws w × (lesser w < p)
  pub tracks : tracks_of s.wires ≡ s.tracks
  pub few : s.tracks ≤ p
  pub free : (n : ℕ) → Has s.free n ↔ (0 < n) × (n ≤ s.tracks) × IsFree s.wires n p
  pub once : Pairwise (λ (m n : ℕ). m ≢ n) s.free
  pub ends : (t : Tracked) → Has s.wires t → p ≤ greater (untracked t) →
      get_or s.ending (greater (untracked t)) None ≡ Some t.track
  pub ended : (q n : ℕ) → p ≤ q → q < length s.ending → get_or s.ending q None ≡ Some n →
      (t : Tracked) × Has s.wires t × (greater (untracked t) ≡ q)
  pub densest : ((s.tracks ≡ 0) × (s.densest ≡ 0)) ⊎ IsWidest s.wires s.tracks s.densest

-- this wire of the list begins at this position, and below, none does
abbrev pub BeginsAt : List Wire → ℕ → Wire → Type 0
BeginsAt ws p w = Has ws w × (lesser w ≡ p)

-- the least free track is taken, and is then no longer free
pub record TakesFree (old : Swept) (track : ℕ) (new : Swept) : Type 0 where
  pub taken : IsPermutation old.free (track ∷ new.free)
  pub least : (n : ℕ) → Has old.free n → track ≤ n
  pub tracks : new.tracks ≡ old.tracks
  pub densest : new.densest ≡ old.densest

-- a new track is taken, one above the greatest
pub record TakesNew (old : Swept) (p track : ℕ) (new : Swept) : Type 0 where
  pub none_free : old.free ≡ []
  pub none_left : new.free ≡ []
  pub is_next : track ≡ old.tracks + 1
  pub tracks : new.tracks ≡ track
  pub densest : new.densest ≡ p

-- A wire that begins at this position takes the least free track, or a new one if none is free.
pub record TakesTrack (old : Swept) (p track : ℕ) (new : Swept) : Type 0 where
  pub wires : new.wires ≡ old.wires
  pub ending : new.ending ≡ old.ending
  pub takes : TakesFree old track new ⊎ TakesNew old p track new

-- the wire with this track
abbrev pub placed : Wire → ℕ → Tracked
placed w n = record { from = w.from; to = w.to; track = n }

-- the floor plan, once all positions have been passed
abbrev pub floor_of : Swept → FloorPlan
floor_of s = record { wires = s.wires; tracks = s.tracks; densest = s.densest }
