-- Floor plans: each wire on a track, counted from 1 (this project's own profile).
use Rattle.std.specs.Prelude.{◌≡◌, ℕ, ◌<◌, ◌≤◌, max, List, [], ◌∷◌, map, ⊤}
use Rattle.std.specs.List.Sorted.{IsPermutation}
use Rattle.bn_circuits.specs.declared.line.Wire.{Wire}
use Rattle.bn_plan.specs.declared.tracked.Tracked.{Tracked}
use Rattle.bn_plan.specs.Lists.{Pairwise}
use Rattle.bn_lists.specs.Lists.{Has}
use Rattle.bn_plan.specs.Wires.{lesser, greater, Fit, IsDensest}

-- the wire without its track
abbrev pub untracked : Tracked → Wire
untracked t = record { from = t.from; to = t.to }

-- wires without their tracks
abbrev pub wires_of : List Tracked → List Wire
wires_of ts = map untracked ts

-- each of these wires that is on this track ends before the position
abbrev pub IsFree : List Tracked → ℕ → ℕ → Type 0
IsFree ts n p = (t : Tracked) → Has ts t → t.track ≡ n → greater (untracked t) < p

-- the wire is on the least track, counted from 1, on which each earlier wire ends before this wire begins
pub record TakesLeast (earlier : List Tracked) (t : Tracked) : Type 0 where
  pub counted : 0 < t.track
  pub free : IsFree earlier t.track (lesser (untracked t))
  pub least : (n : ℕ) → 0 < n → n < t.track → IsFree earlier n (lesser (untracked t)) → ⊥

-- each of these wires, one after another, is on such a least track
abbrev pub TakeLeast : List Tracked → List Tracked → Type 0
TakeLeast earlier [] = ⊤
TakeLeast earlier (t ∷ ts) = TakesLeast earlier t × TakeLeast (t ∷ earlier) ts

-- The plan of some wires: they are in the order of their lesser ends, and each takes the least track on which every
-- earlier wire ends before it begins.
pub record IsPlan (ws : List Wire) (plan : List Tracked) : Type 0 where
  pub all : IsPermutation ws (wires_of plan)
  pub order : Pairwise (λ (s t : Tracked). lesser (untracked s) ≤ lesser (untracked t)) plan
  pub tracks : TakeLeast [] plan

-- the greatest track, 0 if there are no wires
abbrev pub tracks_of : List Tracked → ℕ
tracks_of [] = 0
tracks_of (t ∷ ts) = max t.track (tracks_of ts)

-- a plan, the number of its tracks, and a position
pub record FloorPlan : Type 0 where
  pub wires : List Tracked
  pub tracks : ℕ
  pub densest : ℕ

-- The floor plan is that of these wires. Its number of tracks is the greatest track of a wire and also the greatest
-- density, and its position is the least with that density.
pub record IsFloorPlan (ws : List Wire) (f : FloorPlan) : Type 0 where
  pub plan : IsPlan ws f.wires
  pub tracks : tracks_of f.wires ≡ f.tracks
  pub densest : IsDensest ws f.tracks f.densest

-- wires on one track do not overlap
abbrev pub TracksFit : List Tracked → Type 0
TracksFit ts = Pairwise (λ (s t : Tracked). s.track ≡ t.track → Fit (untracked s) (untracked t)) ts

-- an assignment of tracks to the wires such that wires on one track do not overlap
pub record IsAssignment (ws : List Wire) (ts : List Tracked) : Type 0 where
  pub all : IsPermutation ws (wires_of ts)
  pub fit : TracksFit ts

-- the list contains every track that is used
abbrev pub HasTracks : List ℕ → List Tracked → Type 0
HasTracks used ts = (t : Tracked) → Has ts t → Has used t.track
