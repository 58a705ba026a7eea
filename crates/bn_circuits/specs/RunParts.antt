-- Parts of a run: where a partly undone run ends, what holds at each step of a path, and the places on the way.
use Rattle.std.specs.Prelude.{◌≡◌, ℕ, ◌+◌, ◌<◌, ◌≤◌, Bool, true, length, Some, slice_get}
use Rattle.bn_lists.specs.Runs.{Reaches, Passes}
use Rattle.bn_circuits.specs.Circuits.{Circuit, Goes, IsCircuit, IsConfig, IsStuck, IsFirst}
use Rattle.bn_circuits.specs.Stepping.{run, back, places, places_back}
use Rattle.bn_circuits.specs.declared.config.Config.{Config}

-- undoing a part of a run gives a shorter run
abbrev pub RunsUndoInPart : Type 0
RunsUndoInPart =
    (k : Circuit) → IsCircuit k → (s r t : ℕ) (c d : Config) → t ≡ r + s → Reaches (Goes k) t c d
    → back k d s ≡ run k c r

-- the configurations strictly between the ends of a path pass the test
abbrev pub PathsPassBetween : Type 0
PathsPassBetween =
    (k : Circuit) (test : Config → Bool) (n t : ℕ) (c d : Config) → Passes (Goes k) test n c d → 0 < t → t < n
    → test (run k c t) ≡ true

-- The places reported for a run are those of its configurations: the place with number i, counted from 0, is that after
-- i + 1 steps. There are as many places as steps can be made, at most t.
pub record ArePlacesOfRun (k : Circuit) (t : ℕ) (c : Config) : Type 0 where
  pub count : ℕ
  pub all : length (places k t c) ≡ count
  pub within : count ≤ t
  pub reaches : Reaches (Goes k) count c (run k c t)
  pub ended : count < t → IsStuck k (run k c t)
  pub each : (i : ℕ) → i < count → slice_get (places k t c) i ≡ Some (run k c (i + 1)).place

abbrev pub PlacesAreThoseOfRuns : Type 0
PlacesAreThoseOfRuns = (k : Circuit) (t : ℕ) (c : Config) → ArePlacesOfRun k t c

-- Likewise for a run back: the place with number i, counted from 0, is that after i + 1 steps back. There are as many
-- places as steps back can be made, at most t.
pub record ArePlacesOfRunBack (k : Circuit) (t : ℕ) (d : Config) : Type 0 where
  pub count : ℕ
  pub all : length (places_back k t d) ≡ count
  pub within : count ≤ t
  pub reaches : Reaches (Goes k) count (back k d t) d
  pub ended : count < t → IsFirst k (back k d t)
  pub each : (i : ℕ) → i < count → slice_get (places_back k t d) i ≡ Some (back k d (i + 1)).place

abbrev pub PlacesAreThoseOfRunsBack : Type 0
PlacesAreThoseOfRunsBack = (k : Circuit) → IsCircuit k → (t : ℕ) (d : Config) → IsConfig k d → ArePlacesOfRunBack k t d
