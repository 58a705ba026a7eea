-- The value of a watch in memory: the first places received, at most `room` of them, and whether some were lost.
use Rattle.std.specs.Prelude.{◌≡◌, ℕ, ◌<◌, ◌≤◌, nat_lt, Bool, true, false, if◌then◌else◌}
use Rattle.std.specs.Prelude.{List, [], ◌∷◌, ◌++◌, length, Option, Some, None}
use Rattle.bn_circuits.specs.declared.place.Place.{Place}

pub record Heard : Type 0 where
  pub places : List Place
  pub room : ℕ
  pub lost : Bool

-- its list is known as long as no place was lost
abbrev pub told_by : Heard → Option (List Place)
told_by h = if h.lost then None else Some h.places

-- its value after one place more
abbrev pub hears_next : Heard → Place → Heard
hears_next h place =
    if nat_lt (length h.places) h.room
    then record { places = h.places ++ place ∷ []; room = h.room; lost = h.lost }
    else record { places = h.places; room = h.room; lost = true }

-- a watch that has received no place yet, with room for this many places
abbrev pub fresh : ℕ → Heard
fresh room = record { places = []; room = room; lost = false }

-- its value after these places, one after another
abbrev pub hears_all : Heard → List Place → Heard
hears_all h [] = h
hears_all h (place ∷ places) = hears_all (hears_next h place) places

-- The list of a new watch is known, and contains all places received, as long as their number is at most its room, and
-- is not known beyond.
pub record TellsWithinRoom (room : ℕ) (places : List Place) : Type 0 where
  pub told : length places ≤ room → told_by (hears_all (fresh room) places) ≡ Some places
  pub lost : room < length places → told_by (hears_all (fresh room) places) ≡ None

abbrev pub WatchesTellWithinRoom : Type 0
WatchesTellWithinRoom = (room : ℕ) (places : List Place) → TellsWithinRoom room places
