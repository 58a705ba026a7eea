-- The tracks of wires as a function, which computes the plan of a list of wires (this project's own profile).
use Rattle.std.specs.Prelude.{ℕ, zero, suc, Bool, true, cond, eqb, ltb, not, ◌||◌, ◌&&◌, List, [], ◌∷◌}
use Rattle.bn_circuits.specs.declared.line.Wire.{Wire}
use Rattle.bn_plan.specs.declared.tracked.Tracked.{Tracked}
use Rattle.bn_plan.specs.Wires.{lesser, greater}
use Rattle.bn_plan.specs.Plans.{untracked, tracks_of}

-- whether every earlier wire of this track ends before the wire
abbrev pub is_free : List Tracked → ℕ → Wire → Bool
is_free [] n w = true
is_free (t ∷ ts) n w = (not (eqb t.track n) || ltb (greater (untracked t)) (lesser w)) && is_free ts n w

-- the least free track from n on, or n + fuel
abbrev pub first_free : List Tracked → Wire → ℕ → ℕ → ℕ
first_free earlier w zero n = n
first_free earlier w (suc fuel) n = cond (is_free earlier n w) n (first_free earlier w fuel (suc n))

-- the wire on its least free track; all tracks above the greatest used one are free
abbrev pub tracked : List Tracked → Wire → Tracked
tracked earlier w = record { from = w.from; to = w.to; track = first_free earlier w (tracks_of earlier) 1 }

-- wires one after another, each on its least free track
abbrev pub assigned : List Tracked → List Wire → List Tracked
assigned earlier [] = []
assigned earlier (w ∷ ws) = tracked earlier w ∷ assigned (tracked earlier w ∷ earlier) ws
