-- The representation of breakpoints: their conditions in a slab, the slab's keys by label, and a mark at each element
-- at which one may hold.
use Rattle.std.specs.Prelude.{◌≡◌, ◌≢◌, ℕ, nat_lt, Bool, true, false, List, [], ◌∷◌, length, map, slice_index_or}
use Rattle.std.specs.Prelude.{slice_set, IsSome, if◌then◌else◌}
use Rattle.std.specs.Option.{unwrap_or}
use Rattle.std.proofs.Common.{Vec, Global}
use Rattle.slab.specs.Slab.{Slab, get}
use Rattle.bn_circuits.specs.declared.place.Place.{Place}
use Rattle.bn_circuits.specs.declared.place.Place.TheVariants.{Enter, Left}
use Rattle.bn_session.specs.Breakpoints.{Breakpoint, breakpoint}
use Rattle.bn_session.specs.declared.condition.Condition.{Condition}
use Rattle.bn_session.specs.declared.condition.Condition.TheVariants.{AtState, AtElement, AtLine}

-- an owned label, with its key
abbrev pub Entry : Type 0
Entry = Vec ℕ Global × ℕ

-- the condition under a key
abbrev pub condition_at : Slab Condition → ℕ → Condition
condition_at slab key = unwrap_or (get slab key) (AtElement 0)

-- the breakpoints of labels with their keys
abbrev pub kept_break : Slab Condition → Entry → Breakpoint
kept_break slab e = breakpoint e.0.items (condition_at slab e.1)

abbrev pub kept_breaks : Slab Condition → List Entry → List Breakpoint
kept_breaks slab es = map (kept_break slab) es

-- each label's key has a value
abbrev pub HaveValues : Slab Condition → List Entry → Type 0
HaveValues slab [] = Unit {0}
HaveValues slab (e ∷ es) = IsSome (get slab e.1) × HaveValues slab es

-- no label has this key
abbrev pub IsFree : ℕ → List Entry → Type 0
IsFree key [] = Unit {0}
IsFree key (e ∷ es) = (e.1 ≢ key) × IsFree key es

-- whether a breakpoint may hold at the place of the signal
abbrev pub mark_at : List Bool → Place → Bool
mark_at marks (Enter e line) = slice_index_or marks e true
mark_at marks (Left e line) = false

-- an element at which a condition may hold has a mark
abbrev pub IsMarked : List Bool → Condition → Type 0
IsMarked marks (AtState state) = Unit {0}
IsMarked marks (AtElement e) = slice_index_or marks e true ≡ true
IsMarked marks (AtLine e l) = slice_index_or marks e true ≡ true

-- the marks with one at this element, if there is such an element
abbrev pub marked_at : List Bool → ℕ → List Bool
marked_at marks e = if nat_lt e (length marks) then slice_set marks e true else marks

-- the marks with one added for a condition
abbrev pub with_mark : List Bool → Condition → List Bool
with_mark marks (AtState state) = marks
with_mark marks (AtElement e) = marked_at marks e
with_mark marks (AtLine e l) = marked_at marks e

-- each key has a value, no two labels have the same key, and elements have their marks
abbrev pub AreKept : Slab Condition → List Entry → List Bool → Type 0
AreKept slab [] marks = Unit {0}
AreKept slab (e ∷ es) marks =
    IsSome (get slab e.1) × IsFree e.1 es × IsMarked marks (condition_at slab e.1) × AreKept slab es marks
