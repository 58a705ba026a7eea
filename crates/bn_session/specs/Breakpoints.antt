-- Breakpoints, and where they hold.
use Rattle.std.specs.Prelude.{bytes_eq, ℕ, ◌==◌, ◌&&◌, Bool, false, List, [], ◌∷◌, Option, Some, None, map}
use Rattle.std.specs.Prelude.{if◌then◌else◌}
use Rattle.std.specs.List.{list_any}
use Rattle.bn_circuits.specs.declared.place.Place.{Place}
use Rattle.bn_circuits.specs.declared.place.Place.TheVariants.{Enter, Left}
use Rattle.bn_session.specs.declared.condition.Condition.{Condition}
use Rattle.bn_session.specs.declared.condition.Condition.TheVariants.{AtState, AtElement, AtLine}

-- a label, and when the breakpoint holds
pub record Breakpoint : Type 0 where
  pub label : List ℕ
  pub condition : Condition

abbrev pub breakpoint : List ℕ → Condition → Breakpoint
breakpoint label condition = record { label = label; condition = condition }

-- the number is there, and it is this one
abbrev pub is_state_number : ℕ → Option ℕ → Bool
is_state_number n None = false
is_state_number n (Some m) = m == n

-- the signal is about to enter this element
abbrev pub enters : ℕ → Place → Bool
enters e (Enter f line) = f == e
enters e (Left f line) = false

-- the signal is about to enter this port of this element
abbrev pub enters_line : ℕ → ℕ → Place → Bool
enters_line e l (Enter f line) = f == e && line == l
enters_line e l (Left f line) = false

-- whether a breakpoint holds at this place of the signal, where this is a moment of this state, or no moment
abbrev pub holds : Place → Option ℕ → Condition → Bool
holds place moment (AtState state) = is_state_number state moment
holds place moment (AtElement e) = enters e place
holds place moment (AtLine e l) = enters_line e l place

-- the label of the first of the breakpoints that holds, in the order in which they were set
abbrev pub first_label : Place → Option ℕ → List Breakpoint → Option (List ℕ)
first_label place moment [] = None
first_label place moment (b ∷ bs) = if holds place moment b.condition then Some b.label else first_label place moment bs

-- whether a breakpoint holds
abbrev pub some_holds : Place → Option ℕ → List Breakpoint → Bool
some_holds place moment breaks = list_any (λ b. holds place moment b.condition) breaks

-- the labels, in the order in which they were set
abbrev pub labels_of : List Breakpoint → List (List ℕ)
labels_of breaks = map (λ (b : Breakpoint). b.label) breaks

-- without the breakpoint of this label; the others keep their places
abbrev pub without_break : List ℕ → List Breakpoint → List Breakpoint
without_break label [] = []
without_break label (b ∷ bs) = if bytes_eq label b.label then bs else b ∷ without_break label bs
