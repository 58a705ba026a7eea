-- What the name of a state tells of the quadruples of Bennett's list that leave it or lead to it.
use Rattle.std.specs.Prelude.{◌≡◌, ℕ, ◌==◌, not, ◌||◌, Bool, true, false, if◌then◌else◌, List, [], ◌∷◌, ◌++◌, length}
use Rattle.std.specs.Prelude.{reverse}
use Rattle.std.specs.List.{list_any}
use Rattle.bn_machine.specs.Machine.{Program, start_of, final_of}
use Rattle.bn_machine.specs.declared.quint.Quint.{Quint}
use Rattle.bn_quad.specs.Quadruples.{Rule, deeds_of}
use Rattle.bn_network.specs.Controls.{reads, rising, symbols_read}
use Rattle.bn_bennett_laws.specs.declared.name.Name.{Name}
use Rattle.bn_bennett_laws.specs.declared.name.Name.TheVariants.{Compute, ComputeWithin, GoRight, CopyLetter, GoLeft}
use Rattle.bn_bennett_laws.specs.declared.name.Name.TheVariants.{PassLetter, Retrace, RetraceWithin}

-- the state is some quintuple's state
abbrev pub is_left : List Quint → ℕ → Bool
is_left qs j = list_any (λ q. q.state == j) qs

-- the state is some quintuple's next
abbrev pub is_entered : List Quint → ℕ → Bool
is_entered qs j = list_any (λ q. q.next == j) qs

-- the state has quadruples that read, or none at all, but isn't final
abbrev pub is_reader : Program → Name → Bool
is_reader p GoRight = false
is_reader p GoLeft = false
is_reader p (Retrace j) = not (j == start_of p.quints)
is_reader p a = true

-- a quadruple that writes leads to the state
abbrev pub is_written : Program → Name → Bool
is_written p (Compute j) = is_entered p.quints j
is_written p CopyLetter = false
is_written p PassLetter = false
is_written p (Retrace j) = (j == final_of p.quints) || is_left p.quints j
is_written p a = true

-- the lowest tape that is written on the way into the state
abbrev pub low : Name → ℕ
low (Compute j) = 2
low (RetraceWithin m) = 2
low a = 1

-- which symbols are read after the first one
abbrev pub later : Program → Name → ℕ → List ℕ
later p (Compute j) x = if j == final_of p.quints then (length p.quints ∷ 0 ∷ []) else (0 ∷ [])
later p CopyLetter x = length p.quints ∷ 0 ∷ []
later p PassLetter x = length p.quints ∷ x ∷ []
later p (RetraceWithin m) x = 0 ∷ []
later p a x = []

-- which symbols are written before the last one
abbrev pub earlier : Program → Name → ℕ → List ℕ
earlier p (ComputeWithin m) x = 0 ∷ []
earlier p GoRight x = x ∷ length p.quints ∷ []
earlier p GoLeft x = x ∷ length p.quints ∷ []
earlier p (Retrace j) x = if j == final_of p.quints then (x ∷ length p.quints ∷ []) else (0 ∷ [])
earlier p a x = []

abbrev pub ReadsTell : Program → Name → List (ℕ × ℕ) → Type 0
ReadsTell p a [] = is_reader p a ≡ false
ReadsTell p a (q ∷ l) = (is_reader p a ≡ true) × (symbols_read l ≡ later p a q.1)

abbrev pub WritesTell : Program → Name → List (ℕ × ℕ) → Type 0
WritesTell p a [] = Unit {0}
WritesTell p a (q ∷ l) =
    (is_written p a ≡ true) × (q.0 ≡ low a) × (symbols_read (reverse (q ∷ l)) ≡ earlier p a q.1 ++ q.1 ∷ [])

-- the states of a quadruple tell of it
pub record Tells (p : Program) (r : Rule Name) : Type 0 where
  pub before : ReadsTell p r.from (reads 1 (deeds_of r))
  pub after : WritesTell p r.to (rising 1 (deeds_of r))
