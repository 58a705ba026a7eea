-- The wires of a packed netlist as it stores them: for each input port the one that the signal enters next if it
-- crosses the element straight, and the one from which it came, crossing its element straight. Therefore an output
-- port is indexed by the number of the input port across the element. The netlist stores the ends by the numbers of
-- the ports; the lists of ends here are in order of element and port.
use Rattle.std.specs.Prelude.{◌≡◌, ℕ, ◌+◌, ◌*◌, ◌/◌, ◌%◌, ◌^◌, ◌<◌, ◌==◌, nat_lt, ◌↔◌, if◌then◌else◌, List, [], ◌∷◌}
use Rattle.std.specs.Prelude.{length, map, replicate, Option, Some, None, slice_get, option_and_then, bit_xor}
use Rattle.std.specs.Option.{option_map}
use Rattle.std.specs.List.{range_with_len}
use Rattle.bn_circuits.specs.Circuits.{target, source}
use Rattle.bn_circuits.specs.declared.line.Wire.{Wire}
use Rattle.bn_circuits.specs.declared.line.Line.{Line}
use Rattle.bn_element.specs.declared.rotary.Rotary.{Rotary}
use Rattle.bn_circuits.specs.Rows.{Rows, entry, wires_of}
use Rattle.bn_circuits.specs.Parts.{Parts}
use Rattle.bn_packed.specs.Numbers.{line_of, number_of}

-- the port at this place, counted from 0, in the list of all ports, element by element
abbrev pub nth_line : ℕ → Line
nth_line n = record { element = n / 4; line = n % 4 }

-- the port across the element: north for south, east for west, and conversely
abbrev pub opposite : Line → Line
opposite l = record { element = l.element; line = bit_xor l.line 2 }

-- the input port that the signal enters next from this one if it crosses the element straight
abbrev pub ahead : List Wire → Line → Option Line
ahead wires l = target wires (opposite l)

-- the input port from which the signal came to this one if it crossed that element straight
abbrev pub behind : List Wire → Line → Option Line
behind wires l = option_map opposite (source wires l)

-- the port is one of the four ports of one of this many elements
pub record IsLineBelow (elements : ℕ) (l : Line) : Type 0 where
  pub element : l.element < elements
  pub line : l.line < 4

-- the port that a number of 32 bits denotes; the greatest number denotes that there is no wire
abbrev pub narrow_end : ℕ → Option Line
narrow_end cell = if cell == 4294967295 then None else Some (line_of cell)

-- the port that a number of 64 bits denotes; a number above those of all ports denotes that there is no wire
abbrev pub wide_end : ℕ → Option Line
wide_end cell = if nat_lt 17179869183 cell then None else Some (line_of cell)

-- the ends of wires between ports of this many elements
pub record EndList : Type 0 where
  pub elements : ℕ
  pub ends : List (Option Line)

-- the ends of the first n ports, element by element, are the values of f at these ports
pub record AreEnds (f : Line → Option Line) (n : ℕ) (ends : List (Option Line)) : Type 0 where
  pub count : length ends ≡ n
  pub each : (i : ℕ) → i < n → slice_get ends i ≡ Some (f (nth_line i))

-- the ends of all ports of n elements, element by element, are the values of f at these ports
pub record AreEndsOf (f : Line → Option Line) (n : ℕ) (e : EndList) : Type 0 where
  pub elements : e.elements ≡ n
  pub ends : AreEnds f (4 * n) e.ends

-- the port at this place of a list of ends, if there is one
abbrev pub end_at : List (Option Line) → ℕ → Option Line
end_at ends n = option_and_then (λ o. o) (slice_get ends n)

-- the ends of all ports of n elements, element by element, taken from a list indexed by the numbers of the ports
abbrev pub ends_in : List (Option Line) → ℕ → List (Option Line)
ends_in cells n = map (λ i. end_at cells (number_of (nth_line i))) (range_with_len 0 (4 * n))

-- the count of port numbers in the blocks for n elements
abbrev pub numbers_for : ℕ → ℕ
numbers_for n = 4096 * ((n + 1023) / 1024)

-- a list indexed by the numbers of the ports holds the value of f at each port of n elements
pub record HasEnds (f : Line → Option Line) (n : ℕ) (cells : List (Option Line)) : Type 0 where
  pub each : (l : Line) → IsLineBelow n l → slice_get cells (number_of l) ≡ Some (f l)

-- where output ports lead, computed from the ends ahead of input ports
abbrev pub targets_by : EndList → EndList
targets_by e = record {
  elements = e.elements;
  ends = map (λ n. end_at e.ends (bit_xor n 2)) (range_with_len 0 (length e.ends));
}

-- where input ports come from, computed from the ends behind them
abbrev pub sources_by : EndList → EndList
sources_by e = record { elements = e.elements; ends = map (option_map opposite) e.ends }

-- the ends in groups of four, one group per element
abbrev pub rows_of : List (Option Line) → Rows
rows_of (north ∷ east ∷ south ∷ west ∷ ends) = (north ∷ east ∷ south ∷ west ∷ []) ∷ rows_of ends
rows_of _ = []

-- a list of n rotary elements
abbrev pub rotaries : ℕ → List Rotary
rotaries n = replicate n (record {})

-- the net with these ends
abbrev pub net_of : EndList → Parts Rotary
net_of targets = record { elements = rotaries targets.elements; wires = wires_of 0 (rows_of targets.ends) }

-- The ends are those of ports with wires: there are four for each of fewer than 2 to the power 32 elements, each is a
-- port of one of these elements, and no two are the same.
pub record AreTargets (e : EndList) : Type 0 where
  pub few : e.elements < 2 ^ 32
  pub whole : length e.ends ≡ 4 * e.elements
  pub inside : (i : ℕ) (to : Line) → slice_get e.ends i ≡ Some (Some to) → IsLineBelow e.elements to
  pub apart : (i j : ℕ) (to : Line) → slice_get e.ends i ≡ Some (Some to) → slice_get e.ends j ≡ Some (Some to) → i ≡ j

-- the inverse of the first n ends: `back` has as many ends, and the end of a port in `back` is one of the first n
-- ports exactly if the end of that one in `ends` is the port
pub record AreReversed (ends : List (Option Line)) (n : ℕ) (back : List (Option Line)) : Type 0 where
  pub count : length back ≡ length ends
  pub held : (i : ℕ) (to : Line) → i < n → slice_get ends i ≡ Some (Some to)
      → slice_get back (4 * to.element + to.line) ≡ Some (Some (nth_line i))
  pub only : (to from : Line) → to.line < 4 → slice_get back (4 * to.element + to.line) ≡ Some (Some from)
      → (i : ℕ) × (i < n) × (from ≡ nth_line i) × (slice_get ends i ≡ Some (Some to))

-- The ends are those of the same wires in both directions: there are four for each of fewer than 2 to the power 32
-- elements, and an output port leads to an input port exactly if the input port comes from it.
pub record IsWiring (targets sources : EndList) : Type 0 where
  pub same : sources.elements ≡ targets.elements
  pub few : targets.elements < 2 ^ 32
  pub all_targets : length targets.ends ≡ 4 * targets.elements
  pub all_sources : length sources.ends ≡ 4 * targets.elements
  pub paired : (from to : Line)
      → (entry (rows_of targets.ends) from ≡ Some to) ↔ (entry (rows_of sources.ends) to ≡ Some from)
