-- The inverse circuit of a circuit of rotary elements in a configuration: a circuit whose steps undo the steps of the
-- first. A step back of a rotary element is a step with east and west exchanged on both sides. Therefore the inverse
-- circuit has the same elements, and each wire is reversed, with east and west exchanged at both of its ends. (That
-- the inverse of the rotary element is the element again is Morita's, 2017; the inverse circuit of a configuration
-- text is this project's own definition.)
use Rattle.std.specs.Prelude.{◌≡◌, ◌↔◌, List, Option, Some, None}
use Rattle.bn_element.specs.Inverse.{exchanged}
use Rattle.bn_circuits.specs.Circuits.{target, source, line_at, IsOneToOne}
use Rattle.bn_circuits.specs.declared.line.Line.{Line}
use Rattle.bn_circuits.specs.declared.line.Wire.{Wire}
use Rattle.bn_circuits.specs.declared.place.Place.{Place}
use Rattle.bn_circuits.specs.declared.place.Place.TheVariants.{Enter, Left}
use Rattle.bn_netlist_laws.specs.Spelling.{Spelling}

-- the port of the same element with east and west exchanged
abbrev pub mirrored_line : Line → Line
mirrored_line l = line_at l.element (exchanged l.line)

-- A wire leads from one port to another if and only if a wire of the inverse circuit leads from the second to the
-- first, with east and west exchanged at both.
abbrev pub AreMirrored : List Wire → List Wire → Type 0
AreMirrored ws vs =
    (from to : Line) → (target ws from ≡ Some to) ↔ (target vs (mirrored_line to) ≡ Some (mirrored_line from))

-- The place of the signal in the inverse circuit, if the signal was about to enter this port: it is about to enter the
-- output port that feeds this port; or, if none does, it has left by this port; east and west are exchanged.
abbrev pub fed_place : Option Line → Line → Place
fed_place None to = Left to.element (exchanged to.line)
fed_place (Some from) to = Enter from.element (exchanged from.line)

-- The place of the signal in the inverse circuit: a signal that had left by an output port is about to enter there,
-- with east and west exchanged.
abbrev pub mirrored_place : List Wire → Place → Place
mirrored_place ws (Left e o) = Enter e (exchanged o)
mirrored_place ws (Enter e i) = fed_place (source ws (line_at e i)) (line_at e i)

-- m is the inverse circuit of s. Its wires may be listed in any order, each of them once. Its bars are those of s, its
-- start is the end of s and its end is the start of s, with east and west exchanged, and no step is counted.
pub record IsMirror (s m : Spelling) : Type 0 where
  pub elements : m.elements ≡ s.elements
  pub wires : AreMirrored s.wires m.wires
  pub one_to_one : IsOneToOne m.wires
  pub start : m.start ≡ mirrored_line s.end
  pub end : m.end ≡ mirrored_line s.start
  pub bars : m.config.states ≡ s.config.states
  pub place : m.config.place ≡ mirrored_place s.wires s.config.place
  pub steps : m.config.steps ≡ 0
