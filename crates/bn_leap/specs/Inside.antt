-- The ports that a signal can enter strictly within a move of a bank.
use Rattle.std.specs.Prelude.{◌≡◌, ◌+◌, ◌<◌, ◌≤◌, Bool, false}
use Rattle.bn_element.specs.Rotary.{west}
use Rattle.bn_circuits.specs.declared.line.Line.{Line}
use Rattle.bn_realise.specs.Banks.{column_at}
use Rattle.bn_leap.specs.declared.entry.Entry.{Entry}

-- a port of one of the bank's elements that is not one of its input ports
pub record IsInside (v : Entry) (at : Line) : Type 0 where
  pub low : v.first ≤ at.element
  pub high : at.element < column_at v.first v.lines v.states
  pub no_input : at.line ≡ west → v.first + v.lines ≤ at.element

-- a run that stops at these ports does not stop strictly within a move of the bank
abbrev pub PassesThrough : (Line → Bool) → Entry → Type 0
PassesThrough stops v = (at : Line) → IsInside v at → stops at ≡ false
