-- Lemmas on steps and runs of machines, for the layers above.
use Rattle.std.specs.Prelude.{◌≡◌, ℤ, ◌≤ℤ◌}
use Rattle.bn_machine.specs.Tape.{cell}
use Rattle.bn_machine.specs.Machine.{Moment}

-- the same state and head, and the same symbols up to the position b
pub record AgreesUpTo (b : ℤ) (c d : Moment) : Type 0 where
  pub state : c.state ≡ d.state
  pub head : c.tape.head ≡ d.tape.head
  pub cells : (q : ℤ) → q ≤ℤ b → cell c.tape q ≡ cell d.tape q
