-- A text received in pieces, faulty or not.
use Rattle.std.specs.Prelude.{◌≢◌, ℕ, List}
use Rattle.bn_netlist.specs.Pieces.{HasCome, RefusesOn}
use Rattle.bn_netlist.specs.declared.pieces.Pieces.{Pieces}
use Rattle.bn_netlist.specs.declared.pieces.Pieces.TheVariants.{Open, Refused}
use Rattle.bn_netlist.specs.declared.line_refusal.NetlistRefusal.TheVariants.{NoMemory}

-- these bytes have been received
abbrev pub HaveCome : Pieces → List ℕ → Type 0
HaveCome (Open f) text = HasCome text f.line.items f.stage
HaveCome (Refused r) text = RefusesOn text r × (r ≢ NoMemory)

-- some bytes have been received
abbrev pub ComeSome : Pieces → Type 0
ComeSome p = (text : List ℕ) × HaveCome p text
