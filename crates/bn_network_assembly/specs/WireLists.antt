-- The wires of a network as lists, tape by tape: the vocabulary of the contracts of the functions that add them.
use Rattle.std.specs.Prelude.{ℕ, ◌+◌, ◌-◌, List, [], ◌∷◌, ◌++◌}
use Rattle.std.proofs.Common.{zero, suc}
use Rattle.bn_circuits.specs.declared.line.Wire.{Wire}
use Rattle.bn_machine.specs.Outcome.{Limits}
use Rattle.bn_quad.specs.Quadruples.{Quadruples}
use Rattle.bn_network.specs.Controls.{symbol_count, lines_before}
use Rattle.bn_network.specs.Networks.{cells_in, first_cell}

abbrev pub wire : ℕ → ℕ → ℕ → ℕ → Wire
wire e i f j = record { from = record { element = e; line = i }; to = record { element = f; line = j } }

-- the wires from n consecutive ports of one module, the first of which is port i of module e, to as many of another
abbrev pub bundle : ℕ → ℕ → ℕ → ℕ → ℕ → List Wire
bundle e i f j zero = []
bundle e i f j (suc n) = bundle e i f j n ++ (wire e (i + n) f (j + n) ∷ [])

-- the wires between a cell for z symbols and its right neighbour
abbrev pub joint : ℕ → ℕ → List Wire
joint e z = bundle e 0 (e + 1) 0 (z + 4) ++ bundle (e + 1) (z + 4) e (z + 4) (z + 4)

-- the wires between the first p + 1 cells of a row, for the last argument p
abbrev pub joints : ℕ → ℕ → ℕ → List Wire
joints f z zero = []
joints f z (suc p) = joints f z p ++ joint (f + p) z

-- the wires of a tape with n cells from module f on, whose ports at the control begin at b
abbrev pub tape_wires : ℕ → ℕ → ℕ → ℕ → List Wire
tape_wires b f n z = (bundle 0 b f 0 (z + 3) ++ bundle f (z + 4) 0 b (z + 3)) ++ joints f z (n - 1)

abbrev pub wires_of_tape : Quadruples → Limits → ℕ → List Wire
wires_of_tape m l t = tape_wires (lines_before m.symbols (t - 1)) (first_cell l t) (cells_in l t) (symbol_count m t)

-- the wires of the network
abbrev pub network_wires : Quadruples → Limits → List Wire
network_wires m l = (wires_of_tape m l 1 ++ wires_of_tape m l 2) ++ wires_of_tape m l 3
