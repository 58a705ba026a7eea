-- The numbers of ports, in blocks of 1,024 elements: first the north ports of the elements of a block, then the east,
-- the south and the west ports. Ports of one direction lie side by side, since a signal often enters ports of one
-- direction one after another.
use Rattle.std.specs.Prelude.{ℕ, ◌+◌, ◌*◌, ◌/◌, ◌%◌}
use Rattle.bn_circuits.specs.declared.line.Line.{Line}

-- the port with this number
abbrev pub line_of : ℕ → Line
line_of n = record { element = 1024 * (n / 1024 / 4) + n % 1024; line = n / 1024 % 4 }

-- the number of a port
abbrev pub number_of : Line → ℕ
number_of l = 1024 * (4 * (l.element / 1024) + l.line) + l.element % 1024
