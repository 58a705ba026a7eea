-- The port at the other end of a wire in two numbers. No element has the greatest number of 32 bits; this number, with
-- the port 0, means that there is no wire (this project's own profile).
use Rattle.std.specs.Prelude.{◌≡◌, ◌==◌, if◌then◌else◌, Option, Some, None}
use Rattle.bn_circuits.specs.declared.line.Line.{Line}
use Rattle.bn_circuits.specs.declared.end.End.TheInside.{Inside}

-- the port that two numbers represent, if any
abbrev pub line_told : Inside → Option Line
line_told e = if e.element == 4294967295 then None else Some (record { element = e.element; line = e.line })

-- the two numbers that represent a port or its absence
abbrev pub numbers_of : Option Line → Inside
numbers_of None = record { element = 4294967295; line = 0 }
numbers_of (Some l) = record { element = l.element; line = l.line }

-- the absence of a port has one representation
abbrev pub IsEnd : Inside → Type 0
IsEnd e = e.element ≡ 4294967295 → e.line ≡ 0
