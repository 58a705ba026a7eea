use Rattle.std.proofs.Common.{◌≡◌, map, take}
use Rattle.bn_bennett.specs.Printed.{one_byte, on_tape}
use Rattle.bn_bennett.proofs.naming.add_letters.Given as goal

abbrev pub invariant-loop-letter : goal.invariant-loop-letter
invariant-loop-letter l = l.names ≡ on_tape l.initial.names l.tape (map one_byte (take l.letter-index l.letters))
