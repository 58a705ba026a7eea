use Rattle.std.proofs.Common.{◌≡◌, ◌++◌, map, take}
use Rattle.bn_erase_laws.specs.declared.name.ErasingName.TheVariants.{Second}
use Rattle.bn_erase.proofs.erasing.add_second.Given as goal

abbrev pub invariant-loop-name : goal.invariant-loop-name
invariant-loop-name l = l.names.items ≡ l.initial.names.items ++ map Second (take l.name-index l.states)
