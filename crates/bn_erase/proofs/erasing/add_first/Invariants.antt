use Rattle.std.proofs.Common.{◌≡◌, ◌++◌, map, take}
use Rattle.bn_erase_laws.specs.declared.name.ErasingName.TheVariants.{First}
use Rattle.bn_erase.proofs.erasing.add_first.Given as goal

abbrev pub invariant-loop-name : goal.invariant-loop-name
invariant-loop-name l = l.names.items ≡ l.initial.names.items ++ map First (take l.name-index l.states)
