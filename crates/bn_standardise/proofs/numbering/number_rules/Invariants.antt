use Rattle.std.proofs.Common.{◌≡◌, map, take}
use Rattle.bn_standardise.specs.Numbering.{distinct_names, number_of}
use Rattle.bn_standardise.specs.Standardised.{numbered}
use Rattle.bn_standardise.proofs.numbering.number_rules.Given as goal

abbrev pub invariant-loop-rule : goal.invariant-loop-rule
invariant-loop-rule l =
    (l.names.keys ≡ distinct_names (take l.rule-index l.rules))
    × (l.quints.items ≡ map (numbered (number_of l.rules)) (take l.rule-index l.rules))
