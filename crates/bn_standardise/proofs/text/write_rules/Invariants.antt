use Rattle.std.proofs.Common.{◌≡◌, map, take}
use Rattle.bn_csv.specs.Lines.{lines_of}
use Rattle.bn_standardise.specs.Printed.{rule_entry}
use Rattle.bn_standardise.proofs.text.write_rules.Given as goal

abbrev pub invariant-loop-rule : goal.invariant-loop-rule
invariant-loop-rule l = l.writer ≡ lines_of (map (rule_entry l.table.letters) (take l.rule-index l.rules))
