-- The rules of a table's machine can be written, and what is written is read as the table.
use Rattle.std.proofs.Common.{◌≡◌, ◌∙◌, ap, subst, sym, map, List, All}
use Rattle.bn_csv.specs.Lines.{lines_of}
use Rattle.bn_machine.specs.Machine.{Program}
use Rattle.bn_table.specs.Rows.{rows_of}
use Rattle.bn_table.proofs.MachineLemmas.{table_machine}
use Rattle.bn_table.proofs.Writing.{reads-back}
use Rattle.bn_standardise.specs.Rules.{rules_of}
use Rattle.bn_standardise.specs.Printed.{IsWritable, rule_entry, standard_table}
use Rattle.bn_standardise.specs.Refusals.{IsAccepted}
use Rattle.bn_standardise.specs.declared.rule.Rule.{Rule}
use Rattle.bn_standardise.proofs.PrintedLemmas.{all_writable, is_table, rows_are}
use Rattle.bn_standardise.proofs.text.standard_text.Goals as goal

pub write_rules-requires-clause-writable : goal.write_rules-requires-clause-writable
write_rules-requires-clause-writable c =
    let t = c.args.table.now in
    let rules : c.as_slice.result.now ≡ rules_of t.machine = c.as_slice.ensures.value ∙ c.in_ok-rules.ensures
    ∙ ap rules_of c.machine-machine.ensures.value in
    let P : List Rule → Type 0 = All (IsWritable t) in
    subst P (sym rules) (all_writable t (table_machine t c.machine-machine.ensures.valid)
    c.machine-machine.ensures.fits.states)

pub returns-clause-read_back : goal.returns-clause-read_back
returns-clause-read_back c =
    let t = c.args.table.now in
    let rules : c.as_slice.result.now ≡ rules_of t.machine = c.as_slice.ensures.value ∙ c.in_ok-rules.ensures
    ∙ ap rules_of c.machine-machine.ensures.value in
    let P : Program → Type 0 = IsAccepted in
    let accepted : IsAccepted t.machine = subst P c.machine-machine.ensures.value c.in_ok-accept.ensures.ok in
    let written : c.in_ok-write_rules.field-0.items ≡ lines_of (rows_of (standard_table t)) =
    c.in_ok-write_rules.ensures ∙ ap (λ (rs : List Rule). lines_of (map (rule_entry t.letters) rs)) rules
    ∙ ap lines_of (sym (rows_are t c.machine-machine.ensures.valid c.machine-machine.ensures.fits accepted.few)) in
    reads-back (standard_table t) c.in_ok-write_rules.field-0.items
    (is_table t c.machine-machine.ensures.valid c.machine-machine.ensures.fits accepted.few) written
