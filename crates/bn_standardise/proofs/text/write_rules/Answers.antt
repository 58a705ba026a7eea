-- One rule after another.
use Rattle.std.proofs.Common.{◌≡◌, ◌∙◌, sym, map}
use Rattle.std.proofs.lemmas.Result.{IfOk-weaker}
use Rattle.bn_csv.specs.Lines.{lines_of}
use Rattle.bn_csv.proofs.LinesLemmas.{lines_of-all, lines_of-more, lines_of-nil}
use Rattle.bn_machine.specs.declared.quint.Shift.TheVariants.{Left}
use Rattle.bn_standardise.specs.Printed.{rule_entry}
use Rattle.bn_standardise.specs.declared.name.Name.TheVariants.{First}
use Rattle.bn_standardise.specs.declared.rule.Rule.{Rule}
use Rattle.bn_standardise.proofs.text.write_rules.Goals as goal

abbrev blank : Rule
blank = record { state = First; read = 0; write = 0; shift = Left; next = First }

pub loop-rule-init : goal.loop-rule-init
loop-rule-init c = c.new-writer.ensures ∙ sym lines_of-nil

pub loop-rule-preserved : goal.loop-rule-preserved
loop-rule-preserved c =
    lines_of-more (rule_entry c.args.table.now.letters) c.args.rules.now c.loop-rule.rule-index blank c.loop-rule.writer
    c.write_rule.new.writer c.loop-rule-test.true c.loop-rule.invariant c.in_ok-write_rule.ensures

pub returns : goal.returns
returns c =
    IfOk-weaker c.into_text.result (λ text. text.items ≡ c.loop-rule.writer)
    (λ text. text.items ≡ lines_of (map (rule_entry c.args.table.now.letters) c.args.rules.now))
    (λ text e. lines_of-all (rule_entry c.args.table.now.letters) c.args.rules.now c.loop-rule.rule-index text.items
    c.loop-rule-test.false (e ∙ c.loop-rule.invariant)) c.into_text.ensures
