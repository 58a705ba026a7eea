use Rattle.std.proofs.Common.{◌∙◌, sym}
use Rattle.bn_plan.specs.declared.positions.TheConstants.{MOST_PLANNED}
use Rattle.bn_plan.proofs.CircuitLemmas.{input_near, from_near, no_input, input_choice}
use Rattle.bn_plan.proofs.positions.wire_into.Goals as goal

pub returns-in-None-clause-none : goal.returns-in-None-clause-none
returns-in-None-clause-none c = no_input c.args.net.now c.source.ensures.circuit c.source.ensures.order c.args.to
    (input_near c.args.net.now MOST_PLANNED c.args.to c.requires.few c.requires.input).line
    (sym c.source.ensures.line ∙ c.in-None.is)

pub begins_at_output-requires-clause-from : goal.begins_at_output-requires-clause-from
begins_at_output-requires-clause-from c = (from_near c.args.net.now c.source.ensures.circuit MOST_PLANNED
    c.in-Some.from c.args.to c.requires.few (sym c.source.ensures.line ∙ c.in-Some.is)).element

pub begins_at_output-requires-clause-to : goal.begins_at_output-requires-clause-to
begins_at_output-requires-clause-to c = (input_near c.args.net.now MOST_PLANNED c.args.to c.requires.few
    c.requires.input).element

pub begins_at_output-requires-clause-lines : goal.begins_at_output-requires-clause-lines
begins_at_output-requires-clause-lines c = record {
  from = (from_near c.args.net.now c.source.ensures.circuit MOST_PLANNED c.in-Some.from c.args.to c.requires.few
      (sym c.source.ensures.line ∙ c.in-Some.is)).line;
  to = (input_near c.args.net.now MOST_PLANNED c.args.to c.requires.few c.requires.input).line;
}

pub returns-in-Some-clause-begins : goal.returns-in-Some-clause-begins
returns-in-Some-clause-begins c = (input_choice c.args.net.now c.source.ensures.circuit c.source.ensures.order
    c.in-Some.from c.args.to
    (from_near c.args.net.now c.source.ensures.circuit MOST_PLANNED c.in-Some.from c.args.to c.requires.few
    (sym c.source.ensures.line ∙ c.in-Some.is)).line
    (input_near c.args.net.now MOST_PLANNED c.args.to c.requires.few c.requires.input).line
    (sym c.source.ensures.line ∙ c.in-Some.is)
    c.begins_at_output.result c.begins_at_output.ensures c.then_some.result c.then_some.ensures).0

pub returns-in-Some-clause-none : goal.returns-in-Some-clause-none
returns-in-Some-clause-none c = (input_choice c.args.net.now c.source.ensures.circuit c.source.ensures.order
    c.in-Some.from c.args.to
    (from_near c.args.net.now c.source.ensures.circuit MOST_PLANNED c.in-Some.from c.args.to c.requires.few
    (sym c.source.ensures.line ∙ c.in-Some.is)).line
    (input_near c.args.net.now MOST_PLANNED c.args.to c.requires.few c.requires.input).line
    (sym c.source.ensures.line ∙ c.in-Some.is)
    c.begins_at_output.result c.begins_at_output.ensures c.then_some.result c.then_some.ensures).1
