use Rattle.std.proofs.Common.{◌∙◌, sym}
use Rattle.bn_plan.specs.declared.positions.TheConstants.{MOST_PLANNED}
use Rattle.bn_plan.proofs.CircuitLemmas.{output_near, input_near, no_output, output_choice}
use Rattle.bn_plan.proofs.positions.wire_out_of.Goals as goal

pub returns-in-None-clause-none : goal.returns-in-None-clause-none
returns-in-None-clause-none c = no_output c.args.net.now c.target.ensures.circuit c.target.ensures.order
    c.args.from
    (output_near c.args.net.now MOST_PLANNED c.args.from c.requires.few c.requires.output).line
    (sym c.target.ensures.line ∙ c.in-None.is)

pub begins_at_output-requires-clause-from : goal.begins_at_output-requires-clause-from
begins_at_output-requires-clause-from c = (output_near c.args.net.now MOST_PLANNED c.args.from c.requires.few
    c.requires.output).element

pub begins_at_output-requires-clause-to : goal.begins_at_output-requires-clause-to
begins_at_output-requires-clause-to c =
    (input_near c.args.net.now MOST_PLANNED c.in-Some.to c.requires.few
    (c.target.ensures.circuit.wired c.args.from c.in-Some.to (sym c.target.ensures.line ∙ c.in-Some.is)).1).element

pub begins_at_output-requires-clause-lines : goal.begins_at_output-requires-clause-lines
begins_at_output-requires-clause-lines c = record {
  from = (output_near c.args.net.now MOST_PLANNED c.args.from c.requires.few c.requires.output).line;
  to = (input_near c.args.net.now MOST_PLANNED c.in-Some.to c.requires.few
      (c.target.ensures.circuit.wired c.args.from c.in-Some.to (sym c.target.ensures.line ∙ c.in-Some.is)).1).line;
}

pub returns-in-Some-clause-begins : goal.returns-in-Some-clause-begins
returns-in-Some-clause-begins c = (output_choice c.args.net.now c.target.ensures.circuit c.target.ensures.order
    c.args.from c.in-Some.to
    (output_near c.args.net.now MOST_PLANNED c.args.from c.requires.few c.requires.output).line
    (sym c.target.ensures.line ∙ c.in-Some.is)
    c.begins_at_output.result c.begins_at_output.ensures c.then_some.result c.then_some.ensures).0

pub returns-in-Some-clause-none : goal.returns-in-Some-clause-none
returns-in-Some-clause-none c = (output_choice c.args.net.now c.target.ensures.circuit c.target.ensures.order
    c.args.from c.in-Some.to
    (output_near c.args.net.now MOST_PLANNED c.args.from c.requires.few c.requires.output).line
    (sym c.target.ensures.line ∙ c.in-Some.is)
    c.begins_at_output.result c.begins_at_output.ensures c.then_some.result c.then_some.ensures).1
