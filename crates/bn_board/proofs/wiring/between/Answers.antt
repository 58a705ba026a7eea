use Rattle.bn_circuits.specs.declared.net.TheConstants.{MOST_ELEMENTS}
use Rattle.bn_board.proofs.WireLemmas.{output_fits, entered_within, entered_fits, between_is}
use Rattle.bn_board.proofs.wiring.between.Goals as goal

pub output_line-requires-clause-fits : goal.output_line-requires-clause-fits
output_line-requires-clause-fits c = output_fits c.args.net.now c.args.bases.now MOST_ELEMENTS c.requires.modules
    c.requires.few c.requires.bases
    c.args.number c.element.result.now c.element.ensures

pub bounds-bases-to : goal.bounds-bases-to
bounds-bases-to c = entered_within c.args.net.now c.args.bases.now MOST_ELEMENTS c.requires.modules c.requires.few
    c.requires.bases (record {
      element = c.args.number;
      line = c.args.line;
    }) c.args.to c.requires.leads

pub input_line-requires : goal.input_line-requires
input_line-requires c = entered_fits c.args.net.now c.args.bases.now MOST_ELEMENTS c.requires.modules c.requires.few
    c.requires.bases (record {
      element = c.args.number;
      line = c.args.line;
    }) c.args.to c.requires.leads

pub returns : goal.returns
returns c = between_is c.args.net.now c.args.bases.now MOST_ELEMENTS c.requires.modules c.requires.few c.requires.bases
    c.args.number c.args.line
    c.element.result.now c.args.to c.output_line.result c.input_line.result c.element.ensures c.requires.leads
    c.output_line.ensures c.input_line.ensures
