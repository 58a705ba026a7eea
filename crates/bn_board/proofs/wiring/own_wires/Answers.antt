use Rattle.bn_circuits.specs.declared.net.TheConstants.{MOST_ELEMENTS}
use Rattle.bn_board.proofs.DrawnLemmas.{none_drawn}
use Rattle.bn_board.proofs.wiring.own_wires.Goals as goal

pub loop-number-init : goal.loop-number-init
loop-number-init c = record {
  drawn = none_drawn c.args.net.now c.args.bases.now MOST_ELEMENTS c.requires.modules c.requires.few c.requires.bases
      c.args.count c.in_ok-draft.draft c.requires.count c.in_ok-draft.ensures;
}
