use Rattle.std.proofs.Common.{rules, refl}
use Rattle.bn_circuits.specs.declared.net.TheConstants.{MOST_ELEMENTS}
use Rattle.bn_board.proofs.DrawnLemmas.{all_banks_drawn, board_drawn}
use Rattle.bn_board.proofs.wiring.board_draft.Goals as goal

pub loop-number-init : goal.loop-number-init
loop-number-init c = record {
  drawn = all_banks_drawn c.args.net.now c.args.bases.now MOST_ELEMENTS c.requires.modules c.requires.few
      c.requires.bases _ c.in_ok-draft.draft refl c.in_ok-draft.ensures;
}

pub returns : goal.returns
returns c = board_drawn c.args.net.now c.args.bases.now MOST_ELEMENTS c.requires.modules c.requires.few c.requires.bases
    c.loop-number.number c.loop-number.draft (search rules) c.loop-number.invariant.drawn
