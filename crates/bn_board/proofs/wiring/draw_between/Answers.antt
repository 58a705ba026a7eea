use Rattle.std.proofs.Common.{rules}
use Rattle.bn_circuits.specs.declared.net.TheConstants.{MOST_ELEMENTS}
use Rattle.bn_boards.proofs.ModuleLemmas.{found}
use Rattle.bn_board.proofs.DrawnLemmas.{skip_drawn, between-AreFitting, between_drawn}
use Rattle.bn_board.proofs.wiring.draw_between.Goals as goal

pub add-requires : goal.add-requires
add-requires c =
    let here = found c.args.net.now.elements c.args.number c.requires.within in
    record {
      fitting = between-AreFitting c.args.net.now c.args.bases.now MOST_ELEMENTS c.requires.modules c.requires.few
          c.requires.bases
          c.args.number c.args.line here.0 c.in-Some.into c.between.result c.args.draft.now here.1 (search rules)
          c.between.ensures c.requires.earlier;
    }

pub returns-in-Some : goal.returns-in-Some
returns-in-Some c =
    let here = found c.args.net.now.elements c.args.number c.requires.within in
    between_drawn c.args.net.now c.args.bases.now MOST_ELEMENTS c.requires.modules c.requires.few c.requires.bases
    c.args.number c.args.line here.0 c.in-Some.into c.between.result c.args.draft.now c.add.new.self here.1
    (search rules) c.between.ensures
    c.requires.earlier c.add.ensures.drawn

pub returns-in_default : goal.returns-in_default
returns-in_default c =
    skip_drawn c.args.net.now c.args.bases.now MOST_ELEMENTS c.requires.modules c.requires.few c.requires.bases
    c.args.number c.args.line c.args.draft.now (search rules) c.requires.earlier
