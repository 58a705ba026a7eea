use Rattle.std.proofs.Common.{◌+◌, ◌*◌}
use Rattle.std.proofs.lemmas.Result.{IfOk-weaker}
use Rattle.bn_rsm.specs.Machines.{IsMadeOf}
use Rattle.bn_cell.specs.Sizes.{IsCellOf}
use Rattle.bn_cell.proofs.MadeLemmas.{few, sound, is_cell}
use Rattle.bn_cell.proofs.make.cell.Goals as goal

pub new-requires : goal.new-requires
new-requires c =
    let moves = c.in_ok-moves.moves.items in
    record {
      sound = sound c.args.symbols c.requires moves c.in_ok-moves.ensures;
      few = few c.args.symbols c.requires moves c.in_ok-moves.ensures;
    }

pub returns : goal.returns
returns c =
    let moves = c.in_ok-moves.moves.items in
    IfOk-weaker c.new.result (λ m. IsMadeOf m (2 * c.args.symbols) (2 * c.args.symbols + 8) moves)
    (IsCellOf c.args.symbols)
    (is_cell c.args.symbols c.requires moves c.in_ok-moves.ensures) c.new.ensures.made
