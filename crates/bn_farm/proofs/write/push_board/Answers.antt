use Rattle.std.proofs.Common.{◌++◌, ◌∷◌, [], ap, ◌∙◌, append_assoc}
use Rattle.bn_farm.specs.Farms.{board_of}
use Rattle.bn_farm.proofs.WriteLemmas.{board_written}
use Rattle.bn_farm.proofs.write.push_board.Goals as goal

pub returns : goal.returns
returns c =
    board_written c.args.text.now.items c.extend_from_slice-2.new.self.items c.in_ok-written.written.items
    (board_of c.args.board.now) c.requires c.in_ok-written.ensures
    (c.in_ok-extend_from_slice-2.ensures.items ∙ ap (λ t. t ++ 37 ∷ 10 ∷ [])
    (c.in_ok-extend_from_slice.ensures.items ∙ ap (λ t. c.args.text.now.items ++ t) c.as_slice.ensures.value)
    ∙ append_assoc c.args.text.now.items c.in_ok-written.written.items (37 ∷ 10 ∷ []))
