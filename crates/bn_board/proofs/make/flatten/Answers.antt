use Rattle.std.proofs.Common.{sym, subst, ◌∙◌, refl}
use Rattle.bn_board.specs.Flattened.{IsBoardKept, IsFlattened}
use Rattle.bn_board.proofs.MadeLemmas.{count-size, made-kept, made-flattened}
use Rattle.bn_board.proofs.make.flatten.Goals as goal

pub packed_of-requires : goal.packed_of-requires
packed_of-requires c = c.elements.ensures.number ∙ count-size c.args.assembly.now c.layout_of.ensures.kept
    c.in_ok-layout.layout
    c.in_ok-layout.ensures.numbers

pub new-requires : goal.new-requires
new-requires c =
    made-kept c.args.assembly.now c.layout_of.ensures.kept c.in_ok-layout.layout c.in_ok-layout.ensures.numbers
    c.in_ok-packed.packed.net
    c.in_ok-packed.packed.config _ c.end_line-end.result c.elements.result
    c.in_ok-packed.ensures.board c.in_ok-packed.ensures.config c.in_ok-packed.ensures.elements c.elements.ensures.number
    c.in_ok-packed.ensures.order

pub returns-clause-kept : goal.returns-clause-kept
returns-clause-kept c =
    subst IsBoardKept (sym c.new.ensures) (made-kept c.args.assembly.now c.layout_of.ensures.kept c.in_ok-layout.layout
    c.in_ok-layout.ensures.numbers
    c.in_ok-packed.packed.net c.in_ok-packed.packed.config _ c.end_line-end.result c.elements.result
    c.in_ok-packed.ensures.board c.in_ok-packed.ensures.config c.in_ok-packed.ensures.elements c.elements.ensures.number
    c.in_ok-packed.ensures.order)

pub returns-clause-made : goal.returns-clause-made
returns-clause-made c =
    subst (IsFlattened c.args.assembly.now) (sym c.new.ensures)
    (made-flattened c.args.assembly.now c.layout_of.ensures.kept c.in_ok-layout.layout
    c.in_ok-layout.ensures.numbers c.in_ok-packed.packed.net c.in_ok-packed.packed.config _ c.end_line-end.result
    c.elements.result
    c.in_ok-packed.ensures.board c.in_ok-packed.ensures.config c.in_ok-packed.ensures.elements c.elements.ensures.number
    c.in_ok-packed.ensures.order
    refl c.end_line-end.ensures.line)
