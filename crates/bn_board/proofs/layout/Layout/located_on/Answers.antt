use Rattle.std.proofs.Common.{rules, sym, subst, ◌∙◌, w64}
use Rattle.std.proofs.lemmas.Int.{to_z-of_z}
use Rattle.bn_circuits.specs.declared.place.Place.TheVariants.{Enter}
use Rattle.bn_board.specs.Locations.{IsLocated}
use Rattle.bn_board.specs.declared.located.Located.TheVariants.{Cell}
use Rattle.bn_board.proofs.LocationLemmas.{cell_is}
use Rattle.bn_board.proofs.layout.Layout.located_on.Goals as goal

pub returns : goal.returns
returns c = subst (λ x. IsLocated c.args.self.now (Enter c.args.entered.element c.args.entered.line)
    (Cell c.args.tape x c.input_line.result)) (sym
    (to_z-of_z w64 c.position.result (search rules) ∙ c.position.ensures))
    (cell_is c.args.self.now c.args.entered.element c.args.entered.line
    c.args.tape c.cell_of-cell.result c.cell_element-first.result c.cell_lines.result c.requires.first c.requires.last
    c.cell_of-cell.ensures.within
    c.cell_of-cell.ensures.low c.cell_of-cell.ensures.high c.cell_element-first.ensures.number
    c.cell_lines.ensures.number c.input_line.result
    c.input_line.ensures)
