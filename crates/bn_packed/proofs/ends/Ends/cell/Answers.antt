use Rattle.std.proofs.Common.{◌≡◌, ◌+◌, ◌*◌, map, Some, slice_get, sym, ap, subst, ◌∙◌}
use Rattle.bn_packed.specs.Numbers.{number_of}
use Rattle.bn_packed.specs.Ends.{EndList, IsLineBelow}
use Rattle.bn_packed.proofs.BlockLemmas.{read_line}
use Rattle.bn_packed.proofs.ends.Ends.cell.Goals as goal

pub returns : goal.returns
returns g c =
    let cells = map g.C.Cell.tells c.self.inside.cells.items in
    let below : IsLineBelow c.self.inside.elements c.args.line =
    subst (λ n. IsLineBelow n c.args.line) (sym (ap (λ (e : EndList). e.elements) c.self.view_is)) c.requires in
    let told : slice_get (map g.C.Cell.tells c.as_slice.result.now) (number_of c.args.line)
    ≡ Some (g.C.Cell.tells c.cell_at.result) =
    ap (slice_get (map g.C.Cell.tells c.as_slice.result.now)) (sym c.line_number.ensures) ∙ c.cell_at.ensures in
    ap (λ (e : EndList). slice_get e.ends (4 * c.args.line.element + c.args.line.line)) (sym c.self.view_is)
    ∙ read_line cells c.self.inside.elements c.args.line (g.C.Cell.tells c.cell_at.result) below
    (ap (λ items. slice_get (map g.C.Cell.tells items) (number_of c.args.line)) (sym c.as_slice.ensures.value) ∙ told)
