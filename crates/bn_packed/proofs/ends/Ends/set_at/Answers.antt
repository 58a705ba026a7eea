use Rattle.std.proofs.Common.{◌≡◌, ◌≤◌, ◌<◌, ◌+◌, ◌*◌, refl, length, map, Some, slice_set, ap, sym, subst, ◌∙◌, arith}
use Rattle.std.proofs.lemmas.List.{length-map}
use Rattle.bn_packed.specs.Numbers.{line_of, number_of}
use Rattle.bn_packed.specs.Ends.{EndList, IsLineBelow, ends_in}
use Rattle.bn_packed.proofs.LooseLemmas.{set_told, below_more}
use Rattle.bn_packed.proofs.BlockLemmas.{number_again, number_low, ends_in-set}
use Rattle.bn_packed.proofs.ends.Ends.set_at.Goals as goal

pub of-requires : goal.of-requires
of-requires g c =
    below_more c.args.self.now.elements g.C.Cell.limit (line_of c.args.end) c.requires.below
    (subst (λ n. n ≤ g.C.Cell.limit) (ap (λ (e : EndList). e.elements) c.self.view_is) c.self.invariant.0)

pub index_mut-requires : goal.index_mut-requires
index_mut-requires g c =
    let count = ap (λ (e : EndList). e.elements) c.self.view_is in
    let below : IsLineBelow c.self.inside.elements (line_of c.args.number) =
    subst (λ n. IsLineBelow n (line_of c.args.number)) (sym count) c.requires.there in
    let number = number_low c.self.inside.elements (line_of c.args.number) below in
    let again = number_again c.args.number in
    omega (arith, number, again, c.self.invariant.1)

pub returns-clause-ends : goal.returns-clause-ends
returns-clause-ends g c =
    let cells = c.self.inside.cells.items in
    let count = ap (λ (e : EndList). e.elements) c.self.view_is in
    let here = line_of c.args.number in
    let below : IsLineBelow c.self.inside.elements (line_of c.args.number) =
    subst (λ n. IsLineBelow n (line_of c.args.number)) (sym count) c.requires.there in
    let number = number_low c.self.inside.elements (line_of c.args.number) below in
    let within : number_of (line_of c.args.number) < length (map g.C.Cell.tells cells) =
    omega (arith, number, length-map cells g.C.Cell.tells, c.self.invariant.1) in
    let told : map g.C.Cell.tells (slice_set cells c.args.number c.of.result)
    ≡ slice_set (map g.C.Cell.tells cells) (number_of (line_of c.args.number)) (Some (line_of c.args.end)) =
    set_told g.C.Cell.tells cells (map g.C.Cell.tells cells) c.args.number (number_of (line_of c.args.number))
    c.of.result (line_of c.args.end) refl
    (sym (number_again c.args.number)) c.of.ensures in
    ap (λ xs. ends_in xs c.self.inside.elements) told
    ∙ ends_in-set (map g.C.Cell.tells cells) c.self.inside.elements (line_of c.args.number) (Some (line_of c.args.end))
    below within
    ∙ ap (λ (e : EndList). slice_set e.ends (4 * (line_of c.args.number).element + (line_of c.args.number).line)
    (Some (line_of c.args.end)))
    c.self.view_is
