use Rattle.std.proofs.Common.{sym, refl, subst}
use Rattle.bn_circuits.specs.declared.place.Place.TheVariants.{Enter}
use Rattle.bn_board.specs.Locations.{IsLocated, left}
use Rattle.bn_board.proofs.board.Board.located.Goals as goal

pub returns-in-Left-clause-located : goal.returns-in-Left-clause-located
returns-in-Left-clause-located c = left c.in-Left.element c.in-Left.line (sym c.in-Left.ensures.place) refl

pub returns-in-Enter-clause-located : goal.returns-in-Enter-clause-located
returns-in-Enter-clause-located c = subst (λ p. IsLocated c.args.self.now.layout p c.located.result)
    c.in-Enter.ensures.place
    (subst (λ l. IsLocated l (Enter
    c.in-Enter.element c.in-Enter.line) c.located.result) c.layout.ensures.layout c.located.ensures)
