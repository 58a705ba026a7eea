-- A number that is kept is the name's.
use Rattle.std.proofs.Common.{ℕ, Vec, Global, sym}
use Rattle.bn_session.proofs.StateLemmas.{number_kept}
use Rattle.bn_session.proofs.states.States.find.Goals as goal

pub returns-in-Some-clause-found : goal.returns-in-Some-clause-found
returns-in-Some-clause-found c =
    let bytes = λ (v : Vec ℕ Global). v.items in
    rw (← c.self.view_is) (number_kept bytes c.self.inside.names.now.states c.args.name.now c.self.inside.known.entries
    c.in-Some.number.now c.self.invariant (sym c.in-Some.ensures.value))
