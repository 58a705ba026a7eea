-- The name has the number that is kept with it.
use Rattle.std.proofs.Common.{◌≡◌, ℕ, Some, slice_get, Vec, Global}
use Rattle.bn_session.proofs.StateLemmas.{numbers_more}
use Rattle.bn_session.proofs.states.States.note.Goals as goal

pub invariant_of-self : goal.invariant_of-self
invariant_of-self c = rw c.in_err-insert.ensures.err c.self.invariant

pub invariant_of-self-2 : goal.invariant_of-self-2
invariant_of-self-2 c =
    let bytes = λ (v : Vec ℕ Global). v.items in
    let here : slice_get c.self.inside.names.now.states c.args.number ≡ Some c.in_ok-owned.owned.items =
    rw (c.self.view_is, c.in_ok-owned.ensures.items) c.requires in
    rw c.in_ok-insert.ensures.entries (numbers_more bytes c.self.inside.names.now.states c.in_ok-owned.owned
    c.args.number c.self.inside.known.entries c.self.invariant here)
