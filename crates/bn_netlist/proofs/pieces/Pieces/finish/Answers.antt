use Rattle.std.proofs.Common.{List, ℕ, [], subst, append-nil}
use Rattle.bn_netlist.specs.Coming.{HaveCome}
use Rattle.bn_netlist.specs.NetText.{IsTextRefusal}
use Rattle.bn_netlist.specs.declared.pieces.Pieces.{Pieces}
use Rattle.bn_netlist.proofs.pieces.Pieces.finish.Goals as goal

pub returns-in-Refused-clause-refused : goal.returns-in-Refused-clause-refused
returns-in-Refused-clause-refused g c = λ text come.
    let at = subst (λ (p : Pieces). HaveCome p text) c.in-Refused.is come in
    subst (λ (t : List ℕ). IsTextRefusal t c.in-Refused.refusal) (append-nil text) (at.0 [])
