use Rattle.std.proofs.Common.{List, ℕ, ◌++◌, subst, sym, append_assoc}
use Rattle.bn_netlist.specs.Coming.{HaveCome}
use Rattle.bn_netlist.specs.NetText.{IsTextRefusal}
use Rattle.bn_netlist.specs.declared.pieces.Pieces.{Pieces}
use Rattle.bn_netlist.proofs.pieces.Pieces.push.Goals as goal

pub returns-in-Refused : goal.returns-in-Refused
returns-in-Refused c = λ text come.
    let at = subst (λ (p : Pieces). HaveCome p text) c.in-Refused.is come in (
      λ rest. subst (λ (t : List ℕ). IsTextRefusal t c.in-Refused.refusal)
          (sym (append_assoc text c.args.piece.now rest)) (at.0 (c.args.piece.now ++ rest)),
      at.1,
    )
