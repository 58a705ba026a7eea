-- The laws of this crate that follow from those of the crates below it, each proved.
use Rattle.bn_realise.proofs.BankCrossingLemmas.{moved-beside}
use Rattle.bn_realise.proofs.BankWiresLemmas.{bank_wire-IsWithinLines, bank_wire-no_input}
use Rattle.bn_realise.specs.Laws.{MovesStayWithin, OwnWiresStayInside}

pub moves_stay_within : MovesStayWithin
moves_stay_within =
    λ k b t q i x e reversible square bank entering beside. moved-beside k b t q i x reversible square bank
    entering e beside

pub own_wires_stay_inside : OwnWiresStayInside
own_wires_stay_inside = λ b t from to reversible square own. (
  bank_wire-IsWithinLines b t reversible square from to own,
  bank_wire-no_input b t reversible square from to own,
)
