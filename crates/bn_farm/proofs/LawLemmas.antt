-- The laws of this crate that follow from those of the crates below it, each proved.
use Rattle.bn_farm.proofs.BoardLemmas.{forward_counted, back_counted}
use Rattle.bn_farm.proofs.LawfulLemmas.{length_play, keeps_circuit}
use Rattle.bn_farm.specs.Farms.{circuit_in}
use Rattle.bn_farm.specs.Laws.{CountsAreSteps, BoardsKeepCircuits}

pub counts_are_steps : CountsAreSteps
counts_are_steps = (
  λ b n _. forward_counted (circuit_in b) b.spelling.config n,
  λ b n good. back_counted (circuit_in b) good.circuit b.spelling.config good.config n,
)

pub boards_keep_circuits : BoardsKeepCircuits
boards_keep_circuits = (length_play, keeps_circuit)
