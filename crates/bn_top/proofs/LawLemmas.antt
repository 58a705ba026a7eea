-- The laws of this crate that follow from those of the crates below it, each proved.
use Rattle.bn_top.proofs.ClauseLemmas.{ends-give_clauses}
use Rattle.bn_top.specs.Clauses.{EndsGiveClauses}

pub ends_give_clauses-apart : EndsGiveClauses
ends_give_clauses-apart = λ words status b a. ends-give_clauses words b a status
