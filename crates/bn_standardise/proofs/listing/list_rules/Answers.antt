-- A machine has a symbol.
use Rattle.std.proofs.Common.{◌<◌, ℕ, sym, subst}
use Rattle.bn_standardise.proofs.RuleLemmas.{some_symbol}
use Rattle.bn_standardise.proofs.listing.list_rules.Goals as goal

pub add_back-requires : goal.add_back-requires
add_back-requires c =
    let P : ℕ → Type 0 = λ n. 0 < n in
    subst P (sym c.symbols.ensures) (some_symbol c.args.machine.now c.quints.ensures.valid)
