-- The search for a quintuple that leaves the halting state.
use Rattle.std.specs.Prelude.{◌≡◌, ℕ, ◌<◌, ◌≤◌, List, length, Some}
use Rattle.std.proofs.Common.{arith}
use Rattle.bn_machine.specs.Machine.{final_of}
use Rattle.bn_lists.specs.Lists.{nth}
use Rattle.bn_lists.proofs.ListLemmas.{nth_within}
use Rattle.bn_machine.specs.declared.quint.Quint.{Quint}
use Rattle.bn_machine.specs.Search.{NoneBefore}
use Rattle.bn_standardise.specs.Standardised.{HasNoHalting}
use Rattle.bn_standardise.specs.Refusals.{IsLeastHalting}

-- a quintuple, whatever its number, leaves the list's halting state
abbrev pub Leaves : List Quint → ℕ → Quint → Type 0
Leaves qs i q = q.state ≡ final_of qs

-- the search has passed the end
pub no_halting : (qs : List Quint) (n : ℕ) → length qs < n → NoneBefore (Leaves qs) qs n → HasNoHalting qs
no_halting qs n past before = record {
  none = λ i h. let known : i
      ≤ length qs = nth_within qs i h.quint h.stands in before.none i h.quint (omega arith) h.stands h.leaves;
}

-- the search has come to one
pub least_halting : (qs : List Quint) (n : ℕ) (q : Quint) → NoneBefore (Leaves qs) qs n → nth qs n ≡ Some q
    → q.state ≡ final_of qs → IsLeastHalting qs n
least_halting qs n q before here leaves = record {
  holds = record { quint = q; stands = here; leaves = leaves };
  least = λ m low h. before.none m h.quint low h.stands h.leaves;
}
