-- Machines given by quintuples, and the step of such a machine (Bennett 1973).
use Rattle.std.specs.Prelude.{◌≡◌, ℕ, zero, suc, ◌<◌, List, [], ◌∷◌, length, Some}
use Rattle.std.proofs.Common.{refl, arith, get_or}
use Rattle.bn_machine.specs.declared.quint.Quint.{Quint}
use Rattle.bn_machine.specs.Machine.{final_of, Matches, IsFirstMatch, HasNoMatch}
use Rattle.bn_lists.specs.Lists.{nth, AllBefore}
use Rattle.bn_lists.proofs.ListLemmas.{first_at, none_to_end}

-- the entry at the last place is the last
pub final_of-last : (qs : List Quint) (k : ℕ) (d : Quint) → suc k ≡ length qs → (get_or qs k d).next ≡ final_of qs
final_of-last [] k d e = absurd (omega arith)
final_of-last (q ∷ []) zero d e = refl
final_of-last (q ∷ []) (suc k) d e = absurd (omega arith)
final_of-last (q ∷ r ∷ qs) zero d e = absurd (omega arith)
final_of-last (q ∷ r ∷ qs) (suc k) d e = final_of-last (r ∷ qs) k d (omega arith)

-- a search that has come to an entry that matches, and one that has come to the end
pub first_match_at : (qs : List Quint) (state symbol n : ℕ) (q : Quint)
    → AllBefore (λ r. Matches r state symbol → ⊥) qs n → nth qs n ≡ Some q → Matches q state symbol
    → IsFirstMatch qs state symbol n q
first_match_at qs state symbol n q before here matches = first_at (λ r. Matches r state symbol) qs n q before here
    matches

pub no_match : (qs : List Quint) (state symbol n : ℕ) → length qs < n → AllBefore (λ r. Matches r state symbol → ⊥) qs n
    → HasNoMatch qs state symbol
no_match qs state symbol n past before = none_to_end (λ r. Matches r state symbol) qs n past before
