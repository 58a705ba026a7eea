-- Why quintuples are not in standard form: the first of the five conditions that fails, in their order, with the
-- numbers that show it.
use Rattle.std.specs.Prelude.{ℕ, ◌<◌, List, ⊤}
use Rattle.bn_machine.specs.declared.quint.Quint.{Quint}
use Rattle.bn_machine.specs.Standard.{Repeats, BeginsWell, UsesStart, EndsWell, UsesFinal, IsUnambiguous, HasLoneStart}
use Rattle.bn_machine.specs.declared.why.Why.{Why}
use Rattle.bn_machine.specs.declared.why.Why.TheVariants.{Repeat, First, StartUsed, Last, FinalUsed, NoMemory}
use Rattle.bn_lists.specs.Lists.{IsLeast}

-- quintuple i is the first that shares state and scanned symbol with a later one, and j is the first such later one
pub record IsLeastRepeat (qs : List Quint) (i j : ℕ) : Type 0 where
  pub repeats : Repeats qs i j
  pub least_first : (m n : ℕ) → m < i → Repeats qs m n → ⊥
  pub least_second : (n : ℕ) → n < j → Repeats qs i n → ⊥

-- quintuple i is the first that uses the start state, or the final state, at a place that standard form forbids
abbrev pub IsLeastStart : List Quint → ℕ → Type 0
IsLeastStart qs = IsLeast (UsesStart qs)

abbrev pub IsLeastFinal : List Quint → ℕ → Type 0
IsLeastFinal qs = IsLeast (UsesFinal qs)

-- when each refusal fits: all conditions before its own hold, and its own fails; `NoMemory` always fits
abbrev pub IsStandardRefusal : List Quint → Why → Type 0
IsStandardRefusal qs (Repeat i j) = IsLeastRepeat qs i j
IsStandardRefusal qs First = IsUnambiguous qs × (BeginsWell qs → ⊥)
IsStandardRefusal qs (StartUsed i) = IsUnambiguous qs × BeginsWell qs × IsLeastStart qs i
IsStandardRefusal qs Last = IsUnambiguous qs × BeginsWell qs × HasLoneStart qs × (EndsWell qs → ⊥)
IsStandardRefusal qs (FinalUsed i) = IsUnambiguous qs × BeginsWell qs × HasLoneStart qs × EndsWell qs
    × IsLeastFinal qs i
IsStandardRefusal qs NoMemory = ⊤
