-- The accepted machines, and the refusals of the others (this project's own profile).
use Rattle.std.specs.Prelude.{◌≡◌, ℕ, ◌+◌, ◌<◌, ◌≤◌, List, length, ⊤}
use Rattle.bn_machine.specs.Machine.{Program}
use Rattle.bn_machine.specs.declared.quint.Quint.{Quint}
use Rattle.bn_machine.specs.Standard.{IsUnambiguous}
use Rattle.bn_machine.specs.Verdict.{IsLeastRepeat}
use Rattle.bn_table.specs.declared.entry.TheConstants.{MOST_ENTRIES}
use Rattle.bn_standardise.specs.Standardised.{IsLoose, LeavesHalting}
use Rattle.bn_standardise.specs.declared.refusal.LooseRefusal.{LooseRefusal}
use Rattle.bn_standardise.specs.declared.refusal.LooseRefusal.TheVariants.{Repeat, Halting, Many, NoMemory}
use Rattle.bn_lists.specs.Lists.{IsLeast}

-- quintuple i is the first that leaves the halting state
abbrev pub IsLeastHalting : List Quint → ℕ → Type 0
IsLeastHalting qs = IsLeast (LeavesHalting qs)

-- the number of quintuples of the machine in standard form: those of the machine, one for each symbol, and one more
abbrev pub count_of : Program → ℕ
count_of p = length p.quints + p.symbols + 1

-- The machine is accepted: it has an equivalent one in standard form, which has at most as many quintuples as a table
-- may have.
pub record IsAccepted (p : Program) : Type 0 where
  pub loose : IsLoose p
  pub few : count_of p ≤ MOST_ENTRIES

-- When each refusal fits: all tests before its own pass, and its own fails. `NoMemory` always fits.
abbrev pub IsLooseRefusal : Program → LooseRefusal → Type 0
IsLooseRefusal p (Repeat i j) = IsLeastRepeat p.quints i j
IsLooseRefusal p (Halting i) = IsUnambiguous p.quints × IsLeastHalting p.quints i
IsLooseRefusal p (Many count) = IsLoose p × (count ≡ count_of p) × (MOST_ENTRIES < count)
IsLooseRefusal p NoMemory = ⊤

-- why the first test fails
abbrev pub IsRepeatRefusal : List Quint → LooseRefusal → Type 0
IsRepeatRefusal qs (Repeat i j) = IsLeastRepeat qs i j
IsRepeatRefusal qs NoMemory = ⊤
IsRepeatRefusal qs other = ⊥
