-- Standard form of a machine, after Bennett 1973; the exact test is this project's own profile. All definitions are on
-- the list of quintuples, counted from 1, with symbol 0 as the blank.
use Rattle.std.specs.Prelude.{◌≡◌, ◌≢◌, ℕ, ◌<◌, List, length, Some, ◌⊎◌}
use Rattle.bn_machine.specs.Machine.{start_of, final_of}
use Rattle.bn_lists.specs.Lists.{nth}
use Rattle.bn_machine.specs.declared.quint.Quint.{Quint}
use Rattle.bn_machine.specs.declared.quint.Shift.TheVariants.{Stay, Right}

-- the quintuples with the numbers i and j, i less than j, share state and scanned symbol
pub record Clashes (i : ℕ) (first : Quint) (j : ℕ) (second : Quint) : Type 0 where
  pub before : i < j
  pub state : first.state ≡ second.state
  pub read : first.read ≡ second.read

-- quintuples i and j, i before j, share state and scanned symbol
pub record Repeats (qs : List Quint) (i j : ℕ) : Type 0 where
  pub first : Quint
  pub second : Quint
  pub first_stands : nth qs i ≡ Some first
  pub second_stands : nth qs j ≡ Some second
  pub clashes : Clashes i first j second

-- a quintuple that reads a blank, writes a blank and shifts right
pub record IsBeginning (q : Quint) : Type 0 where
  pub reads : q.read ≡ 0
  pub writes : q.write ≡ 0
  pub shifts : q.shift ≡ Right

-- the first quintuple reads a blank, writes a blank and shifts right
pub record BeginsWell (qs : List Quint) : Type 0 where
  pub quint : Quint
  pub stands : nth qs 1 ≡ Some quint
  pub begins : IsBeginning quint

-- quintuple i contains the state elsewhere than as the state of the first quintuple
abbrev pub NamesStart : ℕ → ℕ → Quint → Type 0
NamesStart start i q = (q.next ≡ start) ⊎ ((1 < i) × (q.state ≡ start))

-- quintuple i contains the start state elsewhere than as the state of the first quintuple
pub record UsesStart (qs : List Quint) (i : ℕ) : Type 0 where
  pub quint : Quint
  pub stands : nth qs i ≡ Some quint
  pub names : NamesStart (start_of qs) i quint

-- a quintuple that reads a blank, writes a blank, does not shift, and has a state other than the start state
pub record IsEnding (start : ℕ) (q : Quint) : Type 0 where
  pub reads : q.read ≡ 0
  pub writes : q.write ≡ 0
  pub shifts : q.shift ≡ Stay
  pub apart : q.state ≢ start

-- the last quintuple reads a blank, writes a blank, does not shift, and has a state other than the start state
pub record EndsWell (qs : List Quint) : Type 0 where
  pub quint : Quint
  pub stands : nth qs (length qs) ≡ Some quint
  pub ends : IsEnding (start_of qs) quint

-- quintuple i of n contains the state elsewhere than as the next state of the last quintuple
abbrev pub NamesFinal : ℕ → ℕ → ℕ → Quint → Type 0
NamesFinal final n i q = (q.state ≡ final) ⊎ ((i < n) × (q.next ≡ final))

-- quintuple i contains the final state elsewhere than as the next state of the last quintuple
pub record UsesFinal (qs : List Quint) (i : ℕ) : Type 0 where
  pub quint : Quint
  pub stands : nth qs i ≡ Some quint
  pub names : NamesFinal (final_of qs) (length qs) i quint

-- no two quintuples share state and scanned symbol
pub record IsUnambiguous (qs : List Quint) : Type 0 where
  pub none : (i j : ℕ) → Repeats qs i j → ⊥

-- the start state occurs only as the state of the first quintuple
pub record HasLoneStart (qs : List Quint) : Type 0 where
  pub none : (i : ℕ) → UsesStart qs i → ⊥

-- the final state occurs only as the next state of the last quintuple
pub record HasLoneFinal (qs : List Quint) : Type 0 where
  pub none : (i : ℕ) → UsesFinal qs i → ⊥

-- the quintuples are in standard form
pub record IsStandard (qs : List Quint) : Type 0 where
  pub unambiguous : IsUnambiguous qs
  pub begins : BeginsWell qs
  pub lone_start : HasLoneStart qs
  pub ends : EndsWell qs
  pub lone_final : HasLoneFinal qs
