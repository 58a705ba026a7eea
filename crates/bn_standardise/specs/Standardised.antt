-- The equivalent machine in standard form, and the machines that have one.
use Rattle.std.specs.Prelude.{◌≡◌, ◌≢◌, ℕ, List, map, Some, ◌⊎◌}
use Rattle.bn_machine.specs.Machine.{Program, IsMachine, final_of}
use Rattle.bn_lists.specs.Lists.{nth, Has}
use Rattle.bn_machine.specs.declared.quint.Quint.{Quint}
use Rattle.bn_machine.specs.Standard.{IsUnambiguous}
use Rattle.bn_standardise.specs.Rules.{rules_of}
use Rattle.bn_standardise.specs.Numbering.{number_of, states_of}
use Rattle.bn_standardise.specs.declared.name.Name.{Name}
use Rattle.bn_standardise.specs.declared.name.Name.TheVariants.{First, Own, Last}
use Rattle.bn_standardise.specs.declared.rule.Rule.{Rule}

-- a quintuple with numbers for its names
abbrev pub numbered : (Name → ℕ) → Rule → Quint
numbered number r =
    record { state = number r.state; read = r.read; write = r.write; shift = r.shift; next = number r.next }

-- the list of a machine under any numbering of names
abbrev pub standardised_by : (Name → ℕ) → Program → Program
standardised_by number p =
    record { quints = map (numbered number) (rules_of p); states = states_of (rules_of p); symbols = p.symbols }

-- the numbering by first appearance in the list
abbrev pub numbering_of : Program → Name → ℕ
numbering_of p = number_of (rules_of p)

-- the machine in standard form
abbrev pub standardised : Program → Program
standardised p = standardised_by (numbering_of p) p

-- the state occurs in a quintuple
pub record Occurs (qs : List Quint) (s : ℕ) : Type 0 where
  pub quint : Quint
  pub stands : Has qs quint
  pub names : (quint.state ≡ s) ⊎ (quint.next ≡ s)

-- the numbering gives different numbers to different names of the list
pub record TellsApart (number : Name → ℕ) (p : Program) : Type 0 where
  pub ends : number First ≢ number Last
  pub first : (s : ℕ) → Occurs p.quints s → number (Own s) ≢ number First
  pub last : (s : ℕ) → Occurs p.quints s → number (Own s) ≢ number Last
  pub states : (s t : ℕ) → Occurs p.quints s → Occurs p.quints t → number (Own s) ≡ number (Own t) → s ≡ t

-- quintuple i, counted from 1, leaves the halting state
pub record LeavesHalting (qs : List Quint) (i : ℕ) : Type 0 where
  pub quint : Quint
  pub stands : nth qs i ≡ Some quint
  pub leaves : quint.state ≡ final_of qs

-- no quintuple leaves the halting state
pub record HasNoHalting (qs : List Quint) : Type 0 where
  pub none : (i : ℕ) → LeavesHalting qs i → ⊥

-- The machine has an equivalent one in standard form: no two quintuples share state and scanned symbol, and none leaves
-- the halting state.
pub record IsLoose (p : Program) : Type 0 where
  pub machine : IsMachine p
  pub unambiguous : IsUnambiguous p.quints
  pub halts : HasNoHalting p.quints
