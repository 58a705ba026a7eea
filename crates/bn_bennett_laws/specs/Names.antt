-- The states of a list of quadruples (`Rule`), and the names of the states in Bennett's list.
use Rattle.std.specs.Prelude.{◌≡◌, ◌≢◌, ℕ, ◌<◌, ◌≤◌, ◌⊎◌, List, [], ◌∷◌, length, Some, slice_get, ⊤}
use Rattle.std.specs.List.{flat_map}
use Rattle.bn_machine.specs.Machine.{Program}
use Rattle.bn_lists.specs.Lists.{nth, IsIn}
use Rattle.bn_machine.specs.declared.quint.Quint.{Quint}
use Rattle.bn_quad.specs.Quadruples.{Rule}
use Rattle.bn_quad.specs.Overlap.{HasNoClash, IsSilent}
use Rattle.bn_quad.specs.declared.clash.Clash.TheVariants.{Reads, Writes}
use Rattle.bn_bennett_laws.specs.declared.name.Name.{Name}
use Rattle.bn_bennett_laws.specs.declared.name.Name.TheVariants.{Compute, ComputeWithin, GoRight, CopyLetter, GoLeft}
use Rattle.bn_bennett_laws.specs.declared.name.Name.TheVariants.{PassLetter, Retrace, RetraceWithin}

-- the states of a list of quadruples, in order: for each quadruple the state that it leaves, then the state to which
-- it leads, with repetitions
abbrev pub states_in : {Q : Type 0} → List (Rule Q) → List Q
states_in {Q} rs = flat_map (λ (r : Rule Q). r.from ∷ r.to ∷ []) rs

-- A numbering of the states, counted from 0: each state of the quadruples has a number, no other state has one, and
-- no state has two.
pub record NumbersStates {Q : Type 0} (rs : List (Rule Q)) (order : List Q) : Type 0 where
  pub each : (q : Q) → IsIn (states_in rs) q → (n : ℕ) × (slice_get order n ≡ Some q)
  pub only : (n : ℕ) (q : Q) → slice_get order n ≡ Some q → IsIn (states_in rs) q
  pub apart : (m n : ℕ) (q : Q) → slice_get order m ≡ Some q → slice_get order n ≡ Some q → m ≡ n

-- Uniform, for quadruples over states of any type: the quadruples that leave one state read the same tapes, those
-- that lead to one state write the same tapes, each reads a tape or moves a head, none leads to the initial state,
-- and none leaves the final state.
pub record IsUniformFrom {Q : Type 0} (initial final : Q) (rs : List (Rule Q)) : Type 0 where
  pub reads : HasNoClash Reads rs
  pub writes : HasNoClash Writes rs
  pub active : (r : Rule Q) → IsIn rs r → IsSilent r → ⊥
  pub not_entered : (r : Rule Q) → IsIn rs r → r.to ≢ initial
  pub not_left : (r : Rule Q) → IsIn rs r → r.from ≢ final

-- some quintuple leaves this state or leads to it
pub record Mentions (qs : List Quint) (state : ℕ) : Type 0 where
  pub number : ℕ
  pub quint : Quint
  pub stands : nth qs number ≡ Some quint
  pub names : (quint.state ≡ state) ⊎ (quint.next ≡ state)

-- the names in Bennett's list: two for each state of a quintuple, two for each quintuple, and the four of copying
abbrev pub IsNameOf : Program → Name → Type 0
IsNameOf p (Compute state) = Mentions p.quints state
IsNameOf p (ComputeWithin m) = (0 < m) × (m ≤ length p.quints)
IsNameOf p GoRight = ⊤
IsNameOf p CopyLetter = ⊤
IsNameOf p GoLeft = ⊤
IsNameOf p PassLetter = ⊤
IsNameOf p (Retrace state) = Mentions p.quints state
IsNameOf p (RetraceWithin m) = (0 < m) × (m ≤ length p.quints)
