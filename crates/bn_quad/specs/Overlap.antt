-- The local tests on quadruples (`Rule`): overlap in domain and in range (Bennett 1973), and uniformity (this project's
-- own profile).
use Rattle.std.specs.Prelude.{◌≡◌, ℕ, ◌<◌, List, [], ◌∷◌, Some, ⊤}
use Rattle.bn_lists.specs.Lists.{nth, HasNone, IsFirstWith}
use Rattle.bn_quad.specs.declared.clash.Clash.{Clash}
use Rattle.bn_quad.specs.declared.clash.Clash.TheVariants.{Domain, Range, Reads, Writes}
use Rattle.bn_quad.specs.declared.clash.Flaw.{Flaw}
use Rattle.bn_quad.specs.declared.clash.Flaw.TheVariants.{Silent, Enters, Leaves}
use Rattle.bn_machine.specs.declared.quint.Shift.TheVariants.{Stay}
use Rattle.bn_quad.specs.Quadruples.{Deed, Rewrite, Move, Rule, deeds_of, initial_of, final_state_of}

-- the deeds of two quadruples on a tape can apply to the same tape: they read the same symbol, or one does not read
abbrev pub MeetsInDomain : Deed → Deed → Type 0
MeetsInDomain (Rewrite read written) (Rewrite read' written') = read ≡ read'
MeetsInDomain (Rewrite read written) (Move s) = ⊤
MeetsInDomain (Move s) (Rewrite read written) = ⊤
MeetsInDomain (Move s) (Move s') = ⊤

-- the deeds can produce the same tape: they write the same symbol, or one shifts
abbrev pub MeetsInRange : Deed → Deed → Type 0
MeetsInRange (Rewrite read written) (Rewrite read' written') = written ≡ written'
MeetsInRange (Rewrite read written) (Move s) = ⊤
MeetsInRange (Move s) (Rewrite read written) = ⊤
MeetsInRange (Move s) (Move s') = ⊤

-- both read and write the tape, or both shift it
abbrev pub IsAlike : Deed → Deed → Type 0
IsAlike (Rewrite read written) (Rewrite read' written') = ⊤
IsAlike (Rewrite read written) (Move s) = ⊥
IsAlike (Move s) (Rewrite read written) = ⊥
IsAlike (Move s) (Move s') = ⊤

-- the relation holds tape by tape
abbrev pub OnEachTape : (Deed → Deed → Type 0) → List Deed → List Deed → Type 0
OnEachTape R [] [] = ⊤
OnEachTape R [] (e ∷ es) = ⊥
OnEachTape R (d ∷ ds) [] = ⊥
OnEachTape R (d ∷ ds) (e ∷ es) = R d e × OnEachTape R ds es

-- ---- two quadruples

-- they leave the same state, and on each tape they can apply to the same tape
pub record OverlapsInDomain {Q : Type 0} (r s : Rule Q) : Type 0 where
  pub from : r.from ≡ s.from
  pub tapes : OnEachTape MeetsInDomain (deeds_of r) (deeds_of s)

-- they lead to the same state, and on each tape they can produce the same tape
pub record OverlapsInRange {Q : Type 0} (r s : Rule Q) : Type 0 where
  pub to : r.to ≡ s.to
  pub tapes : OnEachTape MeetsInRange (deeds_of r) (deeds_of s)

-- they read, and therefore write, the same tapes
abbrev pub HaveSameTapes : {Q : Type 0} → Rule Q → Rule Q → Type 0
HaveSameTapes r s = OnEachTape IsAlike (deeds_of r) (deeds_of s)

-- they leave the same state and read different tapes
pub record DiffersInReads {Q : Type 0} (r s : Rule Q) : Type 0 where
  pub from : r.from ≡ s.from
  pub apart : HaveSameTapes r s → ⊥

-- they lead to the same state and write different tapes
pub record DiffersInWrites {Q : Type 0} (r s : Rule Q) : Type 0 where
  pub to : r.to ≡ s.to
  pub apart : HaveSameTapes r s → ⊥

-- ---- pairs of a list

-- Two quadruples clash: they overlap in domain; they overlap in range; they leave the same state and read different
-- tapes; or they lead to the same state and write different tapes.
abbrev pub QuadruplesClash : {Q : Type 0} → Clash → Rule Q → Rule Q → Type 0
QuadruplesClash Domain r s = OverlapsInDomain r s
QuadruplesClash Range r s = OverlapsInRange r s
QuadruplesClash Reads r s = DiffersInReads r s
QuadruplesClash Writes r s = DiffersInWrites r s

-- quadruples i and j, i before j, both counted from 1, clash
pub record IsClash {Q : Type 0} (clash : Clash) (rs : List (Rule Q)) (i j : ℕ) : Type 0 where
  pub before : i < j
  pub first : Rule Q
  pub second : Rule Q
  pub first_stands : nth rs i ≡ Some first
  pub second_stands : nth rs j ≡ Some second
  pub clashes : QuadruplesClash clash first second

-- no two quadruples clash
pub record HasNoClash {Q : Type 0} (clash : Clash) (rs : List (Rule Q)) : Type 0 where
  pub none : (i j : ℕ) → IsClash clash rs i j → ⊥

-- quadruple i is the first that clashes with a later one, and j is the first later one with which it clashes
pub record IsLeastClash {Q : Type 0} (clash : Clash) (rs : List (Rule Q)) (i j : ℕ) : Type 0 where
  pub holds : IsClash clash rs i j
  pub least_first : (m n : ℕ) → m < i → IsClash clash rs m n → ⊥
  pub least_second : (n : ℕ) → n < j → IsClash clash rs i n → ⊥

-- deterministic: no two overlap in domain; reversible: no two overlap in range
abbrev pub IsDeterministic : {Q : Type 0} → List (Rule Q) → Type 0
IsDeterministic rs = HasNoClash Domain rs

abbrev pub IsReversible : {Q : Type 0} → List (Rule Q) → Type 0
IsReversible rs = HasNoClash Range rs

-- ---- single quadruples

-- the tape is not read, and its head stays
abbrev pub IsIdle : Deed → Type 0
IsIdle (Rewrite read written) = ⊥
IsIdle (Move s) = s ≡ Stay

-- the quadruple reads no tape and shifts no tape left or right
pub record IsSilent {Q : Type 0} (r : Rule Q) : Type 0 where
  pub one : IsIdle r.one
  pub two : IsIdle r.two
  pub three : IsIdle r.three

-- a quadruple has a flaw: it is silent, it leads to this state, or it leaves this state
abbrev pub IsFlawed : Flaw → Rule ℕ → Type 0
IsFlawed Silent r = IsSilent r
IsFlawed (Enters state) r = r.to ≡ state
IsFlawed (Leaves state) r = r.from ≡ state

-- no quadruple has the flaw
abbrev pub HasNoFlaw : Flaw → List (Rule ℕ) → Type 0
HasNoFlaw flaw rs = HasNone (IsFlawed flaw) rs

-- quadruple i, counted from 1, is the first that has the flaw
abbrev pub IsFirstFlaw : Flaw → List (Rule ℕ) → ℕ → Type 0
IsFirstFlaw flaw rs i = (r : Rule ℕ) × IsFirstWith (IsFlawed flaw) rs i r

-- the flaws that concern the initial and the final state of the list
abbrev pub initial_flaw : List (Rule ℕ) → Flaw
initial_flaw rs = Enters (initial_of rs)

abbrev pub final_flaw : List (Rule ℕ) → Flaw
final_flaw rs = Leaves (final_state_of rs)

-- Uniform: quadruples that leave the same state read the same tapes; quadruples that lead to the same state write the
-- same tapes; each quadruple reads a tape or moves a head; none leads to the initial state, and none leaves the final
-- one.
pub record IsUniform (rs : List (Rule ℕ)) : Type 0 where
  pub reads : HasNoClash Reads rs
  pub writes : HasNoClash Writes rs
  pub active : HasNoFlaw Silent rs
  pub initial : HasNoFlaw (initial_flaw rs) rs
  pub final : HasNoFlaw (final_flaw rs) rs
