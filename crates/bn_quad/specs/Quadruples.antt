-- Quadruple machines of three tapes and their step (Bennett 1973).
-- A quadruple does one of two things on each tape: it reads a symbol and writes one in its place, or it shifts the head
-- without reading.
use Rattle.std.specs.Prelude.{◌≡◌, ◌≢◌, ℕ, ◌<◌, ◌^◌, List, [], ◌∷◌, length, map, reverse, Some, ⊤, All}
use Rattle.bn_machine.specs.Tape.{Tape, scanned, write, shift, opposite}
use Rattle.bn_machine.specs.Window.{Room, anywhere, Allows}
use Rattle.bn_lists.specs.Lists.{nth, HasNone, IsFirstWith}
use Rattle.bn_machine.specs.declared.quint.Shift.{Shift}

-- what a quadruple does on one tape: read this symbol and write that one, or shift the head
pub data Deed : Type 0 where
  Rewrite : ℕ → ℕ → Deed
  Move : Shift → Deed

-- a quadruple (`Rule`) with states of any type: the state that it leaves, its deeds on the tapes 1, 2 and 3, and the
-- state that it leads to
pub record Rule (Q : Type 0) : Type 0 where
  pub from : Q
  pub one : Deed
  pub two : Deed
  pub three : Deed
  pub to : Q

-- its deeds, tape 1 first
abbrev pub deeds_of : {Q : Type 0} → Rule Q → List Deed
deeds_of r = r.one ∷ r.two ∷ r.three ∷ []

-- a configuration of a machine, between two steps: a state and three infinite tapes
pub record Configuration (Q : Type 0) : Type 0 where
  pub state : Q
  pub one : Tape
  pub two : Tape
  pub three : Tape

-- the deed applies to the tape: the head scans the symbol that is read, if one is read
abbrev pub DeedApplies : Deed → Tape → Type 0
DeedApplies (Rewrite read written) t = scanned t ≡ read
DeedApplies (Move s) t = ⊤

-- the tape after the deed
abbrev pub done : Deed → Tape → Tape
done (Rewrite read written) t = write t written
done (Move s) t = shift t s

-- The quadruple applies to the configuration: it leaves the state, and each of its deeds applies to its tape.
pub record AppliesTo {Q : Type 0} (r : Rule Q) (c : Configuration Q) : Type 0 where
  pub from : c.state ≡ r.from
  pub one : DeedApplies r.one c.one
  pub two : DeedApplies r.two c.two
  pub three : DeedApplies r.three c.three

-- the configuration after the quadruple
abbrev pub after : {Q : Type 0} → Rule Q → Configuration Q → Configuration Q
after r c = record { state = r.to; one = done r.one c.one; two = done r.two c.two; three = done r.three c.three }

-- The quadruple applies to c and gives d. The definition covers every state, the final one too.
pub record Leads {Q : Type 0} (r : Rule Q) (c d : Configuration Q) : Type 0 where
  pub applies : AppliesTo r c
  pub gives : d ≡ after r c

-- the quadruple numbered n, counted from 1, leads from c to d
pub record LeadsBy {Q : Type 0} (rs : List (Rule Q)) (n : ℕ) (c d : Configuration Q) : Type 0 where
  pub rule : Rule Q
  pub stands : nth rs n ≡ Some rule
  pub leads : Leads rule c d

-- some quadruple of the list leads from c to d
pub record Follows {Q : Type 0} (rs : List (Rule Q)) (c d : Configuration Q) : Type 0 where
  pub number : ℕ
  pub leads : LeadsBy rs number c d

-- every configuration has at most one successor
abbrev pub HasOneSuccessor : {Q : Type 0} → List (Rule Q) → Type 0
HasOneSuccessor {Q} rs = (c d e : Configuration Q) → Follows rs c d → Follows rs c e → d ≡ e

-- every configuration has at most one predecessor
abbrev pub HasOnePredecessor : {Q : Type 0} → List (Rule Q) → Type 0
HasOnePredecessor {Q} rs = (c d e : Configuration Q) → Follows rs c e → Follows rs d e → c ≡ d

-- ---- inverses

-- the deed that undoes another one: read and written symbol exchanged, the shift reversed
abbrev pub turned_deed : Deed → Deed
turned_deed (Rewrite read written) = Rewrite written read
turned_deed (Move s) = Move (opposite s)

abbrev pub turned : {Q : Type 0} → Rule Q → Rule Q
turned r = record {
  from = r.to;
  one = turned_deed r.one;
  two = turned_deed r.two;
  three = turned_deed r.three;
  to = r.from;
}

-- the inverses of the quadruples, in the opposite order
abbrev pub turned_list : {Q : Type 0} → List (Rule Q) → List (Rule Q)
turned_list rs = map turned (reverse rs)

-- ---- a machine

-- a machine: its quadruples in order, how many states it has, and how many symbols each tape has, tape 1 first
pub record Quadruples : Type 0 where
  pub rules : List (Rule ℕ)
  pub states : ℕ
  pub symbols : List ℕ

abbrev pub quadruples_of : List (Rule ℕ) → ℕ → List ℕ → Quadruples
quadruples_of rs states symbols = record { rules = rs; states = states; symbols = symbols }

-- the initial state is that of the first quadruple; the final state is the next state of the last quadruple
abbrev pub initial_of : List (Rule ℕ) → ℕ
initial_of [] = 0
initial_of (r ∷ rs) = r.from

abbrev pub final_state_of : List (Rule ℕ) → ℕ
final_state_of [] = 0
final_state_of (r ∷ []) = r.to
final_state_of (r ∷ s ∷ rs) = final_state_of (s ∷ rs)

-- the deed's symbols are below `symbols`
abbrev pub IsDeedInRange : ℕ → Deed → Type 0
IsDeedInRange symbols (Rewrite read written) = (read < symbols) × (written < symbols)
IsDeedInRange symbols (Move s) = ⊤

-- each deed's symbols are among those of its tape
abbrev pub AreDeedsInRange : List ℕ → List Deed → Type 0
AreDeedsInRange [] [] = ⊤
AreDeedsInRange [] (d ∷ ds) = ⊥
AreDeedsInRange (z ∷ zs) [] = ⊥
AreDeedsInRange (z ∷ zs) (d ∷ ds) = IsDeedInRange z d × AreDeedsInRange zs ds

-- every number of the quadruple is one of the machine's states or symbols
pub record IsRuleInRange (states : ℕ) (symbols : List ℕ) (r : Rule ℕ) : Type 0 where
  pub from : r.from < states
  pub deeds : AreDeedsInRange symbols (deeds_of r)
  pub to : r.to < states

-- There is a quadruple, there are fewer than 2^32, there are three numbers of symbols, and all numbers are in range.
pub record IsQuadMachine (p : Quadruples) : Type 0 where
  pub some : 0 < length p.rules
  pub few : length p.rules < 2 ^ 32
  pub tapes : length p.symbols ≡ 3
  pub in_range : All (IsRuleInRange p.states p.symbols) p.rules

-- the inverse machine
abbrev pub inverse_of : Quadruples → Quadruples
inverse_of p = record { rules = turned_list p.rules; states = p.states; symbols = p.symbols }

-- ---- the step of a machine

-- quadruple n is the first of the list that applies
abbrev pub IsFirstRule : List (Rule ℕ) → Configuration ℕ → ℕ → Rule ℕ → Type 0
IsFirstRule rs c n r = IsFirstWith (λ s. AppliesTo s c) rs n r

-- no quadruple applies
abbrev pub HasNoRule : {Q : Type 0} → List (Rule Q) → Configuration Q → Type 0
HasNoRule rs c = HasNone (λ r. AppliesTo r c) rs

-- the machine is stuck: no quadruple applies, and the state is not the final one
pub record IsQuadrupleStuck (p : Quadruples) (c : Configuration ℕ) : Type 0 where
  pub going : c.state ≢ final_state_of p.rules
  pub none : HasNoRule p.rules c

-- the positions that the heads of the three tapes may take
pub record Rooms : Type 0 where
  pub one : Room
  pub two : Room
  pub three : Room

abbrev pub everywhere : Rooms
everywhere = record { one = anywhere; two = anywhere; three = anywhere }

-- each head is at a position that it may take
pub record AreAllowed {Q : Type 0} (rooms : Rooms) (c : Configuration Q) : Type 0 where
  pub one : Allows rooms.one c.one.head
  pub two : Allows rooms.two c.two.head
  pub three : Allows rooms.three c.three.head

-- One step of the machine, by quadruple n: the state is not the final one, the first quadruple that applies leads
-- from c to d, and each head's new position is within its window, if it has one.
pub record GoesBy (rooms : Rooms) (p : Quadruples) (n : ℕ) (c d : Configuration ℕ) : Type 0 where
  pub going : c.state ≢ final_state_of p.rules
  pub rule : Rule ℕ
  pub first : IsFirstRule p.rules c n rule
  pub gives : d ≡ after rule c
  pub stays : AreAllowed rooms d

abbrev pub QuadruplesRunTo : Rooms → Quadruples → Configuration ℕ → Configuration ℕ → Type 0
QuadruplesRunTo rooms p c d = (n : ℕ) × GoesBy rooms p n c d
