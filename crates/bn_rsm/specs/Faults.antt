-- What can be wrong with the moves of a machine, and which move is the first faulty one. Moves are counted from 1.
use Rattle.std.specs.Prelude.{◌≡◌, ℕ, ◌-◌, ◌<◌, nat_lt, ◌==◌, ◌&&◌, Bool, List, take, Option, Some, None, slice_get}
use Rattle.std.specs.Prelude.{if◌then◌else◌}
use Rattle.std.specs.List.{position_from}
use Rattle.bn_rsm.specs.Machines.{AreSound}
use Rattle.bn_rsm.specs.declared.rsm_move.RsmMove.{RsmMove}
use Rattle.bn_rsm.specs.declared.refusal.RsmRefusal.{RsmRefusal}
use Rattle.bn_rsm.specs.declared.refusal.RsmRefusal.TheVariants.{SameDomain, SameRange, Range, NoMemory}

-- the move leaves this pair of state and input port
abbrev pub leaves : ℕ → ℕ → RsmMove → Bool
leaves q i m = m.state == q && m.line == i

-- the move leads to this pair of state and output port
abbrev pub leads : ℕ → ℕ → RsmMove → Bool
leads r o m = m.next == r && m.out == o

-- the inverse move: its two pairs exchanged
abbrev pub turned : RsmMove → RsmMove
turned m = record { state = m.next; line = m.out; next = m.state; out = m.line }

-- the number, counted from 1, of the first move of the list that leaves this pair; below, of the first that leads to
-- it
abbrev pub number_from : List RsmMove → ℕ → ℕ → Option ℕ
number_from ms q i = position_from (leaves q i) 1 ms

abbrev pub number_to : List RsmMove → ℕ → ℕ → Option ℕ
number_to ms r o = position_from (leads r o) 1 ms

-- all numbers of the move are in range
abbrev pub is_within : ℕ → ℕ → RsmMove → Bool
is_within states lines m = nat_lt m.state states && nat_lt m.line lines && nat_lt m.next states && nat_lt m.out lines

-- the fault of a move that comes after others: a number is out of range; the earlier move with this number leaves the
-- same pair; or the earlier move with this number leads to the same pair
pub data MoveFault : Type 0 where
  out_of_range : MoveFault
  same_domain : ℕ → MoveFault
  same_range : ℕ → MoveFault

-- the first fault of a move in range, given the number of an earlier move that leaves the same pair, if any, and of
-- one that leads to the same pair, if any
abbrev pub clash : Option ℕ → Option ℕ → Option MoveFault
clash (Some i) to = Some (same_domain i)
clash None (Some i) = Some (same_range i)
clash None None = None

abbrev pub move_fault_of : ℕ → ℕ → List RsmMove → RsmMove → Option MoveFault
move_fault_of states lines earlier m =
    if is_within states lines m then clash (number_from earlier m.state m.line) (number_to earlier m.next m.out)
    else Some out_of_range

-- Move j is the first with a fault, and `fault` is its first fault: the moves before j form a machine.
pub record IsFirstMoveFault (states lines : ℕ) (moves : List RsmMove) (j : ℕ) (fault : MoveFault) : Type 0 where
  pub counted : 0 < j
  pub faulty : RsmMove
  pub stands : slice_get moves (j - 1) ≡ Some faulty
  pub here : move_fault_of states lines (take (j - 1) moves) faulty ≡ Some fault
  pub before : AreSound states lines (take (j - 1) moves)

-- what a refusal asserts about the moves; out of memory asserts nothing
abbrev pub IsMoveRefusal : ℕ → ℕ → List RsmMove → RsmRefusal → Type 0
IsMoveRefusal states lines moves (SameDomain i j) = IsFirstMoveFault states lines moves j (same_domain i)
IsMoveRefusal states lines moves (SameRange i j) = IsFirstMoveFault states lines moves j (same_range i)
IsMoveRefusal states lines moves (Range j) = IsFirstMoveFault states lines moves j out_of_range
IsMoveRefusal states lines moves NoMemory = Unit {0}
