-- Reversible sequential machines by their moves (Morita 2017): partial one-to-one functions from pairs of state and
-- input port to pairs of state and output port. That a pair may have no move is this project's own profile. Numbers
-- are counted from 0.
use Rattle.std.specs.Prelude.{◌≡◌, ℕ, List, [], ◌∷◌, map, Option, refl}
use Rattle.std.specs.Coded.{Coded, Coded-set, coded_ℕ, coded_list, coded_option, coded×, code_by, Unit-prop, le_prop}
use base.Stored.{coded_via}
use mathlib.Core.HLevel.{is_prop→PathP}
use Rattle.std.proofs.Common.{ap}
use Rattle.bn_element.specs.Tables.{Table, IsReversible, Move, AreOneToOne, AreWithin, table_by}
use Rattle.bn_element.specs.Reversible.{table_by-IsReversible}
use Rattle.bn_rsm.specs.declared.rsm_move.RsmMove.{RsmMove}

-- the move as a move of a table
abbrev pub move_of : RsmMove → Move
move_of m = record { state = m.state; input = m.line; next = m.next; output = m.out }

-- No two of the moves leave the same pair of state and port, no two lead to the same pair, and all their numbers are
-- in range.
pub record AreSound (states lines : ℕ) (moves : List RsmMove) : Type 0 where
  pub one_to_one : AreOneToOne (map move_of moves)
  pub within : AreWithin states lines lines (map move_of moves)

-- a machine: its number of states, its number of ports each way (`lines`), and its moves in order
pub record Machine : Type 0 where
  pub states : ℕ
  pub lines : ℕ
  pub moves : List RsmMove
  pub sound : AreSound states lines moves

-- the machine as the table of an element
abbrev pub machine_table : Machine → Table
machine_table m = table_by m.states m.lines m.lines (map move_of m.moves)

pub machine_table-IsReversible : (m : Machine) → IsReversible (machine_table m)
machine_table-IsReversible m =
    table_by-IsReversible m.states m.lines m.lines (map move_of m.moves) m.sound.one_to_one m.sound.within

-- this machine has n states, k ports each way and these moves
pub record IsMadeOf (m : Machine) (n k : ℕ) (ms : List RsmMove) : Type 0 where
  pub states : m.states ≡ n
  pub lines : m.lines ≡ k
  pub moves : m.moves ≡ ms

-- the second machine is the inverse of the first: each goes where the other comes from
pub record IsBackward (m n : Machine) : Type 0 where
  pub goes : (r o : ℕ) → (machine_table n).go r o ≡ (machine_table m).back r o
  pub comes : (q i : ℕ) → (machine_table n).back q i ≡ (machine_table m).go q i

-- ---- proofs of soundness are equal; therefore machines with the same numbers and moves are equal

pair_code : Coded (Option (ℕ × ℕ))
pair_code = coded_option (coded× coded_ℕ coded_ℕ)

AreOneToOne-prop : (ms : List Move) → IsProp (AreOneToOne ms)
AreOneToOne-prop [] = Unit-prop
AreOneToOne-prop (m ∷ ms) = hlevel (Coded-set pair_code, AreOneToOne-prop ms)

AreWithin-prop : (s n k : ℕ) (ms : List Move) → IsProp (AreWithin s n k ms)
AreWithin-prop s n k [] = Unit-prop
AreWithin-prop s n k (m ∷ ms) = hlevel (le_prop, AreWithin-prop s n k ms)

pub AreSound-prop : (states lines : ℕ) (moves : List RsmMove) → IsProp (AreSound states lines moves)
AreSound-prop states lines moves =
    hlevel (AreOneToOne-prop (map move_of moves), AreWithin-prop states lines lines (map move_of moves))

pub same_machine : (m n : Machine) → m.states ≡ n.states → m.lines ≡ n.lines → m.moves ≡ n.moves → m ≡ n
same_machine m n states lines moves =
    λ i. record {
      states = states i;
      lines = lines i;
      moves = moves i;
      sound = is_prop→PathP (λ j. AreSound (states j) (lines j) (moves j))
          (λ j. AreSound-prop (states j) (lines j) (moves j)) m.sound n.sound i;
    }

-- the encoding of a move, and of a machine, as a ghost value: its numbers, and the list of moves of a machine
abbrev pub move_code : Coded RsmMove
move_code =
    code_by (ℕ × (ℕ × (ℕ × ℕ))) (coded× coded_ℕ (coded× coded_ℕ (coded× coded_ℕ coded_ℕ)))
    (λ m. (m.state, (m.line, (m.next, m.out))))
    (λ c. record { state = c.0; line = c.1.0; next = c.1.1.0; out = c.1.1.1 }) (λ _. refl)

abbrev pub machine_code : Coded Machine
machine_code =
    coded_via (coded× coded_ℕ (coded× coded_ℕ (coded_list move_code))) (λ m. (m.states, (m.lines, m.moves)))
    (λ m n e. same_machine m n (ap (λ x. x.0) e) (ap (λ x. x.1.0) e) (ap (λ x. x.1.1) e))
