-- The circuits of the machine of k increments on 1011 (this project's own example): how many elements they have, and
-- that they exist.
use Rattle.std.specs.Prelude.{◌≡◌, ℕ, zero, suc, ◌+◌, ◌*◌, ◌≤◌, List, length}
use Rattle.bn_circuits.specs.declared.net.TheConstants.{MOST_ELEMENTS}
use Rattle.bn_bennett.specs.Translation.{Translation, IsTranslation}
use Rattle.bn_network.specs.Controls.{ControlState, IsNumbering}
use Rattle.bn_boards.specs.Boards.{size}
use Rattle.bn_boards.specs.Flats.{Flat}
use Rattle.bn_reply_boards.specs.GenerateReply.{digits, window}
use Rattle.bn_reply_relations.specs.Windows.{ComesTo, CountsElements}
use Rattle.bn_gen.specs.Increments.{IsRoundCount, incrementer}

-- the elements of the circuit for k increments
abbrev pub elements_for : ℕ → ℕ
elements_for (suc zero) = 14136
elements_for (suc (suc zero)) = 55078
elements_for (suc (suc (suc zero))) = 144476
elements_for (suc (suc (suc (suc zero)))) = 301770
elements_for _ = 0

-- the control has 120k + 54 states
abbrev pub GeneratedControlsAreCounted : Type 0
GeneratedControlsAreCounted =
    (k : ℕ) → IsRoundCount k → (t : Translation) (names : List ControlState) → IsTranslation (incrementer k) t
    → IsNumbering t.machine names → length names ≡ 120 * k + 54

-- the circuit has this many elements, which are not too many
abbrev pub GeneratedBoardsAreCounted : Type 0
GeneratedBoardsAreCounted =
    (k : ℕ) → IsRoundCount k → (count : ℕ) → CountsElements (incrementer k) (window k) count
    → (count ≡ elements_for k) × (count ≤ MOST_ELEMENTS)

-- and it exists
abbrev pub GeneratedBoardsAreThere : Type 0
GeneratedBoardsAreThere =
    (k : ℕ) → IsRoundCount k
    → (f : Flat) × ComesTo (incrementer k) (window k) digits f
    × (size f.network.tables ≡ elements_for k)
