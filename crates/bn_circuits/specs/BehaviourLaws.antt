-- Laws on circuits as reversible sequential machines (Morita 2017).
use Rattle.std.specs.Prelude.{◌≡◌, ℕ, ◌+◌, ◌<◌, ◌≤◌, List}
use Rattle.bn_circuits.specs.Circuits.{Circuit, IsCircuit, clock}
use Rattle.bn_circuits.specs.Situations.{counted}
use Rattle.bn_circuits.specs.Stepping.{run, back}
use Rattle.bn_circuits.specs.declared.line.Line.{Line}
use Rattle.bn_circuits.specs.Behaviours.{AreTotal, AreOnto, IsFreeInput, IsFreeOutput, entering, leaving}
use Rattle.bn_circuits.specs.Circuits.{AreStates}
use Rattle.bn_circuits.specs.Behaviours.{most_crossing, Behaves, Hangs}

-- ---- where a signal from outside goes

-- a signal from outside leaves, or it stops at a pair of state and port without a move
pub data Comes (k : Circuit) (q : List ℕ) (i : Line) : Type 0 where
  leaves : (r : List ℕ) (o : Line) (n : ℕ) → Behaves k q i r o n → n ≤ most_crossing k → Comes k q i
  hangs : (r : List ℕ) (l : Line) (n : ℕ) → Hangs k q i r l n → n < most_crossing k → Comes k q i

abbrev pub SignalsLeaveOrHang : Type 0
SignalsLeaveOrHang =
    (k : Circuit) → IsCircuit k → (q : List ℕ) (i : Line) → AreStates k.tables q → IsFreeInput k i → Comes k q i

-- a signal from outside either leaves or stops, and in one way
abbrev pub SignalsComeOnce : Type 0
SignalsComeOnce =
    ((k : Circuit) (q : List ℕ) (i : Line) (r s : List ℕ) (o p : Line) (m n : ℕ)
    → Behaves k q i r o m → Behaves k q i s p n → (r ≡ s) × (o ≡ p) × (m ≡ n))
    × ((k : Circuit) (q : List ℕ) (i : Line) (r s : List ℕ) (l p : Line) (m n : ℕ)
    → Hangs k q i r l m → Hangs k q i s p n → (r ≡ s) × (l ≡ p) × (m ≡ n))
    × ((k : Circuit) (q : List ℕ) (i : Line) (r s : List ℕ) (o l : Line) (m n : ℕ)
    → Behaves k q i r o m → Hangs k q i s l n → ⊥)

-- if each element has all its moves, the signal leaves
pub record Passage (k : Circuit) (q : List ℕ) (i : Line) : Type 0 where
  pub states : List ℕ
  pub output : Line
  pub steps : ℕ
  pub behaves : Behaves k q i states output steps
  pub bounded : steps ≤ most_crossing k

abbrev pub CircuitsAreLeft : Type 0
CircuitsAreLeft =
    (k : Circuit) → IsCircuit k → AreTotal k.tables → (q : List ℕ) (i : Line) → AreStates k.tables q → IsFreeInput k i
    → Passage k q i

-- after a behaviour the states are in range, the port has no wire, and at least one step was made
abbrev pub BehavioursStay : Type 0
BehavioursStay =
    (k : Circuit) → IsCircuit k → (q : List ℕ) (i : Line) (r : List ℕ) (o : Line) (n : ℕ) → Behaves k q i r o n
    → AreStates k.tables r × IsFreeOutput k o × (0 < n)

-- ---- backward

-- two pairs of states and free input port that lead to the same pair are equal
abbrev pub BehavioursAreOneToOne : Type 0
BehavioursAreOneToOne =
    (k : Circuit) → IsCircuit k → (p q : List ℕ) (i j : Line) (r : List ℕ) (o : Line) (m n : ℕ)
    → Behaves k p i r o m → Behaves k q j r o n → (p ≡ q) × (i ≡ j) × (m ≡ n)

-- if some move leads to each state and output port of each element, a behaviour leads to each pair of states and free
-- output port of the circuit
pub record Origin (k : Circuit) (r : List ℕ) (o : Line) : Type 0 where
  pub states : List ℕ
  pub input : Line
  pub steps : ℕ
  pub behaves : Behaves k states input r o steps
  pub bounded : steps ≤ most_crossing k

abbrev pub BehavioursAreOnto : Type 0
BehavioursAreOnto =
    (k : Circuit) → IsCircuit k → AreOnto k.tables → (r : List ℕ) (o : Line) → AreStates k.tables r → IsFreeOutput k o
    → Origin k r o

-- ---- with the clock

-- if the clock has room, a behaviour is the run of the circuit, and the same run undone
abbrev pub BehavioursAreRuns : Type 0
BehavioursAreRuns =
    (k : Circuit) → IsCircuit k → (q : List ℕ) (i : Line) (r : List ℕ) (o : Line) (n made t : ℕ)
    → Behaves k q i r o n → made + n ≤ clock → n ≤ t
    → (run k (counted (entering q i) made) t ≡ counted (leaving r o) (made + n))
    × (back k (counted (leaving r o) (made + n)) n ≡ counted (entering q i) made)
