-- Elements as tables: their moves forward and backward.
use Rattle.std.specs.Prelude.{◌≡◌, ℕ, ◌<◌, ◌==◌, ◌&&◌, if◌then◌else◌, List, [], ◌∷◌, Option, Some, None}

-- An element seen from outside. In state q, for a signal at input port i, `go q i` is the pair of the next state and
-- the output port, if the element has such a move. `back r o` is the pair of state and input port from which a move
-- leads to state r and output port o, if there is one. All are counted from 0.
pub record Table : Type 0 where
  pub states : ℕ
  pub inputs : ℕ
  pub outputs : ℕ
  pub go : ℕ → ℕ → Option (ℕ × ℕ)
  pub back : ℕ → ℕ → Option (ℕ × ℕ)

-- A table is reversible if `go` and `back` undo each other, and each move leads from numbers in range to numbers in
-- range. (A reversible sequential machine, Morita 2017; that a pair may have no move is this project's own profile.)
pub record IsReversible (t : Table) : Type 0 where
  pub undone : (q i r o : ℕ) → t.go q i ≡ Some (r, o) → t.back r o ≡ Some (q, i)
  pub redone : (q i r o : ℕ) → t.back r o ≡ Some (q, i) → t.go q i ≡ Some (r, o)
  pub departs : (q i r o : ℕ) → t.go q i ≡ Some (r, o) → (q < t.states) × (i < t.inputs)
  pub arrives : (q i r o : ℕ) → t.go q i ≡ Some (r, o) → (r < t.states) × (o < t.outputs)

-- one move of an element: in this state, in by this input port, to that state, out by that output port
pub record Move : Type 0 where
  pub state : ℕ
  pub input : ℕ
  pub next : ℕ
  pub output : ℕ

-- the next state and output port of the first move in the list from this state and input port
abbrev pub go_by : List Move → ℕ → ℕ → Option (ℕ × ℕ)
go_by [] q i = None
go_by (m ∷ ms) q i = if m.state == q && m.input == i then Some (m.next, m.output) else go_by ms q i

-- the state and input port of the first move in the list to this state and output port
abbrev pub back_by : List Move → ℕ → ℕ → Option (ℕ × ℕ)
back_by [] r o = None
back_by (m ∷ ms) r o = if m.next == r && m.output == o then Some (m.state, m.input) else back_by ms r o

-- no two moves start from the same pair, and no two lead to the same pair
abbrev pub AreOneToOne : List Move → Type 0
AreOneToOne [] = Unit {0}
AreOneToOne (m ∷ ms) = (go_by ms m.state m.input ≡ None) × (back_by ms m.next m.output ≡ None) × AreOneToOne ms

-- each number of each move is in range
abbrev pub AreWithin : ℕ → ℕ → ℕ → List Move → Type 0
AreWithin states inputs outputs [] = Unit {0}
AreWithin states inputs outputs (m ∷ ms) =
    (m.state < states) × (m.input < inputs) × (m.next < states) × (m.output < outputs)
    × AreWithin states inputs outputs ms

-- the table of a list of moves
abbrev pub table_by : ℕ → ℕ → ℕ → List Move → Table
table_by states inputs outputs ms =
    record { states = states; inputs = inputs; outputs = outputs; go = go_by ms; back = back_by ms }
