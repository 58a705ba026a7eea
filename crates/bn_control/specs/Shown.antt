-- The control's states that a quadruple, as the program stores it, shows, and the number of states.
use Rattle.std.specs.Prelude.{◌≡◌, ◌≢◌, ◌⊎◌, ℕ, suc, ◌<◌, List, [], length, Option, Some, None, slice_get}
use Rattle.bn_machine.specs.declared.quint.Shift.{Shift as HeadShift}
use Rattle.bn_machine.specs.declared.quint.Shift.TheVariants as way
use Rattle.bn_quad.specs.Quadruples.{Quadruples, final_state_of}
use Rattle.bn_quad.specs.Kept.{read_at, act_at}
use Rattle.bn_quad.specs.declared.quad.Quad.{Quad}
use Rattle.bn_quad.specs.declared.quad.Act.{Act}
use Rattle.bn_quad.specs.declared.quad.Act.TheVariants.{Write, Shift}
use Rattle.bn_network.specs.Controls.{ControlState, Reads, Shifts, Writes, IsNotLeft}
use Rattle.bn_control.specs.Names.{listed, symbols_of}

-- exactly n states are of this kind
pub record IsCount (P : ControlState → Type 0) (n : ℕ) : Type 0 where
  pub names : List ControlState
  pub each : (q : ControlState) → P q → (i : ℕ) × (slice_get names i ≡ Some q)
  pub only : (i : ℕ) (q : ControlState) → slice_get names i ≡ Some q → P q
  pub once : (i j : ℕ) (q : ControlState) → slice_get names i ≡ Some q → slice_get names j ≡ Some q → i ≡ j
  pub counted : length names ≡ n

-- ---- symbols

-- those of the two symbols that exist
abbrev pub in_row : Option ℕ → Option ℕ → List ℕ
in_row a b = listed (symbols_of a b)

-- the symbol that an act writes
abbrev pub written : Act → Option ℕ
written (Write c) = Some c
written (Shift s) = None

-- 1 if an act is a shift other than by 0, otherwise 0
abbrev pub shifts_by : HeadShift → ℕ
shifts_by way.Left = 1
shifts_by way.Stay = 0
shifts_by way.Right = 1

abbrev pub shifts_in : Act → ℕ
shifts_in (Write c) = 0
shifts_in (Shift s) = shifts_by s

-- ---- what a quadruple shows

-- the state that waits for the reply to a read, if there is one
abbrev pub IsReadState : ℕ → List ℕ → Option ℕ → ControlState → Type 0
IsReadState a before None q = ⊥
IsReadState a before (Some c) q = q ≡ Reads a before

-- the state that waits for the reply to a shift, if it is one other than by 0
abbrev pub IsShiftBy : ℕ → ℕ → HeadShift → ControlState → Type 0
IsShiftBy n t way.Left q = q ≡ Shifts n t
IsShiftBy n t way.Stay q = ⊥
IsShiftBy n t way.Right q = q ≡ Shifts n t

abbrev pub IsShiftState : ℕ → ℕ → Act → ControlState → Type 0
IsShiftState n t (Write c) q = ⊥
IsShiftState n t (Shift s) q = IsShiftBy n t s q

-- the state that waits for the reply to a write, if there is one
abbrev pub IsWriteState : ℕ → ℕ → List ℕ → Option ℕ → ControlState → Type 0
IsWriteState a t rest None q = ⊥
IsWriteState a t rest (Some c) q = q ≡ Writes a t rest

-- the state waits for the reply to a read on one of the three tapes, after the reads of the lower tapes
abbrev pub ShowsRead : Quad → ControlState → Type 0
ShowsRead quad q =
    IsReadState quad.state [] (read_at quad 0) q
    ⊎ (IsReadState quad.state (in_row (read_at quad 0) None) (read_at quad 1) q
    ⊎ IsReadState quad.state (in_row (read_at quad 0) (read_at quad 1)) (read_at quad 2) q)

-- the state waits for the reply to a shift of one of the three tapes, in quadruple n, counted from 1
abbrev pub ShowsShift : ℕ → Quad → ControlState → Type 0
ShowsShift n quad q =
    IsShiftState n 1 (act_at quad 0) q
    ⊎ (IsShiftState n 2 (act_at quad 1) q ⊎ IsShiftState n 3 (act_at quad 2) q)

-- the state waits for the reply to a write on one of the three tapes, before the writes on the lower tapes
abbrev pub ShowsWrite : Quad → ControlState → Type 0
ShowsWrite quad q =
    IsWriteState quad.next 1 [] (written (act_at quad 0)) q
    ⊎ (IsWriteState quad.next 2 (in_row (written (act_at quad 0)) None) (written (act_at quad 1)) q
    ⊎ IsWriteState quad.next 3 (in_row (written (act_at quad 1)) (written (act_at quad 0))) (written (act_at quad 2)) q)

abbrev pub Shows : ℕ → Quad → ControlState → Type 0
Shows n quad q = ShowsRead quad q ⊎ (ShowsShift n quad q ⊎ ShowsWrite quad q)

-- one of the first k quadruples shows the state
pub record IsShownBefore (quads : List Quad) (k : ℕ) (q : ControlState) : Type 0 where
  pub index : ℕ
  pub quad : Quad
  pub low : index < k
  pub stands : slice_get quads index ≡ Some quad
  pub shows : Shows (suc index) quad q

-- the state is of this kind, and none of the first k quadruples shows it
pub record IsNew (quads : List Quad) (k : ℕ) (P : ControlState → Type 0) (q : ControlState) : Type 0 where
  pub is : P q
  pub new : IsShownBefore quads k q → ⊥

-- ---- states that no quadruple leaves

-- one of the quadruples leaves this state
pub record IsLeftBy (quads : List Quad) (a : ℕ) : Type 0 where
  pub index : ℕ
  pub quad : Quad
  pub stands : slice_get quads index ≡ Some quad
  pub from : quad.state ≡ a

-- the open state for one of the first k states of the machine: it waits for tape 1 and has no move
pub record IsOpenBelow (m : Quadruples) (k : ℕ) (q : ControlState) : Type 0 where
  pub state : ℕ
  pub low : state < k
  pub going : state ≢ final_state_of m.rules
  pub none : IsNotLeft m state
  pub awaits : q ≡ Reads state []
