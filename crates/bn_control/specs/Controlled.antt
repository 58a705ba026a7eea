-- A control, with what its states mean for the machine of quadruples.
use Rattle.std.specs.Prelude.{◌≡◌, ◌↔◌, ℕ, ◌+◌, ◌-◌, ◌<◌, ◌≤◌, ◌^◌, List, [], All, length, Option, Some, None}
use Rattle.std.specs.Prelude.{slice_get, slice_index, refl}
use Rattle.std.specs.Coded.{Coded, coded_ℕ, coded_list, coded_option, coded×, code_by}
use Rattle.bn_quad.specs.Quadruples.{Quadruples}
use Rattle.bn_rsm.specs.Machines.{Machine, machine_code, machine_table}
use Rattle.bn_network.specs.declared.cell_line.CellLine.TheVariants.{Read}
use Rattle.bn_network.specs.Controls.{ControlState, Reads, Tape, IsEntry, IsNumbering, IsControlTable}
use Rattle.bn_network.specs.Controls.{lines_before, IsFirstKept}
use Rattle.bn_network.specs.declared.limits.TheConstants.{MOST_SYMBOLS}
use Rattle.bn_control.specs.declared.make.TheConstants.{MOST_QUADRUPLES, MOST_STATES}

-- The control as a sequential machine; the number of symbols of each tape, tape 1 first; for each state of the
-- machine of quadruples the control's state that waits for the reply to its first command, and the output port by
-- which it is sent, or nothing for the final state; and for each state of the control the state of the machine of
-- quadruples and the tape for whose first read it waits, if it waits for one.
pub record Controlled : Type 0 where
  pub machine : Machine
  pub symbols : List ℕ
  pub firsts : List (Option (ℕ × ℕ))
  pub awaited : List (Option (ℕ × ℕ))

abbrev pub pairs_code : Coded (List (Option (ℕ × ℕ)))
pairs_code = coded_list (coded_option (coded× coded_ℕ coded_ℕ))

abbrev pub controlled_code : Coded Controlled
controlled_code =
    code_by (Machine × (List ℕ × (List (Option (ℕ × ℕ)) × List (Option (ℕ × ℕ)))))
    (coded× machine_code (coded× (coded_list coded_ℕ) (coded× pairs_code pairs_code)))
    (λ c. (c.machine, (c.symbols, (c.firsts, c.awaited))))
    (λ p. record { machine = p.0; symbols = p.1.0; firsts = p.1.1.0; awaited = p.1.1.1 })
    (λ _. refl)

-- ---- which machines have a control

-- there are few enough quadruples and states, and each tape has at least one symbol and not too many
pub record IsWithinLimits (m : Quadruples) : Type 0 where
  pub quadruples : length m.rules ≤ MOST_QUADRUPLES
  pub states : m.states ≤ MOST_STATES
  pub some_symbols : All (λ z. 1 ≤ z) m.symbols
  pub few_symbols : All (λ z. z ≤ MOST_SYMBOLS) m.symbols

-- ---- the control of a machine

-- the state of the control is the one that waits for the reply to the first read of this state of the machine, on
-- this tape
pub record IsAwaiting (m : Quadruples) (q : ControlState) (a t : ℕ) : Type 0 where
  pub state : q ≡ Reads a []
  pub entry : IsEntry m a (Reads a [], Tape t Read)

-- This is the control of the machine; its states in order have these names.
pub record IsControlOf (m : Quadruples) (names : List ControlState) (v : Controlled) : Type 0 where
  pub numbering : IsNumbering m names
  pub table : IsControlTable m names (machine_table v.machine)
  pub symbols : v.symbols ≡ m.symbols
  pub counted : length v.firsts ≡ m.states
  pub firsts : (a : ℕ) (f : Option (ℕ × ℕ)) → slice_get v.firsts a ≡ Some f → IsFirstKept m names a f
  pub awaited_counted : length v.awaited ≡ length names
  pub awaiting : (n a t : ℕ)
      → (slice_get v.awaited n ≡ Some (Some (a, t)))
      ↔ ((q : ControlState) × (slice_get names n ≡ Some q) × IsAwaiting m q a t)

-- ---- where the machine is stuck

-- input port j carries the reply of a tape, counted from 1, that its head scans symbol c
pub record IsAnswer (symbols : List ℕ) (t j c : ℕ) : Type 0 where
  pub among : c < slice_index symbols (t - 1)
  pub line : j ≡ lines_before symbols (t - 1) + c

-- State n of the control waits for the reply to the first read of state a on some tape, port j carries the reply that
-- this tape's head scans symbol c, and there is no move.
pub record IsStuckAt (v : Controlled) (n j a c : ℕ) : Type 0 where
  pub tape : ℕ
  pub awaits : slice_get v.awaited n ≡ Some (Some (a, tape))
  pub answers : IsAnswer v.symbols tape j c
  pub none : (machine_table v.machine).go n j ≡ None

-- ---- the invariant of a control

-- the tape whose reply is awaited, if there is one, is one of the three
abbrev pub IsTapeAwaited : Option (ℕ × ℕ) → Type 0
IsTapeAwaited None = Unit {0}
IsTapeAwaited (Some p) = (1 ≤ p.1) × (p.1 ≤ 3)

-- three numbers of symbols that are not too great, fewer than 2^32 states of the machine, as many entries for awaited
-- reads as the control has states, and in them tapes from 1 to 3
pub record IsKept (machine : Machine) (symbols : List ℕ) (firsts awaited : List (Option (ℕ × ℕ))) : Type 0 where
  pub tapes : length symbols ≡ 3
  pub few_symbols : All (λ z. z ≤ MOST_SYMBOLS) symbols
  pub few_states : length firsts < 2 ^ 32
  pub counted : length awaited ≡ machine.states
  pub awaited_tapes : All IsTapeAwaited awaited
