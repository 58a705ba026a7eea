-- The results of the calls of a machine.
use Rattle.std.specs.Prelude.{◌≡◌, ℕ, List, []}
use Rattle.bn_machine.specs.Tape.{scanned}
use Rattle.bn_machine.specs.Window.{Windowed, within, with_tape}
use Rattle.bn_machine.specs.Machine.{Program, IsFirstFault, final_of, IsMachineStuck, IsLeaving, MachineRunsTo, moment}
use Rattle.bn_machine.specs.declared.quint.Quint.{Quint}
use Rattle.bn_machine.specs.declared.machine.Turn.{Turn}
use Rattle.bn_machine.specs.declared.machine.Turn.TheVariants as turn
use Rattle.bn_machine.specs.declared.machine.MachineRefusal.{MachineRefusal}
use Rattle.bn_machine.specs.declared.machine.MachineRefusal.TheVariants.{Empty, Range}

-- when a machine is refused: it has no quintuple, or quintuple i is the first out of range
abbrev pub IsMachineRefusal : List Quint → ℕ → ℕ → MachineRefusal → Type 0
IsMachineRefusal qs states symbols Empty = qs ≡ []
IsMachineRefusal qs states symbols (Range i) = IsFirstFault states symbols qs i

-- The result of a step in a window, with the state and the tape after it. On any result but `Moved` nothing has
-- changed.
abbrev pub IsTurn : Program → Turn → ℕ → Windowed → ℕ → Windowed → Type 0
IsTurn p turn.Final state w after v = (state ≡ final_of p.quints) × (after ≡ state) × (v ≡ w)
IsTurn p (turn.Stuck at symbol) state w after v =
    IsMachineStuck p (moment state w) × (at ≡ state) × (symbol ≡ scanned w.tape) × (after ≡ state) × (v ≡ w)
IsTurn p (turn.Left side) state w after v = IsLeaving p state w side × (after ≡ state) × (v ≡ w)
IsTurn p turn.Moved state w after v =
    MachineRunsTo (within w.left w.right) p (moment state w) (moment after v) × (v ≡ with_tape w v.tape)
