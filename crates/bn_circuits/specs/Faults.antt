-- The faults of a list of wires, and its first faulty wire.
use Rattle.std.specs.Prelude.{◌≡◌, ℕ, ◌-◌, ◌<◌, nat_lt, ◌&&◌, List, length, take, Option, Some, None, is_some}
use Rattle.std.specs.Prelude.{slice_get, if◌then◌else◌, Bool, Result, Ok, Err}
use Rattle.bn_element.specs.Tables.{Table}
use Rattle.bn_circuits.specs.Circuits.{target, source, states_of, inputs_of, outputs_of}
use Rattle.bn_circuits.specs.declared.line.Wire.{Wire}
use Rattle.bn_circuits.specs.declared.refusal.NetRefusal.{NetRefusal}
use Rattle.bn_circuits.specs.declared.refusal.NetRefusal.TheVariants.{Range, TwoTargets, TwoSources, NoMemory}

-- a number is out of range; an earlier wire leaves this output port; an earlier wire ends at this input port
pub data WireFault : Type 0 where
  out_of_range : WireFault
  second_target : WireFault
  second_source : WireFault

-- both ports of the wire exist
abbrev pub is_within : List Table → Wire → Bool
is_within tables w =
    nat_lt w.from.line (outputs_of tables w.from.element) && nat_lt w.to.line (inputs_of tables w.to.element)

-- the first fault of a wire that comes after the earlier ones
abbrev pub fault_of : List Table → List Wire → Wire → Option WireFault
fault_of tables earlier w =
    if is_within tables w
    then (if is_some (target earlier w.from) then Some second_target
    else (if is_some (source earlier w.to) then Some second_source else None))
    else Some out_of_range

-- the wire at place j, counted from 0, has no fault
abbrev pub IsFaultless : List Table → List Wire → ℕ → Type 0
IsFaultless tables wires j = (w : Wire) → slice_get wires j ≡ Some w → fault_of tables (take j wires) w ≡ None

-- no wire has a fault
abbrev pub AreFaultless : List Table → List Wire → Type 0
AreFaultless tables wires = (j : ℕ) → j < length wires → IsFaultless tables wires j

-- wire i, counted from 1, is the first with a fault, and this is its first
pub record IsFirstFault (tables : List Table) (wires : List Wire) (i : ℕ) (fault : WireFault) : Type 0 where
  pub wire : Wire
  pub counted : 0 < i
  pub has_wire : slice_get wires (i - 1) ≡ Some wire
  pub here : fault_of tables (take (i - 1) wires) wire ≡ Some fault
  pub before : (j : ℕ) → j < i - 1 → IsFaultless tables wires j

-- what a refusal states about the wires; `NoMemory` states nothing
abbrev pub IsRefusal : List Table → List Wire → NetRefusal → Type 0
IsRefusal tables wires (Range i) = IsFirstFault tables wires i out_of_range
IsRefusal tables wires (TwoTargets i) = IsFirstFault tables wires i second_target
IsRefusal tables wires (TwoSources i) = IsFirstFault tables wires i second_source
IsRefusal tables wires NoMemory = Unit {0}

-- the result of a test that found this fault in the wire with this number
abbrev pub checked : Option WireFault → ℕ → Result (Unit {0}) NetRefusal
checked None i = Ok tt
checked (Some out_of_range) i = Err (Range i)
checked (Some second_target) i = Err (TwoTargets i)
checked (Some second_source) i = Err (TwoSources i)
