-- The cost of a run of a circuit of machines, where each machine is a bank of columns of rotary elements: a sum over
-- its moves (this project's own profile).
use Rattle.std.specs.Prelude.{ℕ, ◌+◌, List, slice_get}
use Rattle.std.specs.Option.{option_map_or}
use Rattle.std.proofs.Common.{zero, suc}
use Rattle.bn_circuits.specs.Circuits.{Circuit}
use Rattle.bn_circuits.specs.Situations.{Situation, turn}
use Rattle.bn_circuits.specs.declared.place.Place.{Place}
use Rattle.bn_circuits.specs.declared.place.Place.TheVariants.{Enter, Left}
use Rattle.bn_rsm.specs.Costs.{table_cost}

-- the cost of the step from this place: that of the entered machine's move, or of the way to its loose output if it
-- has no move; 0 once the signal has left
abbrev pub entry_cost : Circuit → List ℕ → Place → ℕ
entry_cost k states (Left e o) = 0
entry_cost k states (Enter e i) =
    option_map_or (λ q. option_map_or (λ t. table_cost t q i) (slice_get k.tables e) 0) (slice_get states e) 0

abbrev pub step_cost : Circuit → Situation → ℕ
step_cost k s = entry_cost k s.states s.place

-- the cost of n steps; if fewer can be made, the cost of these and of the way to the loose output at the end
unfoldable pub run_cost : Circuit → ℕ → Situation → ℕ
run_cost k zero s = 0
run_cost k (suc n) s = step_cost k s + option_map_or (run_cost k n) (turn k s) 0
