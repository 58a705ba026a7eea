-- What a state of the reversible machine means for the one-tape machine (Bennett 1973; the names are own to this
-- project).
use Rattle.std.specs.Prelude.{ℕ}
use Rattle.bn_bennett_laws.specs.declared.name.Name.{Name}
use Rattle.bn_bennett_laws.specs.declared.name.Name.TheVariants.{Compute, ComputeWithin, GoRight, CopyLetter, GoLeft}
use Rattle.bn_bennett_laws.specs.declared.name.Name.TheVariants.{PassLetter, Retrace, RetraceWithin}
use Rattle.bn_bennett.specs.declared.translated.Stage.{Stage}
use Rattle.bn_bennett.specs.declared.translated.Stage.TheVariants as stage
use Rattle.bn_bennett.specs.declared.translated.MachineState.{MachineState}
use Rattle.bn_bennett.specs.declared.translated.MachineState.TheVariants.{AtState, Within}

-- the stage of a name
abbrev pub stage_by : Name → Stage
stage_by (Compute j) = stage.Compute
stage_by (ComputeWithin m) = stage.Compute
stage_by GoRight = stage.Copy
stage_by CopyLetter = stage.Copy
stage_by GoLeft = stage.Copy
stage_by PassLetter = stage.Copy
stage_by (Retrace j) = stage.Retrace
stage_by (RetraceWithin m) = stage.Retrace

-- the one-tape machine's state, or the quintuple of the step that it is within; while the output is copied, the
-- one-tape machine is in its final state
abbrev pub machine_state_by : ℕ → Name → MachineState
machine_state_by final (Compute j) = AtState j
machine_state_by final (ComputeWithin m) = Within m
machine_state_by final GoRight = AtState final
machine_state_by final CopyLetter = AtState final
machine_state_by final GoLeft = AtState final
machine_state_by final PassLetter = AtState final
machine_state_by final (Retrace j) = AtState j
machine_state_by final (RetraceWithin m) = Within m
