-- The text of a view of a circuit (this project's own definition): seven lines, on the place of the signal and on the
-- last moment.
use Rattle.std.specs.Prelude.{ℕ, ℤ, List, [], ◌∷◌, ◌++◌, codes, decimal, slice_index_or}
use Rattle.bn_circuits.specs.declared.place.Place.{Place}
use Rattle.bn_netlist_laws.specs.Sentences.{place_text}
use Rattle.bn_table.specs.Rows.{Named}
use Rattle.bn_bennett_laws.specs.List.{symbols_of}
use Rattle.bn_bennett_laws.specs.declared.name.Name.{Name}
use Rattle.bn_bennett.specs.Translation.{name_of}
use Rattle.bn_bennett.specs.Printed as printed
use Rattle.bn_bennett.specs.declared.translated.Stage.{Stage}
use Rattle.bn_bennett.specs.declared.translated.Stage.TheVariants as stages
use Rattle.bn_bennett.specs.declared.translated.MachineState.{MachineState}
use Rattle.bn_bennett.specs.declared.translated.MachineState.TheVariants.{AtState, Within}
use Rattle.bn_boards.specs.Flats.{Flat}
use Rattle.bn_reply.specs.Lines.{line, position_text}
use Rattle.bn_reply_boards.specs.LineNames.{cell_line_text, control_line_text}
use Rattle.bn_reply_relations.specs.RunText.{exit_line, tape_lines}
use Rattle.bn_view.specs.declared.layers.Layers.{Layers}
use Rattle.bn_view.specs.declared.layers.ModuleAt.{ModuleAt}
use Rattle.bn_view.specs.declared.layers.ModuleAt.TheVariants.{ControlLine, ControlInside}
use Rattle.bn_view.specs.declared.layers.ModuleAt.TheVariants.{CellLine as AtCellLine, CellInside, Outside}

-- ---- lines of the view

abbrev pub element_line : Place → ℕ → List ℕ
element_line p steps = line (codes "element " ∷ place_text p ∷ codes " steps " ∷ decimal steps ∷ [])

-- the place of a cell
abbrev pub cell_text : ℕ → ℤ → List ℕ
cell_text tape position = codes "module tape " ++ (decimal tape ++ (codes " cell " ++ position_text position))

-- the module, for a machine whose tapes have this many symbols, with the input port that the signal enters, or
-- `inside`; for a signal that has left, the given line of its exit
abbrev pub module_line : List ℕ → List ℕ → ModuleAt → List ℕ
module_line zs exit (ControlLine i) = line (codes "module control line " ∷ control_line_text zs i ∷ [])
module_line zs exit ControlInside = line (codes "module control inside" ∷ [])
module_line zs exit (AtCellLine tape position entered) =
    line (cell_text tape position ∷ codes " line " ∷ cell_line_text entered ∷ [])
module_line zs exit (CellInside tape position) = line (cell_text tape position ∷ codes " inside" ∷ [])
module_line zs exit Outside = exit

abbrev pub state_line : Name → List ℕ
state_line name = line (codes "quadruple " ∷ printed.bennett_state_text name ∷ [])

abbrev pub stage_text : Stage → List ℕ
stage_text stages.Compute = codes "compute"
stage_text stages.Copy = codes "copy"
stage_text stages.Retrace = codes "retrace"

-- the one-tape machine's state, or the quintuple that is being applied
abbrev pub machine_text : Named → MachineState → List ℕ
machine_text t (AtState j) = codes "state " ++ slice_index_or t.names j []
machine_text t (Within m) = codes "quintuple " ++ decimal m

abbrev pub machine_line : Named → Stage → MachineState → ℕ → List ℕ
machine_line t stage state step =
    line (codes "machine " ∷ stage_text stage ∷ codes " " ∷ machine_text t state ∷ codes " step " ∷ decimal step ∷ [])

-- the seven lines
abbrev pub view_text : Named → Flat → Layers → List ℕ
view_text t f v =
    element_line v.place v.steps ++ (module_line (symbols_of t.machine) (exit_line t f v.place v.exit) v.module
    ++ (state_line (name_of f.translation v.state) ++ (tape_lines t v.tapes.one v.tapes.two v.tapes.three
    ++ machine_line t v.stage v.machine v.machine_step)))
