-- The text of the layers of a circuit that was built from a table of quadruples (this project's own definition): six
-- lines, on the place of the signal and on the last moment.
use Rattle.std.specs.Prelude.{ℕ, List, [], ◌∷◌, ◌++◌, codes}
use Rattle.bn_qtable.specs.Rows.{QuadTable}
use Rattle.bn_reply.specs.Lines.{line}
use Rattle.bn_reply_builds.specs.DriveText.{name_in}
use Rattle.bn_reply_builds.specs.Outcomes.{drive_tape_lines}
use Rattle.bn_reply_views.specs.ViewText.{element_line, module_line}
use Rattle.bn_view.specs.declared.layers.BoardLayers.{BoardLayers}

-- the line of a state of the machine
abbrev pub state_line : QuadTable → ℕ → List ℕ
state_line t a = line (codes "quadruple " ∷ name_in t.names.states a ∷ [])

-- the six lines, with this line of the exit if the signal has left
abbrev pub look_text : QuadTable → List ℕ → BoardLayers → List ℕ
look_text t exit v =
    element_line v.place v.steps ++ (module_line t.machine.symbols exit v.module
    ++ (state_line t v.state ++ drive_tape_lines t v.tapes))
