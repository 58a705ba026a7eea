-- The length of the tables that `bennett`, `erase` and `inverse` print is within the limit of an input.
use Rattle.std.specs.Prelude.{ℕ, ◌≤◌, List, length}
use Rattle.bn_qtable.specs.Reading.{ReadsQuadruples}
use Rattle.bn_qtable.specs.Rows.{QuadTable}
use Rattle.bn_table.specs.Rows.{IsTable, Named}
use Rattle.bn_erase.specs.Joint.{joined}
use Rattle.bn_erase.specs.declared.erasing.TheConstants.{MOST_QUADRUPLES}
use Rattle.bn_reply.specs.declared.limits.TheConstants.{MOST_INPUT_BYTES}
use Rattle.bn_reply_erase.specs.EraseReply.{erase_text, erasing_of}
use Rattle.bn_reply_machines.specs.BennettReply.{bennett_text}
use Rattle.bn_reply_machines.specs.InverseReply.{inverse_text}

-- the table of the reversible machine of a table's machine
abbrev pub BennettTextsMayBeRead : Type 0
BennettTextsMayBeRead = (t : Named) → IsTable t → length (bennett_text t) ≤ MOST_INPUT_BYTES

-- the table of the erasing machine of two tables' machines, if it does not have too many quadruples
abbrev pub EraseTextsMayBeRead : Type 0
EraseTextsMayBeRead =
    (t u : Named) → IsTable t → IsTable u → length (erasing_of (joined t u)) ≤ MOST_QUADRUPLES
    → length (erase_text (joined t u)) ≤ MOST_INPUT_BYTES

-- the table of the inverse of a table's machine
abbrev pub InverseTextsMayBeRead : Type 0
InverseTextsMayBeRead =
    (bytes : List ℕ) (t : QuadTable) → ReadsQuadruples bytes t → length (inverse_text t) ≤ MOST_INPUT_BYTES
