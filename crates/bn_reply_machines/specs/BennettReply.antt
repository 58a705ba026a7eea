-- The answer of the command `bennett`: the table of Bennett's reversible machine (Bennett 1973; the printed names are
-- this project's own definition).
use Rattle.std.specs.Prelude.{ℕ, List, length, map}
use Rattle.bn_csv.specs.Lines.{lines_of}
use Rattle.bn_quad.specs.Quadruples.{Rule}
use Rattle.bn_qtable.specs.Entry.{quadruple_entry}
use Rattle.bn_qtable.specs.Rows.{said_deed}
use Rattle.bn_bennett_laws.specs.List.{bennett}
use Rattle.bn_bennett_laws.specs.declared.name.Name.{Name}
use Rattle.bn_bennett.specs.Printed.{number_names, one_byte, bennett_state_text}
use Rattle.bn_table.specs.Rows.{Named}
use Rattle.bn_circuits.specs.declared.place.Place.{Place}
use Rattle.bn_reply.specs.Answering.{IsDone, IsSettled}
use Rattle.bn_reply.specs.TableReply.{StandardReplies}
use Rattle.bn_reply.specs.declared.status.Status.{Status}

-- the entry of a quadruple of Bennett's list: the names of its states, the table's letters on tapes 1 and 3, and the
-- history's symbols on tape 2
abbrev pub printed_entry : Named → Rule Name → List (List ℕ)
printed_entry t r = quadruple_entry (record {
  state = bennett_state_text r.from;
  one = said_deed (map one_byte t.letters) r.one;
  two = said_deed (number_names (length t.machine.quints)) r.two;
  three = said_deed (map one_byte t.letters) r.three;
  next = bennett_state_text r.to;
})

-- the lines of Bennett's list for the table's machine
abbrev pub bennett_text : Named → List ℕ
bennett_text t = lines_of (map (printed_entry t) (bennett t.machine))

-- the answer of `bennett` to these bytes: to a table whose machine is in standard form, the table of its reversible
-- machine
abbrev pub BennettReplies : List ℕ → Status → List ℕ → List Place → Type 0
BennettReplies = StandardReplies (λ t. IsDone (bennett_text t))

-- it has exactly one answer to all bytes
abbrev pub BennettIsSettled : Type 0
BennettIsSettled = (bytes : List ℕ) → IsSettled (BennettReplies bytes)
