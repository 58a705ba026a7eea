-- The answer of the command `inverse`: the table of the inverse of a table's machine, which undoes its steps (Bennett
-- 1973: the list of quadruples in the opposite order, each inverted).
use Rattle.std.specs.Prelude.{◌≡◌, ℕ, List, []}
use Rattle.bn_csv.specs.Entries.{entries_of}
use Rattle.bn_csv.specs.Lines.{lines_of}
use Rattle.bn_quad.specs.Quadruples.{inverse_of}
use Rattle.bn_qtable.specs.Reading.{ReadsQuadruples}
use Rattle.bn_qtable.specs.Rows.{QuadTable, quadruple_rows_by}
use Rattle.bn_circuits.specs.declared.place.Place.{Place}
use Rattle.bn_reply.specs.Answering.{IsSettled}
use Rattle.bn_reply.specs.declared.status.Status.{Status}
use Rattle.bn_reply.specs.declared.status.Status.TheVariants as statuses
use Rattle.bn_reply_machines.specs.ReversibleReply.{TellsQuadFault}

-- the lines of the inverse of a table's machine, with the table's names
abbrev pub inverse_text : QuadTable → List ℕ
inverse_text t = lines_of (quadruple_rows_by t.names (inverse_of t.machine).rules)

-- The answer of `inverse` to these bytes: the error of bytes that are no table of quadruples, or the lines of the
-- inverse, whether or not the machine passes a test.
pub data InverseReplies (bytes : List ℕ) (status : Status) (text : List ℕ) (told : List Place) : Type 0 where
  faulty : TellsQuadFault bytes text → status ≡ statuses.Text → told ≡ [] → InverseReplies bytes status text told
  inverted : (t : QuadTable) → ReadsQuadruples bytes t → text ≡ inverse_text t → status ≡ statuses.Done → told ≡ []
      → InverseReplies bytes status text told

abbrev pub InverseIsSettled : Type 0
InverseIsSettled = (bytes : List ℕ) → IsSettled (InverseReplies bytes)

abbrev pub InverseTwice : Type 0
InverseTwice = (bytes text : List ℕ) → InverseReplies bytes statuses.Done text []
    → (again : List ℕ) × InverseReplies text statuses.Done again [] × (entries_of again ≡ entries_of bytes)

-- the laws of `inverse`
pub record InverseLaws : Type 0 where
  -- It has exactly one answer to all bytes.
  pub inverse_has_one_reply : InverseIsSettled
  -- What it writes for a table is a table, and what it writes for that one has exactly the entries of the first.
  pub inverse_twice : InverseTwice
