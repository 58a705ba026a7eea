-- The answer of the command `reversible`: whether the quadruples of a table are deterministic and whether they are
-- reversible, which means that no two overlap in domain and that no two overlap in range (Bennett 1973; the texts are
-- this project's own definitions).
use Rattle.std.specs.Prelude.{◌≡◌, ℕ, List, [], ◌∷◌, ◌++◌, Option, Some, None, codes, decimal}
use Rattle.bn_csv.specs.Entries.{entries_of}
use Rattle.bn_quad.specs.Quadruples.{Rule}
use Rattle.bn_quad.specs.Overlap.{HasNoClash, IsLeastClash}
use Rattle.bn_quad.specs.declared.clash.Clash.{Clash}
use Rattle.bn_quad.specs.declared.clash.Clash.TheVariants.{Domain, Range}
use Rattle.bn_qtable.specs.Faults.{quadruple_table_fault}
use Rattle.bn_qtable.specs.Reading.{ReadsQuadruples}
use Rattle.bn_qtable.specs.Rows.{QuadTable}
use Rattle.bn_qtable.specs.declared.refusal.QuadTableRefusal.{QuadTableRefusal}
use Rattle.bn_qtable.specs.declared.refusal.QuadTableRefusal.TheVariants as faults
use Rattle.bn_circuits.specs.declared.place.Place.{Place}
use Rattle.bn_reply.specs.Answering.{IsSettled}
use Rattle.bn_reply.specs.Lines.{record_line, field_line, empty_line, line}
use Rattle.bn_reply.specs.TableReply.{TellsFirst}
use Rattle.bn_reply.specs.declared.status.Status.{Status}
use Rattle.bn_reply.specs.declared.status.Status.TheVariants as statuses

-- the line of an error of the bytes as a table of quadruples
abbrev pub quad_fault_line : QuadTableRefusal → List ℕ
quad_fault_line (faults.FieldCount i) = record_line i (codes "fields")
quad_fault_line (faults.Name i j) = field_line i j (codes "name")
quad_fault_line (faults.Symbol i j) = field_line i j (codes "symbol")
quad_fault_line (faults.Shift i j) = field_line i j (codes "shift")
quad_fault_line (faults.TooMany i) = record_line i (codes "too many")
quad_fault_line faults.Empty = empty_line
quad_fault_line faults.NoMemory = []

-- the bytes are no table of quadruples, and the text reports their first error
abbrev pub TellsQuadFault : List ℕ → List ℕ → Type 0
TellsQuadFault bytes text =
    TellsFirst (ReadsQuadruples bytes) (quadruple_table_fault (entries_of bytes)) quad_fault_line text

-- the result of a test of quadruples: no two overlap, or these are the least two that do, counted from 1
abbrev pub IsVerdict : Clash → List (Rule ℕ) → Option (ℕ × ℕ) → Type 0
IsVerdict clash rs None = HasNoClash clash rs
IsVerdict clash rs (Some pair) = IsLeastClash clash rs pair.0 pair.1

-- the line of a test with this result, by its name
abbrev pub verdict_line : List ℕ → Option (ℕ × ℕ) → List ℕ
verdict_line name None = line (name ∷ codes " yes" ∷ [])
verdict_line name (Some pair) = line (name ∷ codes " no " ∷ decimal pair.0 ∷ codes " " ∷ decimal pair.1 ∷ [])

-- the text says, in a line each, whether these quadruples are deterministic and whether they are reversible
pub record TellsVerdicts (rs : List (Rule ℕ)) (text : List ℕ) : Type 0 where
  pub domain : Option (ℕ × ℕ)
  pub range : Option (ℕ × ℕ)
  pub deterministic : IsVerdict Domain rs domain
  pub reversible : IsVerdict Range rs range
  pub told : text ≡ verdict_line (codes "deterministic") domain ++ verdict_line (codes "reversible") range

-- The answer of `reversible` to these bytes: the error of bytes that are no table of quadruples, or the results of both
-- tests for the quadruples of a table.
pub data ReversibleReplies (bytes : List ℕ) (status : Status) (text : List ℕ) (told : List Place) : Type 0 where
  faulty : TellsQuadFault bytes text → status ≡ statuses.Text → told ≡ [] → ReversibleReplies bytes status text told
  judged : (t : QuadTable) → ReadsQuadruples bytes t → TellsVerdicts t.machine.rules text → status ≡ statuses.Done
      → told ≡ [] →
      ReversibleReplies bytes status text told

-- it has exactly one answer to all bytes
abbrev pub ReversibleIsSettled : Type 0
ReversibleIsSettled = (bytes : List ℕ) → IsSettled (ReversibleReplies bytes)
