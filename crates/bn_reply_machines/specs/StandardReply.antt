-- The answer of the command `standard`: the table of the equivalent machine in standard form for a table's machine
-- whose run begins on the first letter (this project's own definition).
use Rattle.std.specs.Prelude.{◌≡◌, ◌≢◌, ℕ, List, [], ◌∷◌, codes, decimal}
use Rattle.bn_circuits.specs.declared.place.Place.{Place}
use Rattle.bn_table.specs.Rows.{Named}
use Rattle.bn_standardise.specs.Printed.{standard_lines}
use Rattle.bn_standardise.specs.Refusals.{IsAccepted, IsLooseRefusal}
use Rattle.bn_standardise.specs.declared.refusal.LooseRefusal.{LooseRefusal}
use Rattle.bn_standardise.specs.declared.refusal.LooseRefusal.TheVariants as refusals
use Rattle.bn_reply.specs.Answering.{IsDone, IsSettled}
use Rattle.bn_reply.specs.Lines.{line}
use Rattle.bn_reply.specs.TableReply.{TableReplies}
use Rattle.bn_reply.specs.declared.reply.Reply.{Reply}
use Rattle.bn_reply.specs.declared.status.Status.{Status}
use Rattle.bn_reply.specs.declared.status.Status.TheVariants as statuses

-- the line of a refusal, with the numbers of the quintuples that show it, counted from 1, or how many there would be
abbrev pub refusal_line : LooseRefusal → List ℕ
refusal_line (refusals.Repeat i j) = line (codes "machine: S1 " ∷ decimal i ∷ codes " " ∷ decimal j ∷ [])
refusal_line (refusals.Halting i) = line (codes "machine: halting " ∷ decimal i ∷ [])
refusal_line (refusals.Many count) = line (codes "size: quintuples " ∷ decimal count ∷ [])
refusal_line refusals.NoMemory = []

-- the status of a refusal: too long a list is refused for its size
abbrev pub refusal_status : LooseRefusal → Status
refusal_status (refusals.Many count) = statuses.Size
refusal_status other = statuses.Machine

-- The answer to a table: why its machine is refused, or the lines of the machine in standard form.
pub data TellsStandard (t : Named) (status : Status) (text : List ℕ) (told : List Place) : Type 0 where
  refused : (refusal : LooseRefusal) → IsLooseRefusal t.machine refusal → refusal ≢ refusals.NoMemory →
      status ≡ refusal_status refusal → text ≡ refusal_line refusal → told ≡ [] → TellsStandard t status text told
  accepted : IsAccepted t.machine → IsDone (standard_lines t) status text told → TellsStandard t status text told

-- the answer of `standard` to these bytes
abbrev pub StandardTableReplies : List ℕ → Status → List ℕ → List Place → Type 0
StandardTableReplies = TableReplies TellsStandard

-- it has exactly one answer to all bytes
abbrev pub StandardIsSettled : Type 0
StandardIsSettled = (bytes : List ℕ) → IsSettled (StandardTableReplies bytes)

-- the reply reports this refusal, which is not that memory ran out
pub record IsRefusedReply (refusal : LooseRefusal) (reply : Reply) : Type 0 where
  pub said : refusal ≢ refusals.NoMemory
  pub status_is : reply.status ≡ refusal_status refusal
  pub text_is : reply.text.items ≡ refusal_line refusal
