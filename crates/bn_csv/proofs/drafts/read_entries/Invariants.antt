-- Entries are taken from the front on.
use Rattle.std.proofs.Common.{length}
use Rattle.bn_csv.specs.Entries.{entries_of}
use Rattle.bn_csv.proofs.FaultLemmas.{HasTaken}
use Rattle.bn_csv.proofs.drafts.read_entries.Given as goal

abbrev pub invariant-entries : goal.invariant-entries
invariant-entries g l =
    let t = g.D.TableDraft in
    t.is_draft l.draft × HasTaken t.MOST_ENTRIES t.too_many t.form_fault (entries_of l.fn.bytes) (t.taken l.draft)
    l.count l.entries

abbrev pub decreases-entries : goal.decreases-entries
decreases-entries g l = length l.entries
