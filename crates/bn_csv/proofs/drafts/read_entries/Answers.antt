-- By what is kept from one entry to the next.
use Rattle.std.proofs.Common.{◌∙◌, Some, ap, sym, arith}
use Rattle.std.proofs.lemmas.Result.{err_from_is_err_and}
use Rattle.bn_csv.proofs.FaultLemmas.{all_pass, fault_of_next, taken_more, taken_none, too_many_next}
use Rattle.bn_csv.proofs.drafts.read_entries.Goals as goal

pub entries-init : goal.entries-init
entries-init g c = (c.requires.draft, rw c.new-entries.ensures (taken_none c.requires.none))

pub entries-preserved : goal.entries-preserved
entries-preserved g c =
    let next = rw c.if-branch.true at c.in_ok-read_entry.ensures.ok in (
      c.in_ok-add_entry.ensures.ok.0,
      taken_more c.entries.invariant.1 next c.in_ok-add_entry.ensures.ok.1 (omega arith)
          c.in_ok-add_entry.ensures.passes,
    )

pub returns-then-count-MOST_ENTRIES-clause-refused : goal.returns-then-count-MOST_ENTRIES-clause-refused
returns-then-count-MOST_ENTRIES-clause-refused g c =
    let next = rw c.if-branch.true at c.in_ok-read_entry.ensures.ok in
    λ n. too_many_next c.entries.invariant.1 next (omega (arith, c.MOST_ENTRIES.ensures))
    ∙ ap Some (sym c.too_many.ensures)

pub returns-in_err-add_entry-clause-refused : goal.returns-in_err-add_entry-clause-refused
returns-in_err-add_entry-clause-refused g c =
    let next = rw c.if-branch.true at c.in_ok-read_entry.ensures.ok in
    let p = err_from_is_err_and c.from_residual-in_err-add_entry.result c.from_residual-in_err-add_entry.ensures.1 in
    rw (p.1, p.2) (λ n. fault_of_next c.entries.invariant.1 next (omega arith) (c.in_err-add_entry.ensures.fault n))

pub returns-clause-passes : goal.returns-clause-passes
returns-clause-passes g c = all_pass c.entries.invariant.1 (rw c.if-branch.false at c.in_ok-read_entry.ensures.ok).0
