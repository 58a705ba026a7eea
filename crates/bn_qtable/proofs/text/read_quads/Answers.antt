-- By the draft with all entries.
use Rattle.std.proofs.Common.{◌∙◌, sym, ap, Some}
use Rattle.std.proofs.lemmas.Result.{MatchResult-weaker, err_from_is_err_and}
use Rattle.bn_csv.specs.Entries.{entries_of}
use Rattle.bn_csv.proofs.FaultLemmas.{first_is, no_entry}
use Rattle.bn_qtable.specs.Faults.{quadruple_entry_fault}
use Rattle.bn_qtable.specs.declared.refusal.QuadTableRefusal.{QuadTableRefusal}
use Rattle.bn_qtable.specs.declared.refusal.QuadTableRefusal.TheVariants as refusal
use Rattle.bn_qtable.proofs.text.read_quads.Goals as goal

pub returns-in_err-draft-clause-refused : goal.returns-in_err-draft-clause-refused
returns-in_err-draft-clause-refused c =
    let p = err_from_is_err_and c.from_residual-in_err-draft.result c.from_residual-in_err-draft.ensures.1 in
    rw (p.1, p.2) (λ n. first_is refusal.Empty quadruple_entry_fault (entries_of c.args.bytes.now) _
    (c.in_err-draft.ensures.refused n))

pub returns-clause-refused : goal.returns-clause-refused
returns-clause-refused c =
    MatchResult-weaker c.into_table.result c.into_table.ensures.empty (λ t p. tt)
    (λ e p n. no_entry refusal.Empty quadruple_entry_fault (entries_of c.args.bytes.now)
    (sym c.in_ok-draft.ensures.taken ∙ (p n).1) ∙ sym (ap (λ (x : QuadTableRefusal). Some x) (p n).0))
