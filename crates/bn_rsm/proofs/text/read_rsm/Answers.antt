-- By the draft with all entries.
use Rattle.std.proofs.lemmas.Result.{IfErr-weaker, err_from_is_err_and}
use Rattle.bn_csv.specs.Entries.{entries_of}
use Rattle.bn_csv.proofs.FaultLemmas.{first_is}
use Rattle.bn_rsm.specs.TableFaults.{move_entry_fault}
use Rattle.bn_rsm.specs.declared.table_refusal.RsmTableRefusal.TheVariants as refusal
use Rattle.bn_rsm.proofs.Coming.{come-machine, come-refused}
use Rattle.bn_rsm.proofs.ReadingLaws.{refused_unless}
use Rattle.bn_rsm.proofs.text.read_rsm.Goals as goal

pub returns-in_err-draft-clause-refused : goal.returns-in_err-draft-clause-refused
returns-in_err-draft-clause-refused c =
    let p = err_from_is_err_and c.from_residual.result c.from_residual.ensures.1 in
    rw (p.1, p.2) (refused_unless c.args.bytes.now c.in_err-draft.field-0.0
    (λ n. first_is refusal.Empty move_entry_fault (entries_of c.args.bytes.now) _
    (c.in_err-draft.ensures.refused n)))

pub returns-clause-ok : goal.returns-clause-ok
returns-clause-ok c =
    let d = c.in_ok-draft in
    come-machine c.args.bytes.now d.draft c.into_machine.result d.ensures.draft d.ensures.taken d.ensures.few
    c.into_machine.ensures.moves c.into_machine.ensures.states c.into_machine.ensures.lines
    c.into_machine.ensures.some

pub returns-clause-refused : goal.returns-clause-refused
returns-clause-refused c =
    let d = c.in_ok-draft in
    IfErr-weaker c.into_machine.result _ _ (λ e told. come-refused c.args.bytes.now d.draft e d.ensures.draft
    d.ensures.taken d.ensures.few told) c.into_machine.ensures.refused
