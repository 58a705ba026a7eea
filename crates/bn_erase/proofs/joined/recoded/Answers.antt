-- The quintuples are those of a machine.
use Rattle.std.proofs.Common.{◌∙◌, ap, map}
use Rattle.bn_machine.specs.Machine.{Program}
use Rattle.bn_erase.specs.Recoded.{recoded_quint}
use Rattle.bn_erase.proofs.JoinedLemmas.{code_among, recoded_not_refused}
use Rattle.bn_erase.proofs.joined.recoded.Goals as goal

pub unreachable-requires : goal.unreachable-requires
unreachable-requires c =
    let t = c.args.table.now in
    let own = c.quints.ensures.value ∙ ap (λ (p : Program). p.quints) c.machine-machine.ensures.value in
    recoded_not_refused t c.args.letters.now c.in_ok-quints.quints.items c.states.result c.in-Err.field-0
    c.machine-machine.ensures.valid c.requires.known
    (c.in_ok-quints.ensures ∙ ap (map (recoded_quint (code_among c.args.letters.now t.letters))) own)
    (c.states.ensures ∙ ap (λ (p : Program). p.states) c.machine-machine.ensures.value)
    c.in-Err.ensures.refused
