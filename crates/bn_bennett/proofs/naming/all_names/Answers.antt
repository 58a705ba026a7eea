-- All names are apart.
use Rattle.std.proofs.Common.{subst, sym, List}
use Rattle.bn_machine.specs.Machine.{IsMachine}
use Rattle.bn_bennett_laws.specs.declared.name.Name.{Name}
use Rattle.bn_bennett.specs.Printed.{ArePrintable}
use Rattle.bn_bennett.proofs.Printable.{printable}
use Rattle.bn_bennett.proofs.Texts.{table_letters}
use Rattle.bn_bennett_laws.proofs.Counts.{list_has_names, list_counts_names}
use Rattle.bn_bennett.proofs.naming.all_names.Goals as goal

pub add_states-requires-clause-printable : goal.add_states-requires-clause-printable
add_states-requires-clause-printable c =
    let P : List Name → Type 0 = ArePrintable in
    subst P (sym c.names.ensures.value)
    (printable c.args.table.now.machine c.args.translated.now (subst IsMachine c.machine.ensures.value
    c.quints.ensures.valid) c.machine.ensures.fits list_has_names list_counts_names c.requires)

pub add_letters-requires-clause-letters : goal.add_letters-requires-clause-letters
add_letters-requires-clause-letters c = table_letters c.args.table.now c.letters.ensures.valid c.letters.result.now
    c.letters.ensures.value

pub add_letters-requires-2-clause-letters : goal.add_letters-requires-2-clause-letters
add_letters-requires-2-clause-letters c = table_letters c.args.table.now c.letters-2.ensures.valid
    c.letters-2.result.now c.letters-2.ensures.value
