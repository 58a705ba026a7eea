-- All names are apart.
use Rattle.std.proofs.Common.{◌≡◌, List, ℕ, arith, subst, sym}
use Rattle.bn_machine.specs.Machine.{IsMachine}
use Rattle.bn_erase_laws.specs.declared.name.ErasingName.{ErasingName}
use Rattle.bn_bennett.specs.Printed.{AreLetters}
use Rattle.bn_erase_laws.proofs.NamesLemmas.{erasing_has_names, erasing_counts_names}
use Rattle.bn_erase.specs.Joint.{Joint, IsJoint}
use Rattle.bn_erase.specs.Printable.{ArePrintable}
use Rattle.bn_erase.proofs.PrintedLemmas.{printable}
use Rattle.bn_erase.proofs.naming.all_names.Goals as goal

pub add_states-requires-clause-printable : goal.add_states-requires-clause-printable
add_states-requires-clause-printable c =
    let j = c.args.joined.now in
    let left : IsMachine j.first = subst IsMachine c.first.ensures.value c.quints.ensures.valid in
    let right : IsMachine j.second = subst IsMachine c.second.ensures.value c.quints-2.ensures.valid in
    let P : List ErasingName → Type 0 = ArePrintable in
    subst P (sym c.names.ensures)
    (printable j.first j.second c.args.erasing.now left right c.first.ensures.valid.first_fits
    c.first.ensures.valid.second_fits c.requires erasing_has_names erasing_counts_names)

-- the joint letters are letters of symbols
joint_letters : (j : Joint) → IsJoint j → (letters : List ℕ) → letters ≡ j.letters → AreLetters letters
joint_letters j h letters is = subst AreLetters (sym is) (record
    { few = omega (arith, h.first_symbols, h.first_fits.symbols); apart = h.alphabet.apart })

pub add_letters-requires-clause-letters : goal.add_letters-requires-clause-letters
add_letters-requires-clause-letters c = joint_letters c.args.joined.now c.letters.ensures.valid c.letters.result.now
    c.letters.ensures.value

pub add_letters-requires-2-clause-letters : goal.add_letters-requires-2-clause-letters
add_letters-requires-2-clause-letters c = joint_letters c.args.joined.now c.letters-2.ensures.valid
    c.letters-2.result.now c.letters-2.ensures.value
