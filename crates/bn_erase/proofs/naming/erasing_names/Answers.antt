-- All names are in their forms.
use Rattle.std.proofs.Common.{◌≡◌, subst, sym}
use Rattle.std.proofs.lemmas.Result.{IfOk-weaker}
use Rattle.bn_quad.specs.Names.{Naming}
use Rattle.bn_qtable.specs.Named.{HasNames}
use Rattle.bn_erase.specs.Printed.{names_of}
use Rattle.bn_erase.proofs.LawLemmas.{erasings_have_names}
use Rattle.bn_erase.proofs.naming.erasing_names.Goals as goal

pub returns-clause-forms : goal.returns-clause-forms
returns-clause-forms c =
    let j = c.args.joined.now in
    let e = c.args.erasing.now in
    let P : Naming → Type 0 = HasNames e.machine in
    let named : HasNames e.machine (names_of j e) = erasings_have_names j e c.all_names.ensures.valid c.requires in
    IfOk-weaker c.all_names.result (λ (n : Naming). n ≡ names_of j e) P (λ n x. subst P (sym x) named)
    c.all_names.ensures.names
