-- All names are in their forms.
use Rattle.std.proofs.Common.{◌≡◌, subst, sym}
use Rattle.std.proofs.lemmas.Result.{IfOk-weaker}
use Rattle.bn_quad.specs.Names.{Naming}
use Rattle.bn_qtable.specs.Named.{HasNames}
use Rattle.bn_qtable.specs.Rows.{IsTable, table_of}
use Rattle.bn_bennett.specs.Printed.{translation_names}
use Rattle.bn_bennett.proofs.LawLemmas.{translations_are_tables, translations_have_names}
use Rattle.bn_bennett.proofs.naming.names.Goals as goal

pub returns-clause-forms : goal.returns-clause-forms
returns-clause-forms c =
    let t = c.args.table.now in
    let s = c.args.translated.now in
    let P : Naming → Type 0 = HasNames s.machine in
    let named : HasNames s.machine (translation_names t s) = translations_have_names t s
    c.all_names.ensures.machine c.all_names.ensures.table
    c.all_names.ensures.fits c.requires in
    IfOk-weaker c.all_names.result (λ (n : Naming). n ≡ translation_names t s) P (λ n e. subst P (sym e) named)
    c.all_names.ensures.names

pub returns-clause-table : goal.returns-clause-table
returns-clause-table c =
    let t = c.args.table.now in
    let s = c.args.translated.now in
    let P : Naming → Type 0 = λ n. IsTable (table_of s.machine n) in
    let written : IsTable (table_of s.machine (translation_names t s)) =
    translations_are_tables t s c.all_names.ensures.machine
    c.all_names.ensures.table c.all_names.ensures.fits c.requires in
    IfOk-weaker c.all_names.result (λ (n : Naming). n ≡ translation_names t s) P (λ n e. subst P (sym e) written)
    c.all_names.ensures.names
