-- The five fields are the entry.
use Rattle.std.proofs.Common.{◌≡◌, ◌∷◌, [], List, ℕ, sym, subst, arith}
use Rattle.std.specs.Prelude.{IfOk}
use Rattle.bn_csv.proofs.FieldLemmas.{list_is}
use Rattle.bn_table.specs.Entry.{entry_of}
use Rattle.bn_table.specs.Fields.{said}
use Rattle.bn_table.proofs.Passing.{said-forms}
use Rattle.bn_table.proofs.entry.read_fields.Goals as goal
use Rattle.bn_table.proofs.entry.read_fields.Goals.{After-five_fields}

five : (c : After-five_fields) → c.args.entry.now ≡ c.field.result.now ∷ c.field-2.result.now ∷ c.field-3.result.now
    ∷ c.field-4.result.now ∷ c.field-5.result.now ∷ []
five c =
    let count = c.len.ensures in
    list_is c.args.entry.now _ (omega (arith, count)) (
      c.field.ensures,
      (c.field-2.ensures, (c.field-3.ensures, (c.field-4.ensures, (c.field-5.ensures, tt)))),
    )

pub returns-clause-says : goal.returns-clause-says
returns-clause-says c =
    let P : List (List ℕ) → Type 0 = λ fields. IfOk c.five_fields.result (λ f. entry_of (said f) ≡ fields) in
    subst P (sym (five (goal.at.returns-clause-says c).After-five_fields)) c.five_fields.ensures.says

pub returns-clause-forms : goal.returns-clause-forms
returns-clause-forms c = said-forms c.args.number c.field.result.now c.field-2.result.now c.field-3.result.now
    c.field-4.result.now c.field-5.result.now c.five_fields.result c.five_fields.ensures.says
    c.five_fields.ensures.fault

pub returns-clause-fault : goal.returns-clause-fault
returns-clause-fault c = rw (five (goal.at.returns-clause-fault c).After-five_fields) c.five_fields.ensures.fault
