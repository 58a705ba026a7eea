-- The eight fields are the entry.
use Rattle.std.proofs.Common.{◌≡◌, ◌∷◌, [], List, ℕ, sym, subst, arith}
use Rattle.std.specs.Prelude.{IfOk}
use Rattle.bn_csv.proofs.FieldLemmas.{list_is}
use Rattle.bn_qtable.specs.Entry.{quadruple_entry}
use Rattle.bn_qtable.specs.Fields.{said}
use Rattle.bn_qtable.proofs.entry.read_fields.Goals as goal
use Rattle.bn_qtable.proofs.entry.read_fields.Goals.{After-eight_fields}

eight : (c : After-eight_fields) → c.args.entry.now
    ≡ c.field.result.now ∷ c.field-2.result.now ∷ c.field-3.result.now ∷ c.field-4.result.now ∷ c.field-5.result.now
    ∷ c.field-6.result.now ∷ c.field-7.result.now ∷ c.field-8.result.now ∷ []
eight c =
    let count = c.len.ensures in
    list_is c.args.entry.now _ (omega (arith, count)) (
      c.field.ensures,
      (
        c.field-2.ensures,
        (
          c.field-3.ensures,
          (
            c.field-4.ensures,
            (c.field-5.ensures, (c.field-6.ensures, (c.field-7.ensures, (c.field-8.ensures, tt)))),
          ),
        ),
      ),
    )

pub returns-clause-says : goal.returns-clause-says
returns-clause-says c =
    let P : List (List ℕ) → Type 0 = λ fields. IfOk c.eight_fields.result (λ f. quadruple_entry (said f) ≡ fields) in
    subst P (sym (eight (goal.at.returns-clause-says c).After-eight_fields)) c.eight_fields.ensures.says

pub returns-clause-fault : goal.returns-clause-fault
returns-clause-fault c = rw (eight (goal.at.returns-clause-fault c).After-eight_fields) c.eight_fields.ensures.fault
