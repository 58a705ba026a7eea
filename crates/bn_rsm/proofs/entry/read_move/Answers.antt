-- The four fields are the entry.
use Rattle.std.proofs.Common.{◌≡◌, ◌∷◌, [], List, ℕ, sym, subst, arith}
use Rattle.std.specs.Prelude.{IfOk}
use Rattle.bn_csv.proofs.FieldLemmas.{list_is}
use Rattle.bn_rsm.specs.Entry.{move_entry}
use Rattle.bn_rsm.proofs.entry.read_move.Goals as goal
use Rattle.bn_rsm.proofs.entry.read_move.Goals.{After-four_fields}

four : (c : After-four_fields) → c.args.entry.now ≡ c.field.result.now ∷ c.field-2.result.now ∷ c.field-3.result.now
    ∷ c.field-4.result.now ∷ []
four c =
    let count = c.len.ensures in
    list_is c.args.entry.now _ (omega (arith, count)) (
      c.field.ensures,
      (c.field-2.ensures, (c.field-3.ensures, (c.field-4.ensures, tt))),
    )

pub returns-clause-says : goal.returns-clause-says
returns-clause-says c =
    let P : List (List ℕ) → Type 0 = λ fields. IfOk c.four_fields.result (λ m. move_entry m ≡ fields) in
    subst P (sym (four (goal.at.returns-clause-says c).After-four_fields)) c.four_fields.ensures.says

pub returns-clause-fault : goal.returns-clause-fault
returns-clause-fault c = rw (four (goal.at.returns-clause-fault c).After-four_fields) c.four_fields.ensures.fault
