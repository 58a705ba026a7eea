-- Laws of tables that callers may cite.
use Rattle.std.proofs.Common.{◌≡◌, ◌∙◌, ℕ, Bool, true, List, [], length, Some, sym, ap, subst}
use Rattle.std.specs.List.{list_all}
use Rattle.std.proofs.lemmas.Option.{slice_get-get_or}
use Rattle.bn_csv.specs.Forms.{is_state_name, is_symbol}
use Rattle.bn_csv.proofs.FormsLemmas.{all-at}
use Rattle.bn_lists.specs.Lists.{nth}
use Rattle.bn_qtable.specs.Named.{AreNamed, HasNames}
use Rattle.bn_qtable.specs.Rows.{IsTable, IsQuadTableOf, QuadTable}

-- a table of entries is one of its own quadruples' entries
pub own_table : (entries : List (List (List ℕ))) (t : QuadTable) → IsQuadTableOf entries t → IsTable t
own_table entries t h =
    let P : List (List (List ℕ)) → Type 0 = λ rows. IsQuadTableOf rows t in subst P (sym h.spelled.rows) h

pub all_named : (form : List ℕ → Bool) (names : List (List ℕ)) (count : ℕ) → count ≡ length names
    → list_all form names ≡ true → AreNamed form names count
all_named form names count e all =
    let P : ℕ → Type 0 = AreNamed form names in
    subst P (sym e) (record {
      each = λ n h. (
        _,
        slice_get-get_or names n [] h,
        all-at form names n _ all (slice_get-get_or names n [] h),
      );
    })

some_once : {m n : ℕ} → Some m ≡ Some n → m ≡ n
some_once e = cc

-- every state and every symbol of a table has its name
pub table_has_names : (entries : List (List (List ℕ))) (t : QuadTable) → IsQuadTableOf entries t
    → HasNames t.machine t.names
table_has_names entries t h = record {
  states = all_named is_state_name t.names.states t.machine.states h.states h.spelled.states_form;
  one = λ z at. all_named is_symbol t.names.one z (some_once (sym at ∙ ap (λ (zs : List ℕ). nth zs 1) h.symbols))
      h.spelled.one_form;
  two = λ z at. all_named is_symbol t.names.two z (some_once (sym at ∙ ap (λ (zs : List ℕ). nth zs 2) h.symbols))
      h.spelled.two_form;
  three = λ z at. all_named is_symbol t.names.three z (some_once (sym at ∙ ap (λ (zs : List ℕ). nth zs 3) h.symbols))
      h.spelled.three_form;
}
