-- The printed quadruples of a translation are those of Bennett's list, and `bennett` has one answer to all bytes.
use Rattle.std.specs.Prelude.{◌≡◌, ℕ, ◌<◌, List, [], ◌∷◌, length, map, slice_index_or, All, refl}
use Rattle.std.proofs.Common.{ap, subst, ◌∙◌}
use Rattle.std.proofs.lemmas.List.{get_or-map}
use Rattle.std.proofs.lemmas.List.Elements.{All-head, All-tail}
use Rattle.bn_csv.specs.Lines.{lines_of}
use Rattle.bn_quad.specs.Names.{Naming}
use Rattle.bn_quad.specs.Quadruples.{Rule, IsRuleInRange}
use Rattle.bn_qtable.specs.Entry.{quadruple_entry}
use Rattle.bn_qtable.specs.Rows.{quadruple_rows_by, said_deed, said_of_quadruple}
use Rattle.bn_bennett_laws.specs.Renamed.{rename, renamed}
use Rattle.bn_bennett_laws.specs.declared.name.Name.TheVariants.{GoRight}
use Rattle.bn_table.specs.Rows.{Named}
use Rattle.bn_bennett.specs.Printed.{translation_names, bennett_state_text}
use Rattle.bn_bennett.specs.Translation.{IsTranslation, Translation, name_of}
use Rattle.bn_reply_machines.specs.BennettReply.{BennettIsSettled, bennett_text, printed_entry}
use Rattle.bn_reply.specs.Answering.{IsDone}
use Rattle.bn_reply.proofs.SettledLemmas.{done_settled, standard_settled}

-- the printed name of a state
state_at : (tr : Translation) (n : ℕ) → n < length tr.names → slice_index_or (map bennett_state_text tr.names) n []
    ≡ bennett_state_text (name_of tr n)
state_at tr n inside = get_or-map bennett_state_text tr.names n GoRight [] inside

-- quadruples whose states have names are told by those names
module _ {N : Type 0} (names : Naming) (name : ℕ → N) (text : N → List ℕ) (states : ℕ)
    (told : (n : ℕ) → n < states → slice_index_or names.states n [] ≡ text (name n)) where
  -- the entry of a quadruple, by the names of its states
  abbrev entry_by : Rule N → List (List ℕ)
  entry_by r = quadruple_entry (record {
    state = text r.from;
    one = said_deed names.one r.one;
    two = said_deed names.two r.two;
    three = said_deed names.three r.three;
    next = text r.to;
  })

  row_named : (r : Rule ℕ) → r.from < states → r.to < states → quadruple_entry (said_of_quadruple names r)
      ≡ entry_by (renamed name r)
  row_named r from to =
      let first = told r.from from in
      let last = told r.to to in
      λ i. quadruple_entry (record {
        state = first i;
        one = said_deed names.one r.one;
        two = said_deed names.two r.two;
        three = said_deed names.three r.three;
        next = last i;
      })

  pub rows_named : (symbols : List ℕ) (rules : List (Rule ℕ)) → All (IsRuleInRange states symbols) rules
      → quadruple_rows_by names rules ≡ map entry_by (rename name rules)
  rows_named symbols [] h = refl
  rows_named symbols (r ∷ rs) h =
      let InRange : Rule ℕ → Type 0 = IsRuleInRange states symbols in
      let here = All-head InRange r rs h in
      let first = row_named r here.from here.to in
      let later = rows_named symbols rs (All-tail InRange r rs h) in
      λ i. first i ∷ later i

-- the text of a translation is that of Bennett's list
pub translated_text : (t : Named) (tr : Translation) → IsTranslation t.machine tr
    → lines_of (quadruple_rows_by (translation_names t tr) tr.machine.rules) ≡ bennett_text t
translated_text t tr h =
    let told : (n : ℕ) → n < tr.machine.states → slice_index_or (map bennett_state_text tr.names) n []
    ≡ bennett_state_text (name_of tr n) = λ n inside. state_at tr n (subst (λ m. n < m) h.states inside) in
    ap lines_of (rows_named (translation_names t tr) (name_of tr) bennett_state_text tr.machine.states told
    tr.machine.symbols tr.machine.rules h.machine.in_range ∙ ap (map (printed_entry t)) h.rules)

pub bennett_settled : BennettIsSettled
bennett_settled bytes = standard_settled (λ t. IsDone (bennett_text t)) bytes (λ t reads. done_settled (bennett_text t))
