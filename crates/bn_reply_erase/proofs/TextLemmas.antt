-- The printed quadruples of an erasing machine are those of its list.
use Rattle.std.specs.Prelude.{◌≡◌, ℕ, ◌<◌, List, [], length, map, slice_index_or, slice_get, Some}
use Rattle.std.proofs.Common.{ap, sym, subst, ◌∙◌}
use Rattle.std.proofs.lemmas.List.{get_or-map}
use Rattle.std.proofs.lemmas.Option.{get_or_from_slice_get}
use Rattle.bn_csv.specs.Lines.{lines_of}
use Rattle.bn_quad.specs.Names.{Naming}
use Rattle.bn_qtable.specs.Rows.{quadruple_rows_by}
use Rattle.bn_bennett_laws.specs.declared.name.Name.TheVariants.{GoRight}
use Rattle.bn_reply_machines.proofs.BennettLemmas.{rows_named}
use Rattle.bn_erase_laws.specs.declared.name.ErasingName.TheVariants.{First}
use Rattle.bn_erase.specs.Joint.{Joint}
use Rattle.bn_erase.specs.Made.{Erasure, IsErasing, name_of}
use Rattle.bn_erase.specs.Printed.{erasing_text, names_of}
use Rattle.bn_reply_erase.specs.EraseReply.{erase_text, erasing_entry}

-- the printed name of a state
pub state_at : (e : Erasure) (n : ℕ) → n < length e.names → slice_index_or (map erasing_text e.names) n []
    ≡ erasing_text (name_of e n)
state_at e n inside = get_or-map erasing_text e.names n (First GoRight) [] inside

-- the text of an erasing machine is that of its list
pub erased_text : (j : Joint) (e : Erasure) → IsErasing j.first j.second e
    → lines_of (quadruple_rows_by (names_of j e) e.machine.rules) ≡ erase_text j
erased_text j e h =
    let told : (n : ℕ) → n < e.machine.states → slice_index_or (map erasing_text e.names) n []
    ≡ erasing_text (name_of e n) = λ n inside. state_at e n (subst (λ m. n < m) h.states inside) in
    ap lines_of (rows_named (names_of j e) (name_of e) erasing_text e.machine.states told e.machine.symbols
    e.machine.rules h.machine.in_range ∙ ap (map (erasing_entry j)) h.rules)

-- the text that stands at a state's number among the names is the state's
pub printed_state : (j : Joint) (e : Erasure) (names : Naming) (n : ℕ) (text : List ℕ) → names ≡ names_of j e
    → e.machine.states ≡ length e.names → n < e.machine.states →
    slice_get names.states n ≡ Some text → text ≡ erasing_text (name_of e n)
printed_state j e names n text named count inside at =
    let texts : names.states ≡ map erasing_text e.names = ap (λ (x : Naming). x.states) named in
    let here : slice_get (map erasing_text e.names) n ≡ Some text = subst (λ ts. slice_get ts n ≡ Some text) texts at in
    sym (get_or_from_slice_get (map erasing_text e.names) n text [] here)
    ∙ state_at e n (subst (λ m. n < m) count inside)
