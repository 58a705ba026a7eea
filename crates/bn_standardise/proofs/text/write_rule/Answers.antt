-- A rule's names and letters have their forms, and its row is its entry.
use Rattle.std.proofs.Common.{◌≡◌, ◌∙◌, ◌++◌, ap, subst, List, ℕ}
use Rattle.std.specs.Prelude.{OnOk, true}
use Rattle.std.proofs.lemmas.Option.{get_or_from_slice_get}
use Rattle.bn_csv.specs.Forms.{is_state_name, is_symbol_byte}
use Rattle.bn_csv.proofs.FormsLemmas.{all-at}
use Rattle.bn_csv.specs.Lines.{line_of}
use Rattle.bn_standardise.specs.Printed.{IsSmall, name_text}
use Rattle.bn_standardise.specs.declared.name.Name.{Name}
use Rattle.bn_standardise.proofs.PrintedLemmas.{name_form}
use Rattle.bn_standardise.proofs.TextLemmas.{row_is}
use Rattle.bn_standardise.proofs.text.write_rule.Goals as goal

printed : (n : Name) (text : List ℕ) → IsSmall n → text ≡ name_text n → is_state_name text ≡ true
printed n text small e = ap is_state_name e ∙ name_form n small

pub write_row-requires : goal.write_row-requires
write_row-requires c =
    let s = c.requires.table.spelled in
    let r = c.args.rule.now in
    let letters = c.args.table.now.letters in
    record {
      state = printed r.state c.as_slice.result.now c.requires.writable.state
          (c.as_slice.ensures.value ∙ c.in_ok-state.ensures);
      read = all-at is_symbol_byte letters r.read c.letter.result s.letters_form c.letter.ensures;
      write = all-at is_symbol_byte letters r.write c.letter-2.result s.letters_form c.letter-2.ensures;
      next = printed r.next c.as_slice-2.result.now c.requires.writable.next
          (c.as_slice-2.ensures.value ∙ c.in_ok-next.ensures);
    }

pub returns : goal.returns
returns c =
    let r = c.args.rule.now in
    let letters = c.args.table.now.letters in
    let P : List (List ℕ) → Type 0 = λ fields. OnOk c.write_row.result
    (c.write_row.new.writer ≡ c.args.writer.now ++ line_of fields) in
    subst P (row_is letters r c.as_slice.result.now c.as_slice-2.result.now c.letter.result c.letter-2.result
    (c.as_slice.ensures.value ∙ c.in_ok-state.ensures) (c.as_slice-2.ensures.value ∙ c.in_ok-next.ensures)
    (get_or_from_slice_get letters r.read c.letter.result 0 c.letter.ensures)
    (get_or_from_slice_get letters r.write c.letter-2.result 0 c.letter-2.ensures)) c.write_row.ensures.written
