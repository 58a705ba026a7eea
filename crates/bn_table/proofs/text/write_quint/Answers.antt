-- A table's names and letters have their forms.
use Rattle.std.proofs.Common.{[]}
use Rattle.std.proofs.lemmas.Option.{get_or_from_slice_get}
use Rattle.bn_csv.specs.Forms.{is_state_name, is_symbol_byte}
use Rattle.bn_csv.proofs.FormsLemmas.{all-at}
use Rattle.bn_table.proofs.text.write_quint.Goals as goal

pub write_row-requires : goal.write_row-requires
write_row-requires c =
    let t = c.args.table.now in
    let s = c.requires.table.spelled in
    record {
      state = all-at is_state_name t.names c.args.quint.now.state c.state_name.result.now s.names_form
          c.state_name.ensures;
      read = all-at is_symbol_byte t.letters c.args.quint.now.read c.letter.result s.letters_form c.letter.ensures;
      write = all-at is_symbol_byte t.letters c.args.quint.now.write c.letter-2.result s.letters_form
          c.letter-2.ensures;
      next = all-at is_state_name t.names c.args.quint.now.next c.state_name-2.result.now s.names_form
          c.state_name-2.ensures;
    }

pub returns : goal.returns
returns c =
    let t = c.args.table.now in
    rw (
      get_or_from_slice_get t.names c.args.quint.now.state c.state_name.result.now [] c.state_name.ensures,
      get_or_from_slice_get t.letters c.args.quint.now.read c.letter.result 0 c.letter.ensures,
      get_or_from_slice_get t.letters c.args.quint.now.write c.letter-2.result 0 c.letter-2.ensures,
      get_or_from_slice_get t.names c.args.quint.now.next c.state_name-2.result.now [] c.state_name-2.ensures,
    ) c.write_row.ensures.written
