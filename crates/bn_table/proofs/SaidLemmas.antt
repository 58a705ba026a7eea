-- What a quintuple's entry says.
use Rattle.std.specs.Prelude.{ℕ, List, [], slice_index, slice_index_or}
use Rattle.bn_machine.specs.declared.quint.Quint.{Quint}
use Rattle.bn_table.specs.Entry.{Said}

-- by the names of its states and the letters of its symbols
abbrev pub said_of : List (List ℕ) → List ℕ → Quint → Said
said_of names letters q = record {
  state = slice_index_or names q.state [];
  read = slice_index letters q.read;
  write = slice_index letters q.write;
  shift = q.shift;
  next = slice_index_or names q.next [];
}
