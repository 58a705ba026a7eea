-- The content of an entry, as the code passes it on.
use Rattle.bn_table.specs.Entry.{Said}
use Rattle.bn_table.specs.declared.entry.Fields.{Fields}

-- the content of the fields
abbrev pub said : Fields → Said
said f = record { state = f.state.now; read = f.read; write = f.write; shift = f.shift; next = f.next.now }
