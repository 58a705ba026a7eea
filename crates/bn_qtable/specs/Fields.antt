-- The content of an entry, as the code passes it on.
use Rattle.bn_qtable.specs.Entry.{SaidQuadruple, Says, Rewrites, Moves}
use Rattle.bn_qtable.specs.declared.entry.Fields.{Fields}
use Rattle.bn_qtable.specs.declared.entry.TapeText.{TapeText}
use Rattle.bn_qtable.specs.declared.entry.TapeText.TheVariants as text

-- the part for one tape
abbrev pub says : TapeText → Says
says (text.Symbols read written) = Rewrites read.now written.now
says (text.Move s) = Moves s

-- the content of the fields
abbrev pub said : Fields → SaidQuadruple
said f = record { state = f.state.now; one = says f.one; two = says f.two; three = says f.three; next = f.next.now }
