-- The value of a reader of lines after the borrow by the returned line has ended.
use Rattle.std.specs.Prelude.{ℕ, List, ⊤, []}
use Rattle.std.specs.Borrow.{follows_so, MutBor, Fml}
use mathlib.Core.Option.{none}
use mir.Syntax.{named}
use Rattle.bn_base.specs.Line.{IsNextLine}
use Rattle.bn_base.specs.declared.lines.NextLine.{NextLine}
use Rattle.bn_base.specs.contracts.lines.Lines.{the_row}

-- The reader has returned this line, and the bytes after the line are left. `named 1` is the place of the text's
-- lifetime in the signature.
abbrev pub GivesLine : MutBor (List ℕ) → NextLine → Fml
GivesLine m line =
    let row = the_row (record { mir = named 1; lft = [] }) in
    follows_so row row m.ghost_name none (λ _ _. ⊤) (λ rest. IsNextLine m.now line rest)
