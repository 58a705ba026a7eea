use Rattle.std.proofs.Common.{◌∙◌, ap, sym}
use Rattle.std.proofs.lemmas.Grind.{get_or_default_zero}
use Rattle.bn_machine.specs.Tape.{scanned}
use Rattle.bn_machine.specs.Window.{Windowed}
use Rattle.bn_machine.proofs.RoomLemmas.{scanned-window_of}
use Rattle.bn_machine.proofs.tape.Tape.scanned.Goals as goal

pub returns : goal.returns
returns c =
    c.index.ensures
    ∙ get_or_default_zero _ _ c.index.result.now c.self.invariant.head_inside
    ∙ sym (scanned-window_of c.self.inside.left c.self.inside.right c.self.inside.cells.items c.self.inside.at)
    ∙ ap (λ (w : Windowed). scanned w.tape) c.self.view_is
