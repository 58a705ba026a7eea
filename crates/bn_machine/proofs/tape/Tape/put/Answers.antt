use Rattle.std.proofs.Common.{◌∙◌, ap}
use Rattle.bn_machine.specs.Tape.{write}
use Rattle.bn_machine.specs.Window.{Windowed, with_tape}
use Rattle.bn_machine.proofs.RoomLemmas.{window_of-set}
use Rattle.bn_machine.proofs.tape.Tape.put.Goals as goal

pub returns : goal.returns
returns c = window_of-set _ _ _ _ c.args.symbol c.self.invariant.head_inside
    ∙ ap (λ (w : Windowed). with_tape w (write w.tape c.args.symbol)) c.self.view_is
