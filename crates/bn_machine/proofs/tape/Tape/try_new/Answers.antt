use Rattle.std.proofs.Common.{◌∙◌, ap, ℕ, List, ◌-◌, length}
use Rattle.bn_machine.specs.Window.{window_of}
use Rattle.bn_machine.proofs.RoomLemmas.{window_of-new}
use Rattle.bn_machine.proofs.tape.Tape.try_new.Goals as goal

pub returns-clause-made : goal.returns-clause-made
returns-clause-made c =
    ap (λ (cells : List ℕ). window_of c.args.left c.args.right cells c.args.left) c.in-Ok.ensures
    ∙ window_of-new c.args.left c.args.right c.args.word.now (c.args.right - length c.args.word.now)
