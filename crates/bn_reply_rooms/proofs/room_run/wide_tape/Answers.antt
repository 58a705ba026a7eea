use Rattle.std.specs.Prelude.{ℕ, ◌+◌, max, take}
use Rattle.std.proofs.Common.{ap, ◌∙◌}
use Rattle.bn_machine.specs.Window.{new_window}
use Rattle.bn_reply_rooms.proofs.StageLemmas.{tape_begins}
use Rattle.bn_reply_rooms.proofs.room_run.wide_tape.Goals as goal

pub returns-in-Ok-clause-wide : goal.returns-in-Ok-clause-wide
returns-in-Ok-clause-wide c =
    let left = c.args.left in
    let n = c.args.steps in
    let word = c.args.word.now in
    tape_begins left word n c.in-Ok.tape c.requires.few
    (c.in-Ok.ensures.made
    ∙ ap (λ (k : ℕ). new_window left k (take c.min-held.result word)) c.max-right.ensures
    ∙ ap (λ (k : ℕ). new_window left (max k (n + 1)) (take k word)) c.min-held.ensures)
