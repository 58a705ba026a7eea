use Rattle.std.proofs.Common.{rules, sym, w64, ◌∙◌}
use Rattle.std.proofs.lemmas.Int.{to_z-of_z}
use Rattle.bn_reply_traces.proofs.StageLemmas.{blank_there}
use Rattle.bn_reply_traces.proofs.TapeStageLemmas.{steps_move}
use Rattle.bn_reply_traces.proofs.extent.Extent.follow.Goals as goal

pub returns-clause-first : goal.returns-clause-first
returns-clause-first c = λ t u word s inside steps f.
    let l = to_z-of_z w64 c.args.left (search rules) in
    let h = to_z-of_z w64 c.head-head.result (search rules) in
    let blank = blank_there c.letter_at.result c.is_none-is_blank.result c.args.tape.now u word c.args.left
    c.is_none-is_blank.ensures (rw (sym l) c.letter_at.ensures.letter) s inside
    in
    let m = steps_move t u c.args.left c.head-head.result c.is_none-is_blank.result steps
    (s.head ∙ sym c.head-head.ensures.value)
    blank
    in
    c.after.ensures.first t u (rw (l, h) m) f

pub returns-clause-last : goal.returns-clause-last
returns-clause-last c = λ t u word s inside steps f.
    let l = to_z-of_z w64 c.args.left (search rules) in
    let h = to_z-of_z w64 c.head-head.result (search rules) in
    let blank = blank_there c.letter_at.result c.is_none-is_blank.result c.args.tape.now u word c.args.left
    c.is_none-is_blank.ensures (rw (sym l) c.letter_at.ensures.letter) s inside
    in
    let m = steps_move t u c.args.left c.head-head.result c.is_none-is_blank.result steps
    (s.head ∙ sym c.head-head.ensures.value)
    blank
    in
    c.after.ensures.last t u (rw (l, h) m) f
