use Rattle.std.proofs.Common.{◌∷◌, []}
use Rattle.std.specs.Prelude.{codes}
use Rattle.bn_bennett.specs.Translation.{name_of}
use Rattle.bn_bennett.specs.Meaning.{machine_state_by}
use Rattle.bn_reply.specs.Lines.{line}
use Rattle.bn_reply.specs.Words.{letters_of}
use Rattle.bn_reply.proofs.FrontLemmas.{as_it_was, behind_first, if_refused, in_first}
use Rattle.bn_reply_relations.specs.RunText.{state_text}
use Rattle.bn_reply_boards.proofs.run_text.push_stuck.Goals as goal

pub returns-in_err-push-2-clause-refused : goal.returns-in_err-push-2-clause-refused
returns-in_err-push-2-clause-refused c =
    let table = c.args.table.now in
    let m = c.args.translated.now in
    let state = state_text table (machine_state_by m.final_state (name_of m c.args.state)) in
    let letter = letters_of table (c.args.symbol ∷ []) in
    if_refused c.from_residual-in_err-push-2.result
    (behind_first _ _ _ (codes "exit stuck ") (line (state ∷ codes " " ∷ letter ∷ [])) c.in_ok-push.ensures.added
    (behind_first _ _ _ state (line (codes " " ∷ letter ∷ [])) c.in_ok-push_state.ensures.added
    (as_it_was _ _ _ c.in_err-push-2.ensures.refused)))

pub returns-in_err-push_letters-clause-refused : goal.returns-in_err-push_letters-clause-refused
returns-in_err-push_letters-clause-refused c =
    let table = c.args.table.now in
    let m = c.args.translated.now in
    let state = state_text table (machine_state_by m.final_state (name_of m c.args.state)) in
    let letter = letters_of table (c.args.symbol ∷ []) in
    if_refused c.from_residual-in_err-push_letters.result
    (behind_first _ _ _ (codes "exit stuck ") (line (state ∷ codes " " ∷ letter ∷ [])) c.in_ok-push.ensures.added
    (behind_first _ _ _ state (line (codes " " ∷ letter ∷ [])) c.in_ok-push_state.ensures.added
    (behind_first _ _ _ (codes " ") (line (letter ∷ [])) c.in_ok-push-2.ensures.added
    (in_first _ _ letter (10 ∷ []) c.in_err-push_letters.ensures.refused))))
