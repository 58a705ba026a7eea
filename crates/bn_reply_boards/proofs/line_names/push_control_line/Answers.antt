use Rattle.std.proofs.lemmas.Result.{on_err_weaker}
use Rattle.bn_reply.proofs.FrontLemmas.{as_it_was}
use Rattle.bn_reply_boards.proofs.line_names.push_control_line.Goals as goal

pub returns-then-line-eq0-clause-refused : goal.returns-then-line-eq0-clause-refused
returns-then-line-eq0-clause-refused c = on_err_weaker c.push.result (λ same. as_it_was _ _ _ same)
    c.push.ensures.refused
