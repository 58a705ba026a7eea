use Rattle.std.proofs.Common.{arith, sym, ◌∙◌, ap, None}
use Rattle.bn_board.proofs.MomentLemmas.{first_sent, next_unsent, none_left}
use Rattle.bn_board.proofs.board.Board.sent_first.Goals as goal

pub returns-then-is_sent : goal.returns-then-is_sent
returns-then-is_sent c = first_sent c.args.self.now.layout c.args.self.now.config c.firsts-first-items.result.now
    (c.firsts-first-items.ensures ∙ ap (λ
    l. l.firsts) c.layout.ensures.layout) c.loop-state.state None c.loop-state-test.true
    (sym c.is_sent.ensures ∙ c.if-is_sent.true) c.loop-state.invariant

pub loop-state-preserved : goal.loop-state-preserved
loop-state-preserved c = next_unsent c.args.self.now.layout c.args.self.now.config c.firsts-first-items.result.now
    (c.firsts-first-items.ensures ∙ ap (λ
    l. l.firsts) c.layout.ensures.layout) c.loop-state.state None c.loop-state-test.true
    (sym c.is_sent.ensures ∙ c.if-is_sent.false) c.loop-state.invariant

pub returns : goal.returns
returns c = none_left c.args.self.now.layout c.args.self.now.config c.firsts-first-items.result.now
    (c.firsts-first-items.ensures ∙ ap (λ l. l.firsts)
    c.layout.ensures.layout) c.loop-state.state (omega arith) c.loop-state.invariant
