use Rattle.std.proofs.Common.{arith, ◌∙◌, ap, None, refl}
use Rattle.bn_board.proofs.MomentLemmas.{first_sent, next_unsent, none_left, ended_is}
use Rattle.bn_board.proofs.board.Board.ended.Goals as goal

pub returns-then-is_none : goal.returns-then-is_none
returns-then-is_none c = first_sent c.args.self.now.layout c.args.self.now.config c.firsts-first-items.result.now
    (c.firsts-first-items.ensures ∙ ap (λ
    l. l.firsts) c.layout.ensures.layout) c.loop-state.state None c.loop-state-test.true
    (ended_is c.args.self.now.layout c.args.self.now.config
    c.requires _ ∙ (let h = c.is_none.ensures in rw (h, c.if-is_none.true) refl)) c.loop-state.invariant

pub loop-state-preserved : goal.loop-state-preserved
loop-state-preserved c = next_unsent c.args.self.now.layout c.args.self.now.config c.firsts-first-items.result.now
    (c.firsts-first-items.ensures ∙ ap (λ
    l. l.firsts) c.layout.ensures.layout) c.loop-state.state None c.loop-state-test.true
    (ended_is c.args.self.now.layout c.args.self.now.config
    c.requires _ ∙ (let h = c.is_none.ensures in rw (h, c.if-is_none.false) refl)) c.loop-state.invariant

pub returns : goal.returns
returns c = none_left c.args.self.now.layout c.args.self.now.config c.firsts-first-items.result.now
    (c.firsts-first-items.ensures ∙ ap (λ l. l.firsts)
    c.layout.ensures.layout) c.loop-state.state (omega arith) c.loop-state.invariant
