use Rattle.std.proofs.Common.{All, sym, subst}
use Rattle.std.proofs.lemmas.List.Elements.{All-push}
use Rattle.bn_control.specs.Controlled.{IsTapeAwaited}
use Rattle.bn_board.proofs.CopyLemmas.{copy_more}
use Rattle.bn_board.proofs.numbers.awaited_of.Goals as goal

pub loop-state-preserved : goal.loop-state-preserved
loop-state-preserved c = record {
  so_far = copy_more c.args.control.now.awaited c.loop-state.awaited.items c.push.new.self.items c.loop-state.state
      c.awaited.result
      c.loop-state.invariant.so_far c.awaited.ensures.kept c.in_ok-push.ensures.items;
  tapes = subst (All IsTapeAwaited) (sym c.in_ok-push.ensures.items)
      (All-push IsTapeAwaited c.loop-state.awaited.items c.awaited.result
      c.loop-state.invariant.tapes c.awaited.ensures.tape);
}
