use Rattle.std.proofs.Common.{◌≡◌, ◌<◌, List, length, get_or, take, ap, subst, sym, ◌∙◌, arith, All}
use Rattle.std.proofs.Math.Seq.{take-length}
use Rattle.std.proofs.lemmas.List.Elements.{All-push}
use Rattle.bn_control.specs.Controlled.{IsTapeAwaited}
use Rattle.bn_network.specs.Controls.{Occurs}
use Rattle.bn_control.specs.declared.name.StateName.{StateName}
use Rattle.bn_control.specs.declared.name.StateName.TheVariants.{Begin}
use Rattle.bn_control.specs.Names.{state_of, IsProper}
use Rattle.bn_control.specs.Made.{OccursInDraft, AreAwaited, TellsAwaited}
use Rattle.bn_control.proofs.DraftLemmas.{state_at, one_awaited}
use Rattle.bn_control.proofs.draft.Draft.awaited.Goals as goal

pub awaited_by-requires : goal.awaited_by-requires
awaited_by-requires c =
    let low = subst (λ (l : List StateName). c.loop-state.state-index < length l) c.deref-state-items.ensures.value
    c.loop-state-test.true in
    let at = state_at c.requires.machine c.args.self.now c.requires.is c.loop-state.state-index Begin low in
    subst (λ (l : List StateName). OccursInDraft c.args.self.now (get_or l c.loop-state.state-index Begin))
    (sym c.deref-state-items.ensures.value)
    (record { machine = c.requires.machine; is = c.requires.is; occurs = at.0; proper = at.1 })

pub loop-state-preserved : goal.loop-state-preserved
loop-state-preserved c = record {
  awaited = λ m is.
      (let value = c.deref-state-items.ensures.value in
      let low = subst (λ (l : List StateName). c.loop-state.state-index < length l) value c.loop-state-test.true in
      let at = state_at m c.args.self.now is c.loop-state.state-index Begin low in
      let occurs = subst (λ (l : List StateName). Occurs m (state_of (get_or l c.loop-state.state-index Begin)))
      (sym value) at.0 in
      let proper = subst (λ (l : List StateName). IsProper (get_or l c.loop-state.state-index Begin)) (sym value)
      at.1 in
      let tells = subst (λ (l : List StateName). TellsAwaited m (state_of (get_or l c.loop-state.state-index Begin))
      c.awaited_by.result) value (c.awaited_by.ensures.tells m is occurs proper) in
      one_awaited m c.args.self.now.states.items c.loop-state.state-index Begin c.loop-state.awaited.items
      c.push.new.self.items c.awaited_by.result low c.in_ok-push.ensures.items tells
      (c.loop-state.invariant.awaited m is));
  tapes = subst (All IsTapeAwaited) (sym c.in_ok-push.ensures.items)
      (All-push IsTapeAwaited c.loop-state.awaited.items c.awaited_by.result c.loop-state.invariant.tapes
      c.awaited_by.ensures.tape);
}

pub returns-clause-awaited : goal.returns-clause-awaited
returns-clause-awaited c = λ m is.
    let past = c.loop-state-test.false in
    let end = c.loop-state.auto.state-index-end in
    let same = ap length c.deref-state-items.ensures.value in
    let all : c.loop-state.state-index ≡ length c.args.self.now.states.items = omega arith in
    let whole : take c.loop-state.state-index c.args.self.now.states.items ≡ c.args.self.now.states.items =
    ap (λ n. take n c.args.self.now.states.items) all ∙ take-length c.args.self.now.states.items in
    subst (λ (l : List StateName). AreAwaited m l c.loop-state.awaited.items) whole
    (c.loop-state.invariant.awaited m is)
