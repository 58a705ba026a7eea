use Rattle.std.proofs.Common.{◌≡◌, ◌<◌, List, length, get_or, ap, subst, sym, arith}
use Rattle.bn_control.specs.declared.line.Line.TheVariants.{Outside}
use Rattle.bn_control.specs.declared.line.Sending.{Sending}
use Rattle.bn_control.specs.declared.name.StateName.TheVariants.{Begin}
use Rattle.bn_control.specs.Entries.{IsFirstSent}
use Rattle.bn_control.specs.Made.{IsSomeEntry, AreFirsts}
use Rattle.bn_control.proofs.DraftLemmas.{entry_at, one_first}
use Rattle.bn_control.proofs.draft.Draft.firsts.Goals as goal

-- what a look-up past the end gives
abbrev nothing : Sending
nothing = record { state = Begin; line = Outside }

pub first-requires : goal.first-requires
first-requires c =
    let low = subst (λ (l : List Sending). c.loop-entry.entry-index < length l) c.deref-entry-items.ensures.value
    c.loop-entry-test.true in
    let sent = entry_at c.requires.machine c.args.self.now c.requires.is c.loop-entry.entry-index nothing low in
    subst (λ (l : List Sending). IsSomeEntry c.args.self.now (get_or l c.loop-entry.entry-index nothing))
    (sym c.deref-entry-items.ensures.value)
    (record { machine = c.requires.machine; is = c.requires.is; state = c.loop-entry.entry-index; sent = sent })

pub loop-entry-preserved : goal.loop-entry-preserved
loop-entry-preserved c = record {
  firsts = λ m is.
      (let low = subst (λ (l : List Sending). c.loop-entry.entry-index < length l) c.deref-entry-items.ensures.value
      c.loop-entry-test.true in
      let sent = subst (λ (l : List Sending). IsFirstSent m c.loop-entry.entry-index
      (get_or l c.loop-entry.entry-index nothing)) (sym c.deref-entry-items.ensures.value)
      (entry_at m c.args.self.now is c.loop-entry.entry-index nothing low) in
      one_first m c.args.self.now.states.items c.loop-entry.entry-index c.loop-entry.firsts.items c.push.new.self.items
      c.first.result c.in_ok-push.ensures.items (c.first.ensures m c.loop-entry.entry-index is sent)
      (c.loop-entry.invariant.firsts m is));
}

pub returns : goal.returns
returns c = λ m is.
    let past = c.loop-entry-test.false in
    let end = c.loop-entry.auto.entry-index-end in
    let same = ap length c.deref-entry-items.ensures.value in
    let count = is.entries.counted in
    let all : c.loop-entry.entry-index ≡ m.states = omega arith in
    subst (λ n. AreFirsts m c.args.self.now.states.items n c.loop-entry.firsts.items) all
    (c.loop-entry.invariant.firsts m is)
