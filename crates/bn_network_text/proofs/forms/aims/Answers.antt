use Rattle.std.proofs.Common.{◌+◌, length, arith, ap, sym, subst, rules, [], ◌∷◌}
use Rattle.std.proofs.lemmas.List.{length-append}
use Rattle.bn_base.specs.declared.limits.TheConstants.{MOST_COUNT}
use Rattle.bn_netlist_laws.specs.Reading.{Takes}
use Rattle.bn_network_text.specs.Saying.{aim_taken}
use Rattle.bn_network_text.proofs.AimLemmas.{AreRead, read_begins, read_ends, read_too_many, read_more, read_stops}
use Rattle.bn_network_text.proofs.forms.aims.Goals as goal

pub loop-init : goal.loop-init
loop-init c = record {
  read = subst (λ xs. AreRead MOST_COUNT c.args.cursor.now xs 0 c.args.cursor.now) (sym c.new-aims.ensures.items)
      (read_begins MOST_COUNT c.args.cursor.now);
  few = let none = ap length c.new-aims.ensures.items in omega arith;
}

pub returns-then-is_at_end-clause-aims : goal.returns-then-is_at_end-clause-aims
returns-then-is_at_end-clause-aims c =
    sym (read_ends MOST_COUNT c.loop.counter c.args.cursor.now c.loop.cursor c.loop.aims.items (search rules)
    c.loop.invariant.read)

pub returns-in_default-clause-aims : goal.returns-in_default-clause-aims
returns-in_default-clause-aims c =
    let bad = subst (λ r. Takes r c.aim.new.cursor (aim_taken c.loop.cursor)) c.in_default.is c.aim.ensures in
    sym (read_stops MOST_COUNT c.loop.counter c.args.cursor.now c.loop.cursor c.loop.aims.items
    (omega (arith, c.loop-test.true)) (search rules) bad c.loop.invariant.read)

pub loop-preserved : goal.loop-preserved
loop-preserved c =
    let taken = subst (λ r. Takes r c.aim.new.cursor (aim_taken c.loop.cursor)) c.in-Some.is c.aim.ensures in
    record {
      read = subst (λ xs. AreRead MOST_COUNT c.args.cursor.now xs (c.loop.counter + 1) c.aim.new.cursor)
          (sym c.in_ok-push.ensures.items)
          (read_more MOST_COUNT c.loop.counter c.args.cursor.now c.loop.cursor c.aim.new.cursor c.loop.aims.items
          c.in-Some.next (omega (arith, c.loop-test.true)) (search rules) taken c.loop.invariant.read);
      few = let items = ap length c.in_ok-push.ensures.items in
          let sum = length-append c.loop.aims.items (c.in-Some.next ∷ []) in
          let before = c.loop.invariant.few in
          omega arith;
    }

pub returns-then-is_at_end-2-clause-aims : goal.returns-then-is_at_end-2-clause-aims
returns-then-is_at_end-2-clause-aims c =
    sym (read_ends MOST_COUNT c.loop.counter c.args.cursor.now c.loop.cursor c.loop.aims.items (search rules)
    c.loop.invariant.read)

pub returns-clause-aims : goal.returns-clause-aims
returns-clause-aims c =
    sym (read_too_many MOST_COUNT c.args.cursor.now c.loop.cursor c.loop.aims.items c.loop.counter
    (omega (arith, c.loop-test.false, c.loop.auto.counter-end)) (search rules) c.loop.invariant.read)
