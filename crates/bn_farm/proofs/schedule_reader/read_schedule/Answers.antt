use Rattle.std.proofs.Common.{◌≡◌, ◌-◌, ◌<◌, length, arith, sym, subst, inl, inr}
use Rattle.bn_farm.specs.declared.event.Event.{Event}
use Rattle.bn_farm.proofs.ScheduleLemmas.{HasRead, board_missing, form_at, one_read, order_event, read_shorter}
use Rattle.bn_farm.proofs.ScheduleLemmas.{some_left}
use Rattle.bn_farm.proofs.schedule_reader.read_schedule.Goals.{then-order-eq0-via-then-order-eq0}
use Rattle.bn_farm.proofs.schedule_reader.read_schedule.Goals.{then-order-eq0-via-else-order-eq0+then-order-from}
use Rattle.bn_farm.proofs.schedule_reader.read_schedule.Goals as goal

pub returns-in_default-clause-refused : goal.returns-in_default-clause-refused
returns-in_default-clause-refused c =
    let count : c.len.result ≡ length c.loop-cursor.events.items =
    omega (arith, c.len.ensures, c.loop-cursor.events.ok.0) in
    form_at c.args.boards c.len.result c.args.bytes.now c.loop-cursor.cursor c.loop-cursor.events.items count
    c.loop-cursor.invariant
    (some_left c.loop-cursor.cursor c.is_at_end.result c.is_at_end.ensures c.loop-cursor-test.true) c.in_default.ensures

pub returns-then-order-eq0-clause-refused : goal.returns-then-order-eq0-clause-refused
returns-then-order-eq0-clause-refused c =
    let count : c.len.result ≡ length c.loop-cursor.events.items =
    omega (arith, c.len.ensures, c.loop-cursor.events.ok.0) in
    elim c.then-order-eq0.branch [
      | then-order-eq0-via-then-order-eq0 w ↦
          board_missing c.args.boards c.len.result c.args.bytes.now c.loop-cursor.cursor c.take_order.new.cursor
          c.loop-cursor.events.items c.in-Some.order count c.loop-cursor.invariant c.in-Some.ensures
          (inl (omega (arith, w.if-order-eq0.true)))
      | then-order-eq0-via-else-order-eq0+then-order-from w ↦
          board_missing c.args.boards c.len.result c.args.bytes.now c.loop-cursor.cursor c.take_order.new.cursor
          c.loop-cursor.events.items c.in-Some.order count c.loop-cursor.invariant c.in-Some.ensures
          (inr (omega (arith, w.if-order-from.true, w.from.ensures)))
    ]

pub loop-cursor-smaller : goal.loop-cursor-smaller
loop-cursor-smaller c = read_shorter c.loop-cursor.cursor c.take_order.new.cursor c.in-Some.order c.in-Some.ensures

pub loop-cursor-preserved : goal.loop-cursor-preserved
loop-cursor-preserved c =
    let some : 0 < c.in-Some.order.number = omega (arith, c.if-order-eq0.false) in
    let e : Event = record {
      forward = c.in-Some.order.forward;
      board = c.in-Some.order.number - 1;
      count = c.in-Some.order.count;
    } in
    let low : c.in-Some.order.number - 1 < c.args.boards = omega (arith, some, c.if-order-from.false, c.from.ensures) in
    subst (λ es. HasRead c.args.boards c.args.bytes.now es c.take_order.new.cursor) (sym c.in-Ok.ensures.items)
    (one_read c.args.boards c.args.bytes.now c.loop-cursor.cursor c.take_order.new.cursor c.loop-cursor.events.items e
    c.in-Some.order c.loop-cursor.invariant c.in-Some.ensures (order_event c.in-Some.order some) low)
