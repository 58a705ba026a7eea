use Rattle.std.proofs.Common.{length, map, Some, None, ◌≡◌, ◌+◌, ◌-◌, ◌∷◌, [], refl, sym, ap, subst, ◌∙◌, arith, not}
use Rattle.bn_circuits.specs.Circuits.{place_at}
use Rattle.bn_circuits.specs.declared.line.Line.{Line}
use Rattle.bn_circuits.specs.declared.place.Place.TheVariants.{Left}
use Rattle.bn_circuits.specs.Watching.{Hears}
use Rattle.bn_circuits.specs.RotaryNets.{rotary_circuit}
use Rattle.bn_packed.specs.PackedNets.{config_at}
use Rattle.bn_packed.specs.Numbers.{line_of}
use Rattle.bn_packed.specs.Ends.{IsLineBelow, opposite, ahead}
use Rattle.bn_packed.proofs.EndLemmas.{input_below}
use Rattle.bn_packed.proofs.NumberLemmas.{entered, entered_line, entered_by, cell_read, cell_within, none_read}
use Rattle.bn_packed.proofs.NumberLemmas.{crossed_low, led_low, number_more}
use Rattle.bn_packed.proofs.StepLemmas.{IsOnWay, way_none, entering_below}
use Rattle.bn_packed.proofs.walk.walk_until.Given.{Over}
use Rattle.bn_packed.proofs.walk.walk_until.Goals as goal

stays : (g : Over) (c : goal.In_default g)
    → IsOnWay (rotary_circuit c.args.wiring.now.net) (g.S.Stop.stops c.args.stop.now)
    (config_at c.args.bars.now c.args.signal.place c.args.signal.steps)
    (config_at c.args.bars.now c.args.signal.place c.args.signal.steps) (c.args.signal.steps - c.args.signal.steps)
    (g.W.Watch.told c.args.watch.now) (g.W.Watch.told c.args.watch.now)
stays g c =
    way_none (rotary_circuit c.args.wiring.now.net) (g.S.Stop.stops c.args.stop.now) c.args.bars.now c.args.signal.place
    c.args.signal.place c.args.signal.steps c.args.signal.steps _
    (g.W.Watch.told c.args.watch.now)
    c.requires.good refl refl (omega arith)

pub returns-in_default-clause-walked : goal.returns-in_default-clause-walked
returns-in_default-clause-walked g c = (stays g c).walked

pub returns-in_default-clause-between : goal.returns-in_default-clause-between
returns-in_default-clause-between g c = (stays g c).between

pub loop-made-init : goal.loop-made-init
loop-made-init g c =
    let low = (entering_below c.args.wiring.now.net (config_at c.args.bars.now c.args.signal.place c.args.signal.steps)
    c.in-Enter.element c.in-Enter.line
    c.requires.good c.in-Enter.is).1 in
    record {
      way = way_none (rotary_circuit c.args.wiring.now.net) (g.S.Stop.stops c.args.stop.now) c.args.bars.now
          c.args.signal.place (entered c.line_number-number.result)
          c.args.signal.steps _ 0
          (g.W.Watch.told c.args.watch.now)
          c.requires.good
          (c.in-Enter.is ∙ entered_line (record { element = c.in-Enter.element; line = c.in-Enter.line })
          c.line_number-number.result low c.line_number-number.ensures)
          (omega arith) refl;
      calm = λ some. absurd (omega arith);
    }

pub cross-from-requires : goal.cross-from-requires
cross-from-requires g c =
    (entering_below c.args.wiring.now.net (config_at c.loop-made.bars (entered c.loop-made.number)
    (c.args.signal.steps + c.loop-made.made))
    (line_of c.loop-made.number).element (line_of c.loop-made.number).line c.loop-made.invariant.way.walked.good refl).0

low_from : (g : Over) (c : goal.After-cross-from g) → IsLineBelow (length c.args.wiring.now.net.elements)
    (line_of c.cross-from.result)
low_from g c =
    crossed_low c.args.wiring.now.net c.ahead-ahead.ensures.circuit c.loop-made.bars c.cross-from.new.self
    c.loop-made.number c.cross-from.result
    (c.args.signal.steps + c.loop-made.made) c.loop-made.invariant.way.walked.good c.cross-from.ensures

pub cell_at-cell-requires : goal.cell_at-cell-requires
cell_at-cell-requires g c =
    cell_within (ahead c.args.wiring.now.net.wires) g.C.Cell.tells c.ahead-ahead.result.now c.cross-from.result
    (length c.args.wiring.now.net.elements)
    c.ahead-ahead.ensures.ends (low_from g c)

pub returns-then-is_loose-clause-walked : goal.returns-then-is_loose-clause-walked
returns-then-is_loose-clause-walked g c =
    let low = crossed_low c.args.wiring.now.net c.ahead-ahead.ensures.circuit c.loop-made.bars c.cross-from.new.self
    c.loop-made.number c.cross-from.result
    (c.args.signal.steps + c.loop-made.made) c.loop-made.invariant.way.walked.good c.cross-from.ensures in
    let read = cell_read (ahead c.args.wiring.now.net.wires) (map g.C.Cell.tells c.ahead-ahead.result.now)
    c.cross-from.result
    (length c.args.wiring.now.net.elements) (g.C.Cell.tells c.cell_at-cell.result) c.ahead-ahead.ensures.ends low
    c.cell_at-cell.ensures in
    let none : None ≡ ahead c.args.wiring.now.net.wires (line_of c.cross-from.result) =
    sym (none_read (g.C.Cell.tells c.cell_at-cell.result) (sym c.is_loose.ensures ∙ c.if-is_loose.true)) ∙ read in
    let then = c.left_by-place.ensures ∙ ap (λ (l : Line). Left l.element l.line)
    (c.opposite.ensures ∙ ap opposite c.line_of.ensures)
    ∙ ap (λ o. place_at o (opposite (line_of c.cross-from.result))) none in
    (number_more c.args.wiring.now.net c.ahead-ahead.ensures.circuit (g.S.Stop.stops c.args.stop.now)
    (config_at c.args.bars.now c.args.signal.place c.args.signal.steps) c.loop-made.bars c.cross-from.new.self
    c.left_by-place.result c.loop-made.number c.cross-from.result
    c.args.signal.steps c.loop-made.made _ _ (g.W.Watch.told c.args.watch.now) (g.W.Watch.told c.loop-made.watch)
    (g.W.Watch.told c.enter.new.self)
    c.loop-made.invariant.way c.loop-made.invariant.calm c.cross-from.ensures then
    (omega (arith, c.requires.room, c.loop-made-test.true)) (omega arith) (omega arith) c.enter.ensures).walked

pub returns-then-is_loose-clause-between : goal.returns-then-is_loose-clause-between
returns-then-is_loose-clause-between g c =
    let low = crossed_low c.args.wiring.now.net c.ahead-ahead.ensures.circuit c.loop-made.bars c.cross-from.new.self
    c.loop-made.number c.cross-from.result
    (c.args.signal.steps + c.loop-made.made) c.loop-made.invariant.way.walked.good c.cross-from.ensures in
    let read = cell_read (ahead c.args.wiring.now.net.wires) (map g.C.Cell.tells c.ahead-ahead.result.now)
    c.cross-from.result
    (length c.args.wiring.now.net.elements) (g.C.Cell.tells c.cell_at-cell.result) c.ahead-ahead.ensures.ends low
    c.cell_at-cell.ensures in
    let none : None ≡ ahead c.args.wiring.now.net.wires (line_of c.cross-from.result) =
    sym (none_read (g.C.Cell.tells c.cell_at-cell.result) (sym c.is_loose.ensures ∙ c.if-is_loose.true)) ∙ read in
    let then = c.left_by-place.ensures ∙ ap (λ (l : Line). Left l.element l.line)
    (c.opposite.ensures ∙ ap opposite c.line_of.ensures)
    ∙ ap (λ o. place_at o (opposite (line_of c.cross-from.result))) none in
    (number_more c.args.wiring.now.net c.ahead-ahead.ensures.circuit (g.S.Stop.stops c.args.stop.now)
    (config_at c.args.bars.now c.args.signal.place c.args.signal.steps) c.loop-made.bars c.cross-from.new.self
    c.left_by-place.result c.loop-made.number c.cross-from.result
    c.args.signal.steps c.loop-made.made _ _ (g.W.Watch.told c.args.watch.now) (g.W.Watch.told c.loop-made.watch)
    (g.W.Watch.told c.enter.new.self)
    c.loop-made.invariant.way c.loop-made.invariant.calm c.cross-from.ensures then
    (omega (arith, c.requires.room, c.loop-made-test.true)) (omega arith) (omega arith) c.enter.ensures).between

pub line_of-at_line-requires : goal.line_of-at_line-requires
line_of-at_line-requires g c =
    let low = crossed_low c.args.wiring.now.net c.ahead-ahead.ensures.circuit c.loop-made.bars c.cross-from.new.self
    c.loop-made.number c.cross-from.result
    (c.args.signal.steps + c.loop-made.made) c.loop-made.invariant.way.walked.good c.cross-from.ensures in
    let read = cell_read (ahead c.args.wiring.now.net.wires) (map g.C.Cell.tells c.ahead-ahead.result.now)
    c.cross-from.result
    (length c.args.wiring.now.net.elements) (g.C.Cell.tells c.cell_at-cell.result) c.ahead-ahead.ensures.ends low
    c.cell_at-cell.ensures in
    let leads : Some (line_of c.number-to.result) ≡ ahead c.args.wiring.now.net.wires (line_of c.cross-from.result) =
    sym c.number-to.ensures ∙ read in
    let within = led_low c.args.wiring.now.net c.ahead-ahead.ensures.circuit c.cross-from.result c.number-to.result
    leads in
    let few = c.ahead-ahead.ensures.few in
    omega arith

pub returns-then-stops-clause-walked : goal.returns-then-stops-clause-walked
returns-then-stops-clause-walked g c =
    let low = crossed_low c.args.wiring.now.net c.ahead-ahead.ensures.circuit c.loop-made.bars c.cross-from.new.self
    c.loop-made.number c.cross-from.result
    (c.args.signal.steps + c.loop-made.made) c.loop-made.invariant.way.walked.good c.cross-from.ensures in
    let read = cell_read (ahead c.args.wiring.now.net.wires) (map g.C.Cell.tells c.ahead-ahead.result.now)
    c.cross-from.result
    (length c.args.wiring.now.net.elements) (g.C.Cell.tells c.cell_at-cell.result) c.ahead-ahead.ensures.ends low
    c.cell_at-cell.ensures in
    let leads : Some (line_of c.number-to.result) ≡ ahead c.args.wiring.now.net.wires (line_of c.cross-from.result) =
    sym c.number-to.ensures ∙ read in
    let here = entered_by c.line_of-at_line.result c.number-to.result c.line_of-at_line.ensures in
    let then = c.entering-then-stops.ensures ∙ here ∙ ap (λ o. place_at o (opposite (line_of c.cross-from.result)))
    leads in
    let hears = subst (λ p. Hears (g.W.Watch.told c.loop-made.watch) (p ∷ [])
    (g.W.Watch.told c.enter-in-loop-made.new.self))
    (c.entering.ensures ∙ sym c.entering-then-stops.ensures) c.enter-in-loop-made.ensures in
    (number_more c.args.wiring.now.net c.ahead-ahead.ensures.circuit (g.S.Stop.stops c.args.stop.now)
    (config_at c.args.bars.now c.args.signal.place c.args.signal.steps) c.loop-made.bars c.cross-from.new.self
    c.entering-then-stops.result c.loop-made.number c.cross-from.result
    c.args.signal.steps c.loop-made.made _ _ (g.W.Watch.told c.args.watch.now) (g.W.Watch.told c.loop-made.watch)
    (g.W.Watch.told c.enter-in-loop-made.new.self)
    c.loop-made.invariant.way c.loop-made.invariant.calm c.cross-from.ensures then
    (omega (arith, c.requires.room, c.loop-made-test.true)) (omega arith) (omega arith) hears).walked

pub returns-then-stops-clause-between : goal.returns-then-stops-clause-between
returns-then-stops-clause-between g c =
    let low = crossed_low c.args.wiring.now.net c.ahead-ahead.ensures.circuit c.loop-made.bars c.cross-from.new.self
    c.loop-made.number c.cross-from.result
    (c.args.signal.steps + c.loop-made.made) c.loop-made.invariant.way.walked.good c.cross-from.ensures in
    let read = cell_read (ahead c.args.wiring.now.net.wires) (map g.C.Cell.tells c.ahead-ahead.result.now)
    c.cross-from.result
    (length c.args.wiring.now.net.elements) (g.C.Cell.tells c.cell_at-cell.result) c.ahead-ahead.ensures.ends low
    c.cell_at-cell.ensures in
    let leads : Some (line_of c.number-to.result) ≡ ahead c.args.wiring.now.net.wires (line_of c.cross-from.result) =
    sym c.number-to.ensures ∙ read in
    let here = entered_by c.line_of-at_line.result c.number-to.result c.line_of-at_line.ensures in
    let then = c.entering-then-stops.ensures ∙ here ∙ ap (λ o. place_at o (opposite (line_of c.cross-from.result)))
    leads in
    let hears = subst (λ p. Hears (g.W.Watch.told c.loop-made.watch) (p ∷ [])
    (g.W.Watch.told c.enter-in-loop-made.new.self))
    (c.entering.ensures ∙ sym c.entering-then-stops.ensures) c.enter-in-loop-made.ensures in
    (number_more c.args.wiring.now.net c.ahead-ahead.ensures.circuit (g.S.Stop.stops c.args.stop.now)
    (config_at c.args.bars.now c.args.signal.place c.args.signal.steps) c.loop-made.bars c.cross-from.new.self
    c.entering-then-stops.result c.loop-made.number c.cross-from.result
    c.args.signal.steps c.loop-made.made _ _ (g.W.Watch.told c.args.watch.now) (g.W.Watch.told c.loop-made.watch)
    (g.W.Watch.told c.enter-in-loop-made.new.self)
    c.loop-made.invariant.way c.loop-made.invariant.calm c.cross-from.ensures then
    (omega (arith, c.requires.room, c.loop-made-test.true)) (omega arith) (omega arith) hears).between

pub loop-made-preserved : goal.loop-made-preserved
loop-made-preserved g c =
    let low = crossed_low c.args.wiring.now.net c.ahead-ahead.ensures.circuit c.loop-made.bars c.cross-from.new.self
    c.loop-made.number c.cross-from.result
    (c.args.signal.steps + c.loop-made.made) c.loop-made.invariant.way.walked.good c.cross-from.ensures in
    let read = cell_read (ahead c.args.wiring.now.net.wires) (map g.C.Cell.tells c.ahead-ahead.result.now)
    c.cross-from.result
    (length c.args.wiring.now.net.elements) (g.C.Cell.tells c.cell_at-cell.result) c.ahead-ahead.ensures.ends low
    c.cell_at-cell.ensures in
    let leads : Some (line_of c.number-to.result) ≡ ahead c.args.wiring.now.net.wires (line_of c.cross-from.result) =
    sym c.number-to.ensures ∙ read in
    let here = entered_by c.line_of-at_line.result c.number-to.result c.line_of-at_line.ensures in
    let hears = subst (λ p. Hears (g.W.Watch.told c.loop-made.watch) (p ∷ [])
    (g.W.Watch.told c.enter-in-loop-made.new.self))
    (c.entering.ensures ∙ here) c.enter-in-loop-made.ensures in
    record {
      way = (number_more c.args.wiring.now.net c.ahead-ahead.ensures.circuit (g.S.Stop.stops c.args.stop.now)
          (config_at c.args.bars.now c.args.signal.place c.args.signal.steps) c.loop-made.bars c.cross-from.new.self
          (entered c.number-to.result) c.loop-made.number c.cross-from.result
          c.args.signal.steps c.loop-made.made _ _ (g.W.Watch.told c.args.watch.now) (g.W.Watch.told c.loop-made.watch)
          (g.W.Watch.told c.enter-in-loop-made.new.self)
          c.loop-made.invariant.way c.loop-made.invariant.calm c.cross-from.ensures
          (ap (λ o. place_at o (opposite (line_of c.cross-from.result))) leads)
          (omega (arith, c.requires.room, c.loop-made-test.true)) (omega arith) refl hears);
      calm = λ some. ap not (sym (c.stops.ensures ∙ ap (g.S.Stop.stops c.args.stop.now) c.line_of-at_line.ensures)
          ∙ c.if-stops.false);
    }

pub line_of-requires-2 : goal.line_of-requires-2
line_of-requires-2 g c =
    let within = (input_below c.args.wiring.now.net.elements (line_of c.loop-made.number)
    c.loop-made.invariant.way.walked.good.place).element in
    let few = c.ahead-ahead.ensures.few in
    omega arith

pub line_number-number-requires : goal.line_number-number-requires
line_number-number-requires g c =
    (entering_below c.args.wiring.now.net (config_at c.args.bars.now c.args.signal.place c.args.signal.steps)
    c.in-Enter.element c.in-Enter.line
    c.requires.good c.in-Enter.is).1

pub line_of-requires : goal.line_of-requires
line_of-requires g c =
    let within = (crossed_low c.args.wiring.now.net c.ahead-ahead.ensures.circuit c.loop-made.bars
    c.cross-from.new.self c.loop-made.number c.cross-from.result
    (c.args.signal.steps + c.loop-made.made) c.loop-made.invariant.way.walked.good c.cross-from.ensures).element in
    let few = c.ahead-ahead.ensures.few in
    omega arith
