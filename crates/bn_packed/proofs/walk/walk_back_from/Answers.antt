use Rattle.std.proofs.Common.{length, map, Some, ◌≡◌, ◌-◌, ◌∷◌, [], refl, sym, ap, subst, ◌∙◌, arith}
use Rattle.bn_circuits.specs.Circuits.{source}
use Rattle.bn_circuits.specs.Stepping.{line_before}
use Rattle.bn_circuits.specs.declared.place.Place.TheVariants.{Enter}
use Rattle.bn_circuits.specs.Watching.{Hears}
use Rattle.bn_circuits.specs.Walking.{HasWalkedBack}
use Rattle.bn_circuits.proofs.NetSteps.{first_by_line}
use Rattle.bn_circuits.specs.RotaryNets.{rotary_circuit}
use Rattle.bn_packed.specs.Numbers.{line_of}
use Rattle.bn_packed.specs.Ends.{behind}
use Rattle.bn_packed.specs.PackedNets.{config_at}
use Rattle.bn_packed.proofs.EndLemmas.{input_below}
use Rattle.bn_packed.proofs.StepLemmas.{walked_back_none}
use Rattle.bn_packed.proofs.NumberLemmas.{entered_line, entered_by, cell_read, cell_within, none_read, behind_none}
use Rattle.bn_packed.proofs.NumberLemmas.{entered_low, fed_low, back_low, number_back_more}
use Rattle.bn_packed.proofs.walk.walk_back_from.Goals as goal

pub cell_at-cell-requires : goal.cell_at-cell-requires
cell_at-cell-requires g c =
    let low = entered_low c.args.wiring.now.net c.behind-behind.ensures.circuit c.loop-made.bars c.loop-made.number
    (c.args.steps - c.loop-made.made)
    c.loop-made.invariant.good in
    cell_within (behind c.args.wiring.now.net.wires) g.C.Cell.tells c.behind-behind.result.now c.loop-made.number
    (length c.args.wiring.now.net.elements)
    c.behind-behind.ensures.ends low

pub loop-made-init : goal.loop-made-init
loop-made-init g c =
    let low = (input_below c.args.wiring.now.net.elements c.args.to c.requires.good.place).line in
    let here = entered_line c.args.to c.line_number-number.result low c.line_number-number.ensures in
    let same : c.args.steps - 0 ≡ c.args.steps = omega arith in
    subst (λ p. HasWalkedBack (rotary_circuit c.args.wiring.now.net)
    (config_at c.args.bars.now (Enter c.args.to.element c.args.to.line) c.args.steps)
    (config_at c.args.bars.now p (c.args.steps - 0)) 0 (g.W.Watch.told c.args.watch.now)
    (g.W.Watch.told c.args.watch.now)) here
    (walked_back_none (rotary_circuit c.args.wiring.now.net) c.args.bars.now (Enter c.args.to.element c.args.to.line)
    c.args.steps _ 0
    (g.W.Watch.told c.args.watch.now) c.requires.good (omega arith) refl)

pub line_of-requires : goal.line_of-requires
line_of-requires g c =
    let within = (input_below c.args.wiring.now.net.elements (line_of c.loop-made.number)
    c.loop-made.invariant.good.place).element in
    let few = c.behind-behind.ensures.few in
    omega arith

pub line_of-requires-2 : goal.line_of-requires-2
line_of-requires-2 g c =
    let within = (input_below c.args.wiring.now.net.elements (line_of c.loop-made.number)
    c.loop-made.invariant.good.place).element in
    let few = c.behind-behind.ensures.few in
    omega arith

pub returns-then-is_loose-clause-ended : goal.returns-then-is_loose-clause-ended
returns-then-is_loose-clause-ended g c fewer =
    let low = entered_low c.args.wiring.now.net c.behind-behind.ensures.circuit c.loop-made.bars c.loop-made.number
    (c.args.steps - c.loop-made.made)
    c.loop-made.invariant.good in
    let read = cell_read (behind c.args.wiring.now.net.wires) (map g.C.Cell.tells c.behind-behind.result.now)
    c.loop-made.number
    (length c.args.wiring.now.net.elements) (g.C.Cell.tells c.cell_at-cell.result) c.behind-behind.ensures.ends low
    c.cell_at-cell.ensures in
    let none = behind_none (source c.args.wiring.now.net.wires (line_of c.loop-made.number))
    (sym read ∙ none_read (g.C.Cell.tells c.cell_at-cell.result) (sym c.is_loose.ensures ∙ c.if-is_loose.true)) in
    first_by_line (rotary_circuit c.args.wiring.now.net) c.behind-behind.ensures.circuit
    (config_at c.loop-made.bars c.entering.result (c.args.steps - c.loop-made.made))
    (ap (line_before c.args.wiring.now.net.wires) (c.entering.ensures
    ∙ entered_by c.line_of.result c.loop-made.number c.line_of.ensures) ∙ none)

pub cross_back_at-number-requires : goal.cross_back_at-number-requires
cross_back_at-number-requires g c =
    let low = entered_low c.args.wiring.now.net c.behind-behind.ensures.circuit c.loop-made.bars c.loop-made.number
    (c.args.steps - c.loop-made.made)
    c.loop-made.invariant.good in
    let read = cell_read (behind c.args.wiring.now.net.wires) (map g.C.Cell.tells c.behind-behind.result.now)
    c.loop-made.number
    (length c.args.wiring.now.net.elements) (g.C.Cell.tells c.cell_at-cell.result) c.behind-behind.ensures.ends low
    c.cell_at-cell.ensures in
    let came : Some (line_of c.number-from.result) ≡ behind c.args.wiring.now.net.wires (line_of c.loop-made.number) =
    sym c.number-from.ensures ∙ read in
    fed_low c.args.wiring.now.net c.behind-behind.ensures.circuit c.loop-made.bars c.loop-made.number
    c.number-from.result (c.args.steps - c.loop-made.made)
    c.loop-made.invariant.good came

pub line_of-requires-in-loop-made : goal.line_of-requires-in-loop-made
line_of-requires-in-loop-made g c =
    let low = entered_low c.args.wiring.now.net c.behind-behind.ensures.circuit c.loop-made.bars c.loop-made.number
    (c.args.steps - c.loop-made.made)
    c.loop-made.invariant.good in
    let read = cell_read (behind c.args.wiring.now.net.wires) (map g.C.Cell.tells c.behind-behind.result.now)
    c.loop-made.number
    (length c.args.wiring.now.net.elements) (g.C.Cell.tells c.cell_at-cell.result) c.behind-behind.ensures.ends low
    c.cell_at-cell.ensures in
    let came : Some (line_of c.number-from.result) ≡ behind c.args.wiring.now.net.wires (line_of c.loop-made.number) =
    sym c.number-from.ensures ∙ read in
    let within = back_low c.args.wiring.now.net c.behind-behind.ensures.circuit c.loop-made.bars
    c.cross_back_at-number.new.self c.loop-made.number c.number-from.result
    c.cross_back_at-number.result came c.cross_back_at-number.ensures in
    let few = c.behind-behind.ensures.few in
    omega arith

pub loop-made-preserved : goal.loop-made-preserved
loop-made-preserved g c =
    let low = entered_low c.args.wiring.now.net c.behind-behind.ensures.circuit c.loop-made.bars c.loop-made.number
    (c.args.steps - c.loop-made.made)
    c.loop-made.invariant.good in
    let read = cell_read (behind c.args.wiring.now.net.wires) (map g.C.Cell.tells c.behind-behind.result.now)
    c.loop-made.number
    (length c.args.wiring.now.net.elements) (g.C.Cell.tells c.cell_at-cell.result) c.behind-behind.ensures.ends low
    c.cell_at-cell.ensures in
    let came : Some (line_of c.number-from.result) ≡ behind c.args.wiring.now.net.wires (line_of c.loop-made.number) =
    sym c.number-from.ensures ∙ read in
    number_back_more c.args.wiring.now.net c.behind-behind.ensures.circuit
    (config_at c.args.bars.now (Enter c.args.to.element c.args.to.line) c.args.steps)
    c.loop-made.bars c.cross_back_at-number.new.self c.loop-made.number c.number-from.result
    c.cross_back_at-number.result c.args.steps c.loop-made.made
    (g.W.Watch.told c.args.watch.now) (g.W.Watch.told c.loop-made.watch) (g.W.Watch.told c.enter.new.self)
    c.loop-made.invariant came c.cross_back_at-number.ensures (omega (arith, c.requires.counted, c.loop-made-test.true))
    (subst (λ p. Hears (g.W.Watch.told c.loop-made.watch) (p ∷ []) (g.W.Watch.told c.enter.new.self))
    (c.entering-in-loop-made.ensures ∙ entered_by c.line_of-in-loop-made.result c.cross_back_at-number.result
    c.line_of-in-loop-made.ensures) c.enter.ensures)

pub line_number-number-requires : goal.line_number-number-requires
line_number-number-requires g c = (input_below c.args.wiring.now.net.elements c.args.to c.requires.good.place).line
