use Rattle.std.proofs.Common.{◌≡◌, ◌∙◌, ◌+◌, ◌-◌, ◌<◌, ◌/◌, ◌%◌, ap, subst, sym, map, Option, Some, None, slice_get}
use Rattle.std.proofs.lemmas.Option.{same_Some}
use Rattle.bn_quad.specs.Quadruples.{Quadruples}
use Rattle.bn_network_laws.specs.Stops.{symbols_before}
use Rattle.bn_machine.specs.Tape.{scanned}
use Rattle.bn_network.specs.Controls.{IsNumbering, Reads, lines_before, symbol_count}
use Rattle.bn_network_laws.specs.Ends.{tape_of}
use Rattle.bn_control.specs.Names.{state_of}
use Rattle.bn_reply_builds.specs.declared.awaited.Read.{Read}
use Rattle.bn_reply_builds.specs.declared.outcome.Outcome.TheVariants as outcome
use Rattle.bn_reply_builds.proofs.AwaitLemmas.{answered, awaits, by_rows, symbol_low}
use Rattle.bn_reply_builds.proofs.outcome.stuck_by.Goals as goal

pub returns-in-Some-clause-stuck : goal.returns-in-Some-clause-stuck
returns-in-Some-clause-stuck c = λ f d is same left.
    let m = c.args.machine.now in
    let element = c.args.element in
    let shown = c.args.shown.now in
    let names = map state_of c.in_ok-names.names.items in
    let rows = c.control_rows-rows.result in
    let numbering : IsNumbering m names =
    subst (λ x. IsNumbering x names) c.machine.ensures.value c.in_ok-names.ensures in
    let count : rows ≡ lines_before m.symbols 3 + 1 =
    c.control_rows-rows.ensures.rows ∙ ap (λ (x : Quadruples). lines_before x.symbols 3 + 1) c.machine-2.ensures.value
    in
    let place = by_rows m f is same element shown d left rows count in
    let awaited : slice_get (map state_of c.as_slice.result.now) (element / rows) ≡ Some
    (Reads d.state (symbols_before left.rule left.tape)) =
    (λ i. slice_get (map state_of (c.as_slice.ensures.value i)) (place.0 i))
    ∙ awaits m f is same element shown d left names numbering in
    let found = c.in-Some.ensures d.state (symbols_before left.rule left.tape) awaited in
    let read_is = same_Some c.in-Some.read (record { state = d.state; before = found.0 }) found.2 in
    let symbol = scanned (tape_of d left.tape) in
    let low : symbol < symbol_count c.machine-in-Some.result.now left.tape =
    subst (λ (x : Quadruples). symbol < symbol_count x left.tape) (sym c.machine-in-Some.ensures.value)
    (symbol_low m f is same element shown d left) in
    let line : element % rows ≡ lines_before c.machine-in-Some.result.now.symbols (left.tape - 1) + symbol =
    place.1 ∙ ap (λ (x : Quadruples). lines_before x.symbols (left.tape - 1) + symbol)
    (sym c.machine-in-Some.ensures.value) in
    let answer_is = c.answer_at-answer.ensures left.tape symbol left.is_tape low line in
    ap (λ s. outcome.Stuck s)
    (c.stop_of.ensures f.limits d
    (answered m f is same element shown d left c.in-Some.read c.answer_at-answer.result found.0 found.1 read_is
    answer_is))

pub returns-clause-stuck : goal.returns-clause-stuck
returns-clause-stuck c = λ f d is same left.
    let m = c.args.machine.now in
    let element = c.args.element in
    let shown = c.args.shown.now in
    let names = map state_of c.in_ok-names.names.items in
    let rows = c.control_rows-rows.result in
    let numbering : IsNumbering m names =
    subst (λ x. IsNumbering x names) c.machine.ensures.value c.in_ok-names.ensures in
    let count : rows ≡ lines_before m.symbols 3 + 1 =
    c.control_rows-rows.ensures.rows ∙ ap (λ (x : Quadruples). lines_before x.symbols 3 + 1) c.machine-2.ensures.value
    in
    let place = by_rows m f is same element shown d left rows count in
    let awaited : slice_get (map state_of c.as_slice.result.now) (element / rows) ≡ Some
    (Reads d.state (symbols_before left.rule left.tape)) =
    (λ i. slice_get (map state_of (c.as_slice.ensures.value i)) (place.0 i))
    ∙ awaits m f is same element shown d left names numbering in
    let found = c.in-None.ensures d.state (symbols_before left.rule left.tape) awaited in
    absurd (let both : ◌≡◌ {A = Option Read} None (Some (record { state = d.state; before = found.0 })) = found.2 in cc)
