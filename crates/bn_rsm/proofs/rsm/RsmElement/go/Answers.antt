use Rattle.std.proofs.Common.{◌≡◌, ◌≤◌, ◌-◌, Some, slice_get, length, sym, ap, subst, arith}
use Rattle.std.proofs.lemmas.Option.{slice_get_within}
use Rattle.bn_rsm.specs.Machines.{Machine}
use Rattle.bn_rsm.proofs.NumberLemmas.{move_from, no_move_from}
use Rattle.bn_rsm.proofs.rsm.RsmElement.go.Goals as goal

pub returns-in_err-number : goal.returns-in_err-number
returns-in_err-number c =
    let m = c.self.inside in
    let none = no_move_from m.index.from m.index.to m.moves.items c.self.invariant.numbers c.args.state c.args.line
    c.in_err-number.ensures.value in
    let same : m.moves.items ≡ c.args.self.now.moves = ap (λ v. v.moves) c.self.view_is in
    rw (c.from_residual.ensures, ← same) (sym none)

pub move_at-step-requires : goal.move_at-step-requires
move_at-step-requires c =
    let m = c.self.inside in
    let found = move_from m.index.from m.index.to m.moves.items c.self.invariant.numbers c.args.state c.args.line
    c.in_ok-number.field-0.now c.in_ok-number.ensures.value in
    let within = slice_get_within m.moves.items (c.in_ok-number.field-0.now - 1) found.found found.stands in
    let high : c.in_ok-number.field-0.now ≤ length m.moves.items = omega (arith, within, found.low) in
    (found.low, subst (λ (v : Machine). c.in_ok-number.field-0.now ≤ length v.moves) c.self.view_is high)

pub returns : goal.returns
returns c =
    let m = c.self.inside in
    let found = move_from m.index.from m.index.to m.moves.items c.self.invariant.numbers c.args.state c.args.line
    c.in_ok-number.field-0.now c.in_ok-number.ensures.value in
    let same : m.moves.items ≡ c.args.self.now.moves = ap (λ v. v.moves) c.self.view_is in
    let stands : slice_get m.moves.items (c.in_ok-number.field-0.now - 1) ≡ Some c.move_at-step.result =
    rw same c.move_at-step.ensures in
    let step : found.found ≡ c.move_at-step.result = (let there = found.stands in cc) in
    rw (← same, ← step) (sym found.goes)
