use Rattle.std.proofs.Common.{◌≡◌, ◌+◌, ◌∙◌, arith, sym, subst, refl, length, nat_lt, true, false}
use Rattle.std.specs.Prelude.{◌||◌}
use Rattle.std.proofs.lemmas.Result.{err_from_is_err_and}
use Rattle.bn_network_text.specs.Faults.{count_in}
use Rattle.bn_network_text.specs.declared.fault.NetworkFault.TheVariants.{Syntax}
use Rattle.bn_network_text.specs.declared.fault.NetworkRefusal.TheVariants.{Line}
use Rattle.bn_network_text.proofs.FaultLemmas.{AreClear, clear_header, clear_module, module_first, last_first}
use Rattle.bn_network_text.proofs.FaultLemmas.{all_clear}
use Rattle.bn_network_text.proofs.DrawnLemmas.{same_drawing}
use Rattle.bn_network_text.proofs.read.network_of.Goals as goal

pub loop-number-init : goal.loop-number-init
loop-number-init c = record {
  draft = c.new-draft.ensures c.args.page.now;
  clear = clear_header c.args.shapes.now c.args.page.now c.in_ok-header.ensures.faultless;
}

pub returns-in_err-take-clause-refused : goal.returns-in_err-take-clause-refused
returns-in_err-take-clause-refused c =
    let p = err_from_is_err_and c.from_residual-in_err-take.result c.from_residual-in_err-take.ensures.1 in
    let count = c.in_ok-header.ensures.header.count_is in
    rw (p.1, p.2) (module_first c.args.shapes.now c.args.page.now c.loop-number.number _
    (omega (arith, c.loop-number-test.true, count)) c.in_err-take.ensures.refused c.loop-number.invariant.clear)

pub loop-number-preserved : goal.loop-number-preserved
loop-number-preserved c =
    let count = c.in_ok-header.ensures.header.count_is in
    record {
      draft = c.in_ok-take.ensures.draft;
      clear = clear_module c.args.shapes.now c.args.page.now c.loop-number.number
          (omega (arith, c.loop-number-test.true, count)) c.in_ok-take.ensures.faultless c.loop-number.invariant.clear;
    }

pub returns-then-goes_on-clause-refused : goal.returns-then-goes_on-clause-refused
returns-then-goes_on-clause-refused c =
    let count = c.in_ok-header.ensures.header.count_is in
    let all : c.loop-number.number ≡ count_in c.args.page.now.says =
    omega (arith, c.loop-number-test.false, c.loop-number.auto.number-end, count) in
    let clear = subst (λ n. AreClear c.args.shapes.now c.args.page.now (n + 5)) all c.loop-number.invariant.clear in
    let more = subst (λ n. (nat_lt (n + 5) (length c.args.page.now.says) || c.args.page.now.more) ≡ true) count
    (sym c.goes_on.ensures ∙ c.if-goes_on.true) in
    last_first c.args.shapes.now c.args.page.now (c.from.result + 1) (Line (c.from.result + 1) Syntax)
    more (let from = c.from.ensures in omega (arith, from, count)) refl clear

pub returns-clause-network : goal.returns-clause-network
returns-clause-network c =
    let count = c.in_ok-header.ensures.header.count_is in
    let all : c.loop-number.number ≡ count_in c.args.page.now.says =
    omega (arith, c.loop-number-test.false, c.loop-number.auto.number-end, count) in
    let clear = subst (λ n. AreClear c.args.shapes.now c.args.page.now (n + 5)) all c.loop-number.invariant.clear in
    let none = subst (λ n. (nat_lt (n + 5) (length c.args.page.now.says) || c.args.page.now.more) ≡ false) count
    (sym c.goes_on.ensures ∙ c.if-goes_on.false) in
    record {
      faultless = all_clear c.args.shapes.now c.args.page.now none clear;
      drawing = same_drawing c.args.page.now c.loop-number.number _ _ _ _ _ all
          c.loop-number.invariant.draft.modules_are c.loop-number.invariant.draft.wires_are
          c.in_ok-header.ensures.start c.in_ok-header.ensures.end c.in_ok-header.ensures.place;
    }
