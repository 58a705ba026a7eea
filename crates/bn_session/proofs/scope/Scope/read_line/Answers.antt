use Rattle.std.proofs.Common.{refl}
use Rattle.std.proofs.lemmas.Result.{err_from_is_err_and}
use Rattle.bn_session.specs.Scripts.{BeginsWithFaultyLine}
use Rattle.bn_session.specs.Progress.{IsLineFault}
use Rattle.bn_session.proofs.ScriptLemmas.{refusal_weaker, whole_line, cut_line, line_fault_begins, line_asks}
use Rattle.bn_session.proofs.scope.Scope.read_line.Goals as goal

pub returns-in_err-command-in-Whole-clause-refused : goal.returns-in_err-command-in-Whole-clause-refused
returns-in_err-command-in-Whole-clause-refused c =
    let line = whole_line c.args.lines.now c.next_line.follows.lender-at-none c.next_line.result c.in-Whole.line
    c.in-Whole.is c.next_line.follows.holds-at-none in
    let p = err_from_is_err_and c.from_residual.result c.from_residual.ensures.1 in
    rw (p.1, p.2) (refusal_weaker (IsLineFault c.args.self.now.states c.args.self.now.standing c.in-Whole.line.now)
    (BeginsWithFaultyLine c.args.self.now.states c.args.self.now.standing c.args.lines.now) c.args.number _
    (λ fault k. line_fault_begins c.args.self.now.states c.args.self.now.standing c.args.lines.now
    c.in-Whole.line.now c.next_line.follows.lender-at-none fault line.0 line.1 k)
    c.in_err-command-in-Whole.ensures.refused)

pub returns-in-Cut-clause-refused : goal.returns-in-Cut-clause-refused
returns-in-Cut-clause-refused c = (
  refl,
  cut_line c.args.self.now.states c.args.lines.now c.next_line.follows.lender-at-none c.next_line.result
      c.in-Cut.field-0 c.in-Cut.is c.next_line.follows.holds-at-none,
)

pub returns-in_ok-command-in-Whole-clause-read : goal.returns-in_ok-command-in-Whole-clause-read
returns-in_ok-command-in-Whole-clause-read c =
    let line = whole_line c.args.lines.now c.next_line.follows.lender-at-none c.next_line.result c.in-Whole.line
    c.in-Whole.is c.next_line.follows.holds-at-none in
    line_asks c.args.self.now.states c.args.self.now.standing c.args.lines.now c.in-Whole.line.now
    c.next_line.follows.lender-at-none _ _ line.1 c.in_ok-command-in-Whole.ensures.asked
