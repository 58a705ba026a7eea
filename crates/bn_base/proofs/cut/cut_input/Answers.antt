-- The next line is passed, or there is none.
use Rattle.std.proofs.Common.{refl}
use Rattle.bn_base.proofs.CutLemmas.{rest_uncut, rest_looked}
use Rattle.bn_base.proofs.cut.cut_input.Goals as goal

pub returns-in_err-begin : goal.returns-in_err-begin
returns-in_err-begin c =
    rw c.from_residual.ensures (rest_uncut c.args.bytes.now c.loop-begin.begin _ refl c.loop-begin.invariant.looked
    c.in_err-begin.ensures.line)

pub loop-begin-preserved : goal.loop-begin-preserved
loop-begin-preserved c =
    let next = rest_looked c.args.bytes.now c.loop-begin.begin c.in_ok-begin.field-0 _ refl
    c.loop-begin.invariant.within c.loop-begin.invariant.looked c.in_ok-begin.ensures.line
    c.in_ok-begin.ensures.behind c.in_ok-begin.ensures.within c.in_default.ensures.cases in
    record { within = next.0; looked = next.1 }
