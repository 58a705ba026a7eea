use Rattle.std.proofs.Common.{refl, subst}
use Rattle.bn_machine.specs.Verdict.{IsStandardRefusal}
use Rattle.bn_reply.proofs.TableLemmas.{why_told}
use Rattle.bn_reply.proofs.opening.judge_table.Goals as goal

pub returns-in_ok-why_text-in-Err-clause-judged : goal.returns-in_ok-why_text-in-Err-clause-judged
returns-in_ok-why_text-in-Err-clause-judged c =
    let first = subst (λ m. IsStandardRefusal m.quints c.in-Err.why) c.machine.ensures.value
    c.in-Err.ensures.refused in (
      refl,
      why_told c.args.table.now c.in-Err.why c.in_ok-why_text-in-Err.field-0.items first
          c.in_ok-why_text-in-Err.ensures.0
          c.in_ok-why_text-in-Err.ensures.1,
    )
