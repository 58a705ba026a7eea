-- The numbered list is a machine.
use Rattle.std.proofs.Common.{◌∙◌, arith}
use Rattle.bn_standardise.proofs.MachineLemmas.{few_quints, few_rules, no_fault}
use Rattle.bn_standardise.proofs.machine.build.Goals as goal

pub number_rules-requires : goal.number_rules-requires
number_rules-requires c =
    record {
      few = omega (
        arith,
        few_rules c.args.machine.now c.as_slice.result.now c.requires.accepted
            (c.as_slice.ensures.value ∙ c.in_ok-rules.ensures),
      );
    }

pub try_new-requires : goal.try_new-requires
try_new-requires c =
    few_quints c.args.machine.now c.as_slice.result.now c.in_ok-numbered.numbered.quints.items c.requires.accepted
    (c.as_slice.ensures.value ∙ c.in_ok-rules.ensures) c.in_ok-numbered.ensures.quints

pub unreachable-requires-in-Err-Range : goal.unreachable-requires-in-Err-Range
unreachable-requires-in-Err-Range c =
    let fault = rw c.in-Err-Range.field-0-is at c.in-Err-Range.ensures.refused in
    no_fault c.args.machine.now c.as_slice.result.now c.in_ok-numbered.numbered.quints.items
    c.in_ok-numbered.numbered.states c.symbols.result c.in-Err-Range.field-0-0 c.requires.accepted
    (c.as_slice.ensures.value ∙ c.in_ok-rules.ensures) c.in_ok-numbered.ensures.quints c.in_ok-numbered.ensures.states
    c.symbols.ensures fault
