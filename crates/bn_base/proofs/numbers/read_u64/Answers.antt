use Rattle.bn_base.proofs.NumberLemmas.{reading-value, reading-bound, reading-behind, reading-spelled}
use Rattle.bn_base.proofs.NumberLemmas.{read_number-no_digit, read_number-leading_zero, read_number-too_large}
use Rattle.bn_base.proofs.numbers.read_u64.Goals as goal

pub returns-clause-value : goal.returns-clause-value
returns-clause-value c = reading-value _ _ _ c.read_run.ensures.reads

pub returns-clause-bound : goal.returns-clause-bound
returns-clause-bound c = reading-bound _ _ _ c.read_run.ensures.reads

pub returns-clause-behind : goal.returns-clause-behind
returns-clause-behind c = reading-behind _ _ _ c.read_run.ensures.reads

pub returns-clause-spelled : goal.returns-clause-spelled
returns-clause-spelled c = reading-spelled _ _ _ c.read_run.ensures.reads

pub returns-clause-no_digit : goal.returns-clause-no_digit
returns-clause-no_digit c = rw c.read_run.ensures.reads (read_number-no_digit c.args.bytes.now c.args.at)

pub returns-clause-leading_zero : goal.returns-clause-leading_zero
returns-clause-leading_zero c = rw c.read_run.ensures.reads (read_number-leading_zero c.args.bytes.now c.args.at)

pub returns-clause-too_large : goal.returns-clause-too_large
returns-clause-too_large c = rw c.read_run.ensures.reads (read_number-too_large c.args.bytes.now c.args.at)
