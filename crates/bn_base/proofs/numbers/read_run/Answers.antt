use Rattle.std.proofs.Common.{◌+◌, ◌∙◌, ap, sym, length}
use Rattle.bn_base.specs.Number.{read_number, number_of, with_place}
use Rattle.bn_base.proofs.NumberLemmas.{digits_at-digits}
use Rattle.bn_base.proofs.numbers.read_run.Goals as goal

pub number-requires : goal.number-requires
number-requires c = rw c.run_at-digits.ensures.run (digits_at-digits c.args.bytes.now c.args.at)

pub returns-in-Ok-clause-reads : goal.returns-in-Ok-clause-reads
unfolding read_number
returns-in-Ok-clause-reads c =
    ap (λ r. with_place (c.args.at + length c.run_at-digits.result.now) r) (sym c.in-Ok.is ∙ c.number.ensures)
    ∙ ap (λ s. with_place (c.args.at + length s) (number_of s)) c.run_at-digits.ensures.run

pub returns-in-Err-clause-reads : goal.returns-in-Err-clause-reads
unfolding read_number
returns-in-Err-clause-reads c =
    ap (λ r. with_place (c.args.at + length c.run_at-digits.result.now) r) (sym c.in-Err.is ∙ c.number.ensures)
    ∙ ap (λ s. with_place (c.args.at + length s) (number_of s)) c.run_at-digits.ensures.run
