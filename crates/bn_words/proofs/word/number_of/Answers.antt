use Rattle.std.proofs.Common.{length, ap, sym, ◌∙◌}
use Rattle.bn_base.specs.Number.{read_number}
use Rattle.bn_words.proofs.Numbers.{no_number, same_end}
use Rattle.bn_words.proofs.word.number_of.Goals as goal

pub returns-else-end-word : goal.returns-else-end-word
returns-else-end-word c =
    no_number c.args.word.now c.read_u64.result (c.read_u64.ensures.reads
    ∙ ap (λ w. read_number w 0) c.as_bytes.ensures.value)
    (λ n is. c.if-end-word.false (sym (same_end n c.in-Ok.number (length c.args.word.now) c.in-Ok.end
    (sym is ∙ c.in-Ok.is))))

pub returns-in-Err : goal.returns-in-Err
returns-in-Err c =
    no_number c.args.word.now c.read_u64.result (c.read_u64.ensures.reads
    ∙ ap (λ w. read_number w 0) c.as_bytes.ensures.value)
    (λ n is. cc)
