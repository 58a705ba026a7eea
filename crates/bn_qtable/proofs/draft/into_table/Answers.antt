-- Every quadruple of a draft is sound.
use Rattle.std.proofs.Common.{◌∙◌}
use Rattle.bn_quad.specs.Kept.{rules_of}
use Rattle.bn_qtable.specs.Draft.{drafted, names_of}
use Rattle.bn_qtable.specs.Rows.{table_of}
use Rattle.bn_qtable.proofs.RowsLemmas.{table_has_names}
use Rattle.bn_qtable.proofs.Drafting.{no-first-fault, table-of-draft}
use Rattle.bn_qtable.proofs.ReadingLaws.{good}
use Rattle.bn_qtable.proofs.draft.into_table.Goals as goal

pub gather-requires : goal.gather-requires
gather-requires c =
    let d = c.args.draft in
    let apart = good (names_of d) (rules_of d.quads.items) (drafted d) c.requires.draft.spelled in
    record { states = apart.states; one = apart.one; two = apart.two; three = apart.three }

made_table : goal.returns-in-Ok-clause-ok
made_table c =
    let made = c.in-Ok.ensures.made in
    table-of-draft c.args.draft c.in-Ok.machine c.in_ok-gather-in-Ok.field-0 c.requires.draft c.requires.few made.listed
    (made.counted ∙ c.state_count.ensures)
    (made.lettered ∙ c.symbol_counts.ensures) c.in-Ok.ensures.valid.some c.in_ok-gather-in-Ok.ensures

pub returns-in-Ok-clause-ok : goal.returns-in-Ok-clause-ok
returns-in-Ok-clause-ok c = made_table c

pub returns-in-Ok-clause-named : goal.returns-in-Ok-clause-named
returns-in-Ok-clause-named c = table_has_names (drafted c.args.draft)
    (table_of c.in-Ok.machine c.in_ok-gather-in-Ok.field-0) (made_table c)

pub unreachable-requires : goal.unreachable-requires
unreachable-requires c =
    let fault = rw c.in-Err-Range.field-0-is at c.in-Err-Range.ensures.refused in
    no-first-fault c.args.draft _ _ _ fault.0 c.requires.draft c.state_count.ensures c.symbol_counts.ensures fault.1

pub unreachable-requires-in-Err-Mixed : goal.unreachable-requires-in-Err-Mixed
unreachable-requires-in-Err-Mixed c =
    let fault = rw c.in-Err-Mixed.field-0-is at c.in-Err-Mixed.ensures.refused in
    no-first-fault c.args.draft _ _ _ fault.0 c.requires.draft c.state_count.ensures c.symbol_counts.ensures fault.1
