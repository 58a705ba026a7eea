use Rattle.std.proofs.Common.{◌≡◌, ◌+◌, ◌++◌, ◌∷◌, [], take, get_or, ap, ◌∙◌, rules}
use Rattle.std.proofs.lemmas.List.{take_more}
use Rattle.bn_circuits.specs.Rows.{starts_from}
use Rattle.bn_circuits.proofs.RowLemmas.{end_from, end_from-append, starts_from-append}
use Rattle.bn_circuits.proofs.row_map.starts_of.Goals as goal

pub loop-width-preserved : goal.loop-width-preserved
loop-width-preserved c =
    let ws = c.args.widths.now in
    let i = c.loop-width.width-index in
    let w = get_or ws i 0 in
    let more = take_more ws i 0 c.loop-width-test.true in
    let starts = ap (starts_from 0) more ∙ starts_from-append 0 (take i ws) w in
    let ends = ap (end_from 0) more ∙ end_from-append 0 (take i ws) w in
    let pushed : c.push-in-loop-width.new.self.items ≡ c.loop-width.starts.items ++ (c.loop-width.total + w) ∷ [] =
    search rules in
    let before = c.loop-width.invariant in
    (cc (pushed, starts, before.0, before.1), cc (ends, before.1), (let bound = c.type_inv.widths i in search rules))
