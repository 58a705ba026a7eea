use Rattle.std.proofs.Common.{◌≡◌, ◌<◌, arith}
use Rattle.bn_netlist.proofs.StageLemmas.{entries_missing}
use Rattle.bn_netlist.proofs.stage.finish_entries.Goals as goal

pub returns-then-entries-header-clause-refused : goal.returns-then-entries-header-clause-refused
returns-then-entries-header-clause-refused g c =
    let same : c.from.result ≡ c.args.entries.lines = omega arith in
    let short : c.args.entries.lines < c.args.header.now.count = omega arith in
    λ lines taken. entries_missing c.args.header.now c.args.entries c.from.result lines same short taken
