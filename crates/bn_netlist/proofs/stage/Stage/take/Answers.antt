use Rattle.std.proofs.lemmas.Result.{err_from_is_err_and}
use Rattle.bn_netlist.proofs.StageLemmas.{same_stage, header_whole}
use Rattle.bn_netlist.proofs.stage.Stage.take.Goals as goal

pub returns-in_ok-entries-in-Place-clause-taken : goal.returns-in_ok-entries-in-Place-clause-taken
returns-in_ok-entries-in-Place-clause-taken c =
    λ lines taken. header_whole c.args.self lines c.args.line.now c.in-Place.version c.in-Place.count c.in-Place.start
    c.in-Place.end c.in-Place.steps c.in_ok-place-in-Place.place c.in_ok-entries-in-Place.entries c.in-Place.is
    c.in_ok-place-in-Place.ensures.read c.in_ok-entries-in-Place.ensures.none taken

pub returns-in_err-take_entry-in-Entries-clause-refused : goal.returns-in_err-take_entry-in-Entries-clause-refused
returns-in_err-take_entry-in-Entries-clause-refused c =
    let p = err_from_is_err_and c.from_residual-in_err-take_entry-in-Entries.result
    c.from_residual-in_err-take_entry-in-Entries.ensures.1 in
    rw (p.1, p.2) (λ lines taken. c.in_err-take_entry-in-Entries.ensures.refused lines
    (same_stage c.args.self _ lines c.in-Entries.is taken))
