use Rattle.std.proofs.Common.{[]}
use Rattle.std.proofs.lemmas.Result.{err_from_is_err_and}
use Rattle.bn_netlist_laws.specs.Reading.{named}
use Rattle.bn_netlist_laws.specs.Faults.{wire_fault}
use Rattle.bn_netlist_laws.specs.Spelling.{header_then}
use Rattle.bn_netlist.proofs.ConnectLemmas.{tested-Err, connected}
use Rattle.bn_netlist.proofs.draft.Draft.connect.Goals as goal

pub returns-in_err-to-clause-refused : goal.returns-in_err-to-clause-refused
returns-in_err-to-clause-refused c =
    let p = err_from_is_err_and c.from_residual.result c.from_residual.ensures.1 in
    rw (p.1, p.2) (λ ws kept. tested-Err (wire_fault (header_then c.args.header.now []) ws c.args.from
    (named c.args.to)) c.args.line (named c.args.to) _ (c.in_err-to.ensures.tested ws kept.marked))

pub returns-clause-added : goal.returns-clause-added
returns-clause-added c = λ ws kept. connected c.args.header.now c.args.line c.args.from (named c.args.to) c.in_ok-to.to
    ws c.args.self.now.drawn c.add.new.self c.args.self.now.fed.items kept
    (c.in_ok-to.ensures.tested ws kept.marked) c.requires.low c.add.ensures.elements c.add.ensures.drawn
