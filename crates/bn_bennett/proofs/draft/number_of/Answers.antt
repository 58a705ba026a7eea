-- A name that is there stays, and a new one goes last.
use Rattle.bn_bennett.proofs.SameNames.{any_same}
use Rattle.bn_bennett.proofs.draft.number_of.Goals as goal

pub returns-clause-names : goal.returns-clause-names
returns-clause-names c = rw (← any_same c.args.name c.args.names.now.keys) c.in_ok-number.ensures.keys
