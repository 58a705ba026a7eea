use Rattle.std.proofs.Common.{subst}
use Rattle.bn_machine.specs.Window.{IsWindowed}
use Rattle.bn_machine.proofs.RoomLemmas.{stored-windowed}
use Rattle.bn_machine.proofs.tape.Tape.head.Goals as goal

pub returns-clause-valid : goal.returns-clause-valid
returns-clause-valid c = subst IsWindowed c.self.view_is (stored-windowed _ _ _ _ c.self.invariant)
