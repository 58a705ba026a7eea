use Rattle.std.proofs.Common.{◌≡◌}
use Rattle.bn_netlist.proofs.GivingLemmas.{AreGiven}
use Rattle.bn_netlist.proofs.write_to.give_entries.Given as goal

abbrev pub invariant-loop-line : goal.invariant-loop-line
invariant-loop-line g l =
    AreGiven (g.C.Spellable.version l.config) (g.C.Spellable.spelling l.config) (g.K.Sink.taken l.fn.sink)
    (g.K.Sink.taken l.sink) l.text.items l.line l.place.element l.place.rows
    × (g.K.Sink.faults l.sink ≡ g.K.Sink.faults l.fn.sink)
