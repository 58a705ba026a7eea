use Rattle.std.proofs.Common.{◌≡◌, ◌++◌, replicate, false}
use Rattle.bn_netlist.proofs.entries.Entries.push_states.Given as goal

abbrev pub invariant-loop-row : goal.invariant-loop-row
invariant-loop-row l = (l.self.states.items ≡ l.initial.self.states.items ++ replicate l.row 1)
    × (l.self.own.items ≡ l.initial.self.own.items ++ replicate l.row false)
    × (l.self.ends.drawn ≡ l.initial.self.ends.drawn)
    × (l.self.ends.fed.items ≡ l.initial.self.ends.fed.items) × (l.self.lines ≡ l.initial.self.lines)
