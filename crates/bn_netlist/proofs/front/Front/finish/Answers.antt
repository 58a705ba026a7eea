use Rattle.bn_netlist.proofs.PieceLemmas.{come_cut, some_bytes}
use Rattle.bn_netlist.proofs.front.Front.finish.Goals as goal

pub returns-then-not-is_empty-clause-refused : goal.returns-then-not-is_empty-clause-refused
returns-then-not-is_empty-clause-refused g c = λ text come. come_cut text c.args.self.line.items c.args.self.stage
    c.next_line.result come (some_bytes _ c.args.self.line.items c.args.self.line.ok.0 c.if-not-is_empty.ensures)
    c.next_line.ensures
