use Rattle.bn_netlist.proofs.DraftLemmas.{fed_found, fed_none}
use Rattle.bn_netlist.proofs.draft.Draft.are_fed.Goals as goal

pub returns-then-is_fed : goal.returns-then-is_fed
returns-then-is_fed c = λ ws is. fed_found c.args.count ws c.args.wires.now c.args.self.now.fed.items
    c.loop-index.index _ is c.requires.within c.loop-index-test.true c.if-is_fed.ensures

pub loop-index-preserved : goal.loop-index-preserved
loop-index-preserved c = λ ws is. fed_none c.args.count ws c.args.wires.now c.args.self.now.fed.items
    c.loop-index.index _ is c.requires.within c.loop-index-test.true (c.loop-index.invariant ws is)
    c.if-is_fed.ensures
