use Rattle.std.proofs.Common.{◌+◌, ◌∙◌, ◌++◌, ◌∷◌, [], ap, sym, subst}
use Rattle.bn_netlist.proofs.ReadingLemmas.{whole_given}
use Rattle.bn_network_text.proofs.PageLemmas.{IsReadTo, one_more}
use Rattle.bn_network_text.proofs.lines.read_page.Goals as goal

pub loop-preserved : goal.loop-preserved
loop-preserved c =
    let given = whole_given c.loop.lines _ _ c.in-Whole.line c.in-Whole.is c.next_line.follows.holds-at-none in
    let items = c.in_ok-push-in-Whole.ensures.items
    ∙ ap (λ x. c.loop.says.items ++ x ∷ []) c.in_ok-said-in-Whole.ensures in
    subst (λ xs. IsReadTo c.args.text.now c.next_line.follows.lender-at-none xs (c.loop.counter + 1)) (sym items)
    (one_more c.args.text.now c.loop.lines c.in-Whole.line.now c.next_line.follows.lender-at-none c.loop.says.items
    c.loop.counter given.0 given.1 c.loop.invariant)
