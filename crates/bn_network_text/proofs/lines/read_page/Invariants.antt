use Rattle.bn_network_text.proofs.PageLemmas.{IsReadTo}
use Rattle.bn_network_text.proofs.lines.read_page.Given as goal

abbrev pub invariant-loop : goal.invariant-loop
invariant-loop l = IsReadTo l.fn.text l.lines l.says.items l.counter
