-- Named symbols need no quotes.
use Rattle.bn_quad.specs.Names.{symbols_on}
use Rattle.bn_qtable.proofs.Writing.{plain-at}
use Rattle.bn_qtable.proofs.text.fields_on.Goals as goal

pub returns-in-Some-clause-plain : goal.returns-in-Some-clause-plain
returns-in-Some-clause-plain c =
    let names = symbols_on c.args.names.now c.args.tape in
    let named = rw (c.in-Some.is, c.in-Write.is) at c.requires.named in (
      plain-at names c.in-Some.read c.symbol.result.now c.symbol.ensures.name named.0,
      plain-at names c.in-Write.written c.symbol-in-Some.result.now c.symbol-in-Some.ensures.name named.1,
    )
