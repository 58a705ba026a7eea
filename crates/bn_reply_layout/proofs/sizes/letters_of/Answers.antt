use Rattle.std.proofs.Common.{ap, ◌∙◌}
use Rattle.bn_machine.specs.Machine.{Program}
use Rattle.bn_reply_layout.proofs.SymbolLemmas.{letters_size}
use Rattle.bn_reply_layout.proofs.sizes.letters_of.Goals as goal

pub returns-clause-size : goal.returns-clause-size
returns-clause-size c = letters_size c.args.table.now c.symbols.result c.machine.ensures.valid
    (c.symbols.ensures ∙ ap (λ (p : Program). p.symbols) c.machine.ensures.value)
