use Rattle.std.proofs.Common.{length, ◌+◌, ap, ◌∙◌}
use Rattle.bn_machine.specs.Machine.{Program}
use Rattle.bn_reply_layout.proofs.SymbolLemmas.{history_size}
use Rattle.bn_reply_layout.proofs.sizes.history_of.Goals as goal

pub returns-clause-size : goal.returns-clause-size
returns-clause-size c = history_size c.args.table.now _ c.machine.ensures.valid
    (ap (λ l. length l + 1) (c.quints.ensures.value ∙ ap (λ (p : Program). p.quints) c.machine.ensures.value))
