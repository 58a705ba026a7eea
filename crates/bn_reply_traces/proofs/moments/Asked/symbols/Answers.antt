use Rattle.std.proofs.Common.{subst, sym}
use Rattle.bn_reply_machines.specs.Opened.{IsAlphabet}
use Rattle.bn_reply_traces.specs.QuadStages.{asked_table}
use Rattle.bn_reply_machines.proofs.AlphabetLemmas.{read_alphabet}
use Rattle.bn_reply_traces.proofs.moments.Asked.symbols.Goals as goal

pub returns-clause-alphabet : goal.returns-clause-alphabet
returns-clause-alphabet c =
    subst IsAlphabet (sym c.of.ensures)
    (read_alphabet c.requires.asked.bytes (asked_table c.args.self.now) c.args.tape c.requires.asked.read
    c.requires.first)
