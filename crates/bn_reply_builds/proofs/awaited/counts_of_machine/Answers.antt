use Rattle.bn_reply_builds.proofs.LineLemmas.{three_counts}
use Rattle.bn_reply_builds.proofs.awaited.counts_of_machine.Goals as goal

pub returns-clause-counts : goal.returns-clause-counts
returns-clause-counts c =
    three_counts c.args.machine.now.symbols c.letters.result c.letters-2.result c.letters-3.result
    c.requires.valid.tapes
    c.letters.ensures.number c.letters-2.ensures.number c.letters-3.ensures.number
