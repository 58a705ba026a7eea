use Rattle.std.specs.Prelude.{◌≤◌, length}
use Rattle.std.proofs.Common.{rules}
use Rattle.bn_network_assembly.specs.Assembled.{limits_of}
use Rattle.bn_network_assembly.proofs.WordLemmas.{word-inputs}
use Rattle.bn_network_assembly.proofs.make.assemble.Goals as goal

pub assemble_words-requires-clause-words : goal.assemble_words-requires-clause-words
assemble_words-requires-clause-words c =
    let fits : length c.args.word.now ≤ (limits_of c.args.windows.now).right = search rules in
    word-inputs c.args.machine.now (limits_of c.args.windows.now) c.args.word.now c.requires.word fits
