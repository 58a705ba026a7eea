use Rattle.bn_network_assembly.proofs.SymbolLemmas.{letters_nth, letters_size}
use Rattle.bn_network_assembly.proofs.modules.letters.Goals as goal

pub returns-clause-letters : goal.returns-clause-letters
returns-clause-letters c = letters_nth c.args.machine.now c.args.tape c.symbols.result c.requires.first
    c.symbols.ensures

pub returns-clause-size : goal.returns-clause-size
returns-clause-size c = letters_size c.args.machine.now c.args.tape c.symbols.result c.requires.machine
    c.symbols.ensures
