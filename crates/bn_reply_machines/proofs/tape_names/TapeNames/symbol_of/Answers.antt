use Rattle.bn_reply.proofs.LetterLemmas.{symbol_found}
use Rattle.bn_reply_machines.specs.QuadReply.{lettered}
use Rattle.bn_reply_machines.proofs.AlphabetLemmas.{has_alphabet}
use Rattle.bn_reply_machines.proofs.tape_names.TapeNames.symbol_of.Goals as goal

pub returns : goal.returns
returns c =
    symbol_found (lettered c.args.self.now) (has_alphabet c.args.self.now c.requires) c.args.byte
    c.if-byte-eq-BLANK.false
    c.find.result c.find.ensures.found c.find.ensures.none
