use Rattle.std.proofs.Common.{Some}
use Rattle.bn_reply.proofs.LetterLemmas.{symbol_found, table_alphabet}
use Rattle.bn_reply.proofs.letters.symbol_of.Goals as goal

pub returns : goal.returns
returns c =
    symbol_found c.args.table.now (table_alphabet c.args.table.now c.symbol_of.ensures.valid) c.args.byte
    c.if-byte-eq-BLANK.false (Some c.in_ok-symbol.symbol) c.in_ok-symbol.ensures.found
    c.in_ok-symbol.ensures.none
