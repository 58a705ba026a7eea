-- Each letter is new.
use Rattle.std.proofs.Common.{◌≡◌, ◌∙◌, ap, arith, length, map, take, get_or}
use Rattle.bn_quad.specs.Names.{symbols_on}
use Rattle.bn_bennett.specs.Printed.{one_byte, on_tape}
use Rattle.bn_bennett.proofs.Texts.{letter_new, letters_before, letters_more, symbol_new, symbols_before, symbols_more}
use Rattle.bn_bennett.proofs.InPartLemmas.{if_refused, letters_in_part}
use Rattle.bn_bennett.proofs.naming.add_letters.Goals as goal

pub add_symbol-requires-clause-new : goal.add_symbol-requires-clause-new
add_symbol-requires-clause-new c =
    let letters = c.args.letters.now in
    let i = c.loop-letter.letter-index in
    symbol_new c.args.names.now c.args.tape c.requires.first c.loop-letter.names c.loop-letter.names
    (map one_byte (take i letters)) (one_byte (get_or letters i 0)) c.loop-letter.invariant
    (letter_new letters c.requires.letters i 0 c.loop-letter-test.true)

pub add_symbol-requires-clause-room : goal.add_symbol-requires-clause-room
add_symbol-requires-clause-room c =
    let letters = c.args.letters.now in
    let i = c.loop-letter.letter-index in
    let long : length (symbols_on c.loop-letter.names c.args.tape) ≡ i =
    ap length (symbols_before c.args.names.now c.args.tape c.requires.first c.loop-letter.names c.loop-letter.names
    (map one_byte (take i letters)) (one_byte (get_or letters i 0)) c.loop-letter.invariant)
    ∙ letters_before letters i c.loop-letter-test.true in
    omega (arith, long, c.loop-letter-test.true, c.requires.letters.few)

pub loop-letter-preserved : goal.loop-letter-preserved
loop-letter-preserved c =
    let letters = c.args.letters.now in
    let i = c.loop-letter.letter-index in
    symbols_more c.args.names.now c.args.tape c.requires.first c.loop-letter.names c.add_symbol.new.self
    (map one_byte (take i letters)) (one_byte (get_or letters i 0)) c.loop-letter.invariant
    c.in_ok-add_symbol.ensures.ok
    ∙ ap (on_tape c.args.names.now c.args.tape) (letters_more letters i 0 c.loop-letter-test.true)

pub returns-in_err-add_symbol-clause-refused : goal.returns-in_err-add_symbol-clause-refused
returns-in_err-add_symbol-clause-refused c = if_refused c.from_residual.result
    (letters_in_part c.args.names.now c.add_symbol.new.self c.args.tape c.args.letters.now c.loop-letter.letter-index
    (c.in_err-add_symbol.ensures.err ∙ c.loop-letter.invariant))
