use Rattle.std.proofs.Common.{◌++◌, ◌∷◌, [], List, ℕ, arith, ap, sym, take, drop, ◌∙◌}
use Rattle.bn_reply.specs.Words.{letters_of}
use Rattle.bn_reply.proofs.LetterLemmas.{letters_of-next, letters_of-front}
use Rattle.bn_reply.proofs.FrontLemmas.{with_first, of_equal, if_refused}
use Rattle.bn_reply.proofs.letters.push_letters.Goals as goal

pub loop-symbol-preserved : goal.loop-symbol-preserved
loop-symbol-preserved c =
    c.in_ok-push.ensures.items
    ∙ ap (λ (front : List ℕ). front ++ c.letter.result ∷ []) c.loop-symbol.invariant
    ∙ letters_of-next c.args.table.now c.args.text.now.items c.args.symbols.now c.loop-symbol.symbol-index
    c.letter.result (omega arith) c.letter.ensures

pub returns-in_err-push-clause-refused : goal.returns-in_err-push-clause-refused
returns-in_err-push-clause-refused c =
    let table = c.args.table.now in
    let symbols = c.args.symbols.now in
    let n = c.loop-symbol.symbol-index in
    if_refused c.from_residual.result (of_equal c.args.text.now.items c.push.new.self.items
    (letters_of table (take n symbols) ++ letters_of table (drop n symbols)) (letters_of table symbols)
    (sym (letters_of-front table symbols n))
    (with_first c.args.text.now.items c.push.new.self.items (letters_of table (take n symbols))
    (letters_of table (drop n symbols)) (c.in_err-push.ensures.items ∙ c.loop-symbol.invariant)))
