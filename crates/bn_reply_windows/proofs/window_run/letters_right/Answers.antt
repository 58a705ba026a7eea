use Rattle.std.proofs.Common.{◌≡◌, suc, arith, rules, sym, ◌∙◌}
use Rattle.std.specs.Prelude.{MatchOption, pos, ◌+ℤ◌}
use Rattle.std.proofs.lemmas.Int.{ints}
use Rattle.bn_machine.specs.Tape.{cell}
use Rattle.bn_reply_machines.specs.MachineRun.{IsLetterAt}
use Rattle.bn_reply_windows.proofs.LetterLemmas.{read_all, read_more, read_none}
use Rattle.bn_reply_windows.proofs.window_run.letters_right.Goals as goal

pub loop-letters-init : goal.loop-letters-init
loop-letters-init c = read_none c.args.tape.now c.head-first.ensures.valid

pub loop-letters-preserved : goal.loop-letters-preserved
loop-letters-preserved c =
    let letter : MatchOption c.letter_at.result
    (cell c.args.tape.now.tape ((c.head-first.result +ℤ pos 1) +ℤ c.from.result) ≡ 0)
    (IsLetterAt c.args.tape.now ((c.head-first.result +ℤ pos 1) +ℤ c.from.result)) = search rules in
    let head = c.head-first.ensures.value in
    let count = c.from.ensures in
    let at : (c.head-first.result +ℤ pos 1) +ℤ c.from.result
    ≡ c.args.tape.now.tape.head +ℤ pos (suc c.loop-letters.letters) = omega (arith, ints, head, count) in
    read_more c.args.tape.now c.loop-letters.letters ((c.head-first.result +ℤ pos 1) +ℤ c.from.result)
    c.letter_at.result c.loop-letters.invariant letter (sym c.is_some.ensures ∙ c.loop-letters-test.true) at

pub returns-clause-letters : goal.returns-clause-letters
returns-clause-letters c =
    let letter : MatchOption c.letter_at.result
    (cell c.args.tape.now.tape ((c.head-first.result +ℤ pos 1) +ℤ c.from.result) ≡ 0)
    (IsLetterAt c.args.tape.now ((c.head-first.result +ℤ pos 1) +ℤ c.from.result)) = search rules in
    let head = c.head-first.ensures.value in
    let count = c.from.ensures in
    let at : (c.head-first.result +ℤ pos 1) +ℤ c.from.result
    ≡ c.args.tape.now.tape.head +ℤ pos (suc c.loop-letters.letters) = omega (arith, ints, head, count) in
    read_all c.args.tape.now c.loop-letters.letters ((c.head-first.result +ℤ pos 1) +ℤ c.from.result)
    c.letter_at.result c.loop-letters.invariant letter (sym c.is_some.ensures ∙ c.loop-letters-test.false) at
