-- Each number is new.
use Rattle.std.proofs.Common.{◌≡◌, ◌+◌, ◌∙◌, ℕ, arith, length, ap, decimal, subst, List, ◌++◌, ◌∷◌, []}
use Rattle.std.specs.Prelude.{Contains}
use Rattle.bn_quad.specs.Names.{symbols_on}
use Rattle.bn_bennett.specs.Printed.{number_names, on_tape}
use Rattle.bn_bennett.proofs.Texts.{length-number_names, number_new, numbers_more, symbol_new, symbols_before}
use Rattle.bn_bennett.proofs.Texts.{symbols_more}
use Rattle.bn_bennett.proofs.InPartLemmas.{if_refused, numbers_in_part}
use Rattle.bn_bennett.proofs.naming.add_history_symbols.Goals as goal

pub add_symbol-requires-in-loop-index-clause-new : goal.add_symbol-requires-in-loop-index-clause-new
add_symbol-requires-in-loop-index-clause-new c =
    let i = c.loop-index.index in
    let text : c.as_slice.result.now ≡ decimal (i + 1) = c.as_slice.ensures.value ∙ c.in_ok-text.ensures in
    let P : List ℕ → Type 0 = λ t. Contains (number_names i) t in
    symbol_new c.args.names.now 2 (omega arith) c.loop-index.names c.loop-index.names (number_names i)
    c.as_slice.result.now c.loop-index.invariant (λ there. number_new i (omega arith) (subst P text there))

pub add_symbol-requires-in-loop-index-clause-room : goal.add_symbol-requires-in-loop-index-clause-room
add_symbol-requires-in-loop-index-clause-room c =
    let i = c.loop-index.index in
    let long : length (symbols_on c.loop-index.names 2) ≡ i + 1 =
    ap length (symbols_before c.args.names.now 2 (omega arith) c.loop-index.names c.loop-index.names
    (number_names i) c.as_slice.result.now c.loop-index.invariant) ∙ length-number_names i in
    omega arith

pub loop-index-preserved : goal.loop-index-preserved
loop-index-preserved c =
    let i = c.loop-index.index in
    let text : c.as_slice.result.now ≡ decimal (i + 1) = c.as_slice.ensures.value ∙ c.in_ok-text.ensures in
    symbols_more c.args.names.now 2 (omega arith) c.loop-index.names c.add_symbol-in-loop-index.new.self
    (number_names i) c.as_slice.result.now c.loop-index.invariant c.in_ok-add_symbol-2.ensures.ok
    ∙ ap (λ t. on_tape c.args.names.now 2 (number_names i ++ t ∷ [])) text
    ∙ ap (on_tape c.args.names.now 2) (numbers_more i)

pub returns-in_err-text-clause-refused : goal.returns-in_err-text-clause-refused
returns-in_err-text-clause-refused c = if_refused c.from_residual-in_err-text.result
    (numbers_in_part c.args.names.now c.loop-index.names 2 c.loop-index.index c.args.count (omega arith)
    c.loop-index.invariant)

pub returns-in_err-add_symbol-2-clause-refused : goal.returns-in_err-add_symbol-2-clause-refused
returns-in_err-add_symbol-2-clause-refused c = if_refused c.from_residual-in_err-add_symbol-2.result
    (numbers_in_part c.args.names.now c.add_symbol-in-loop-index.new.self 2 c.loop-index.index c.args.count
    (omega arith) (c.in_err-add_symbol-2.ensures.err ∙ c.loop-index.invariant))
