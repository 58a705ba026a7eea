-- No name is among those before it.
use Rattle.std.proofs.Common.{◌≡◌, ◌∙◌, ap, subst, sym, List, ℕ, take}
use Rattle.std.specs.Prelude.{Contains}
use Rattle.bn_quad.specs.Names.{Naming, symbols_on, with_symbol}
use Rattle.bn_qtable.specs.Named.{on_tape}
use Rattle.bn_qtable.proofs.Gathering.{new-name, on-tape-more, one-name, symbols-on-tape}
use Rattle.bn_qtable.proofs.lists.gather_symbols.Goals as goal

pub add_symbol-requires-clause-new : goal.add_symbol-requires-clause-new
add_symbol-requires-clause-new c =
    let P : List (List ℕ) → Type 0 = λ xs. Contains xs c.get.result.now in
    let is = ap (λ (n : Naming). symbols_on n c.args.tape) c.symbols.invariant
    ∙ symbols-on-tape c.args.names.now c.args.tape (take c.symbols.number c.args.list.now) c.requires.first in
    λ h. new-name c.args.list.now c.symbols.number c.get.result.now c.requires.apart c.get.ensures (subst P is h)

pub symbols-preserved : goal.symbols-preserved
symbols-preserved c =
    let added : c.add_symbol.new.self ≡ with_symbol c.symbols.names c.args.tape c.get.result.now =
    c.in_ok-add_symbol.ensures.ok in
    let old = c.args.names.now in
    added ∙ ap (λ (n : Naming). with_symbol n c.args.tape c.get.result.now) c.symbols.invariant
    ∙ on-tape-more old c.args.tape (take c.symbols.number c.args.list.now) c.get.result.now
    ∙ ap (λ (xs : List (List ℕ)). on_tape old c.args.tape xs) (sym
    (one-name c.args.list.now c.symbols.number c.get.result.now c.get.ensures))
