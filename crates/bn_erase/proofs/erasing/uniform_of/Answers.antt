-- The quadruples are sound, and they are deterministic, reversible and uniform.
use Rattle.std.proofs.Common.{ℕ, List, arith, length, subst}
use Rattle.bn_quad.specs.Calls.{IsMadeOf, IsQuadRefusal}
use Rattle.bn_erase_laws.specs.Erasing.{erasing_symbols}
use Rattle.bn_erase.proofs.MachineLemmas.{few_quads, made_erasing, none_refused, own_erasing, own_made, passes}
use Rattle.bn_erase_laws.proofs.ErasingLemmas.{erasing_has_length, erasing_is_in_range}
use Rattle.bn_erase_laws.proofs.NumberedLemmas.{erasing_numbers_pass_tests}
use Rattle.bn_erase.proofs.erasing.uniform_of.Goals as goal

pub overflow_cast-names : goal.overflow_cast-names
overflow_cast-names c =
    let list = c.requires.list c.symbols_of-symbols.ensures.left c.symbols_of-symbols.ensures.right in
    omega (arith, list.few)

pub try_new-requires : goal.try_new-requires
try_new-requires c =
    let p = c.args.first.now in
    let q = c.args.second.now in
    let left = c.symbols_of-symbols.ensures.left in
    let right = c.symbols_of-symbols.ensures.right in
    few_quads p q c.args.names.now c.args.quads.items left.machine right.machine (c.requires.list left right)
    erasing_has_length c.requires.first c.requires.second

pub new-requires : goal.new-requires
new-requires c =
    let p = c.args.first.now in
    let q = c.args.second.now in
    let left = c.symbols_of-symbols.ensures.left in
    let right = c.symbols_of-symbols.ensures.right in
    passes p q c.args.names.now c.args.quads.items left.machine right.machine (c.requires.list left right)
    erasing_numbers_pass_tests left right c.in-Ok.machine _ _ c.in-Ok.ensures.made

pub unreachable-requires : goal.unreachable-requires
unreachable-requires c =
    let p = c.args.first.now in
    let q = c.args.second.now in
    let left = c.symbols_of-symbols.ensures.left in
    let right = c.symbols_of-symbols.ensures.right in
    let P : List ℕ → Type 0 = λ zs. IsQuadRefusal c.args.quads.items (length c.args.names.now) zs c.in-Err.field-0 in
    none_refused p q c.args.names.now c.args.quads.items left.machine right.machine (c.requires.list left right)
    erasing_is_in_range c.requires.symbols erasing_has_length c.in-Err.field-0
    (subst P c.symbols_of-symbols.ensures.symbols c.in-Err.ensures.refused)

pub returns : goal.returns
returns c =
    let p = c.args.first.now in
    let q = c.args.second.now in
    let left = c.symbols_of-symbols.ensures.left in
    let right = c.symbols_of-symbols.ensures.right in
    let made : IsMadeOf c.in-Ok.machine c.args.quads.items (length c.args.names.now) (erasing_symbols p q) =
    own_made p q c.in-Ok.machine c.args.quads.items (length c.args.names.now) _ c.symbols_of-symbols.ensures.symbols
    c.in-Ok.ensures.made in
    own_erasing p q c.args.names.now c.in-Ok.machine c.new.result c.new.ensures
    (made_erasing p q c.args.names.now c.args.quads.items left.machine right.machine (c.requires.list left right)
    c.in-Ok.machine made c.in-Ok.ensures.valid)
