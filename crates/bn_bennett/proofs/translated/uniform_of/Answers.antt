-- The quadruples are sound, and they are deterministic, reversible and uniform.
use Rattle.std.proofs.Common.{◌≡◌, ◌+◌, ◌*◌, ◌∙◌, ℕ, List, arith, length, subst}
use Rattle.bn_machine.specs.Machine.{IsMachine, final_of}
use Rattle.bn_quad.specs.Calls.{IsMadeOf, IsQuadRefusal}
use Rattle.bn_quad.specs.declared.quad.Quad.{Quad}
use Rattle.bn_bennett_laws.specs.List.{symbols_of}
use Rattle.bn_quad.proofs.SoundLemmas.{no_quad_refusal}
use Rattle.bn_bennett.proofs.Machines.{count_names, count_quads, count_rules, made_translation, own_counts, own_made}
use Rattle.bn_bennett.proofs.Machines.{own_symbols, own_translation, passes, sound}
use Rattle.bn_bennett_laws.proofs.Counts.{list_is_in_range, list_has_length, list_counts_names}
use Rattle.bn_bennett_laws.proofs.Numbering.{numbers_pass_tests}
use Rattle.bn_bennett.proofs.translated.uniform_of.Goals as goal

pub symbols_of-symbols-requires : goal.symbols_of-symbols-requires
symbols_of-symbols-requires c = rw c.machine.ensures.value (omega (arith, c.requires.fits.quints))

pub overflow_cast-names : goal.overflow_cast-names
overflow_cast-names c =
    let p = c.args.standard.now in
    let machine : IsMachine p = subst IsMachine c.machine.ensures.value c.symbols_of-symbols.ensures.valid in
    omega (
      arith,
      count_names p c.args.names.now c.args.quads.items machine list_is_in_range c.requires.drafted
          c.requires.list list_counts_names c.requires.fits,
      c.requires.fits.quints,
      c.requires.fits.states,
    )

pub try_new-requires : goal.try_new-requires
try_new-requires c =
    let p = c.args.standard.now in
    let machine : IsMachine p = subst IsMachine c.machine.ensures.value c.symbols_of-symbols.ensures.valid in
    let many : length c.args.quads.items ≡ 4 * length p.quints + 2 * p.symbols + 3 =
    count_quads p c.args.names.now c.args.quads.items machine list_is_in_range c.requires.drafted c.requires.list
    list_has_length in
    omega (arith, many, c.requires.fits.quints, c.requires.fits.symbols)

pub new-requires : goal.new-requires
new-requires c =
    let p = c.args.standard.now in
    let machine : IsMachine p = subst IsMachine c.machine.ensures.value c.symbols_of-symbols.ensures.valid in
    let made : IsMadeOf c.in-Ok.machine c.args.quads.items (length c.args.names.now) (symbols_of p) =
    own_made p c.in-Ok.machine c.args.quads.items (length c.args.names.now) _
    (own_symbols p _ _ c.machine.ensures.value c.symbols_of-symbols.ensures.symbols) c.in-Ok.ensures.made in
    passes p c.args.names.now c.args.quads.items machine list_is_in_range c.requires.drafted c.requires.list
    numbers_pass_tests c.machine.ensures.standard c.in-Ok.machine made

pub unreachable-requires : goal.unreachable-requires
unreachable-requires c =
    let p = c.args.standard.now in
    let machine : IsMachine p = subst IsMachine c.machine.ensures.value c.symbols_of-symbols.ensures.valid in
    let quads : List Quad = c.args.quads.items in
    let zs = c.symbols_of-symbols.result in
    let symbols : zs ≡ symbols_of p = own_symbols p _ _ c.machine.ensures.value c.symbols_of-symbols.ensures.symbols in
    let P : List ℕ → Type 0 = λ ys. IsQuadRefusal quads (length c.args.names.now) ys c.in-Err.field-0 in
    let many : length quads ≡ 4 * length p.quints + 2 * p.symbols + 3 =
    count_quads p c.args.names.now quads machine list_is_in_range c.requires.drafted c.requires.list list_has_length
    in
    no_quad_refusal (length c.args.names.now) (symbols_of p) quads c.in-Err.field-0 (omega arith)
    (sound p c.args.names.now quads machine list_is_in_range c.requires.drafted c.requires.list)
    (subst P symbols c.in-Err.ensures.refused)

pub returns-clause-made : goal.returns-clause-made
returns-clause-made c =
    let p = c.args.standard.now in
    let machine : IsMachine p = subst IsMachine c.machine.ensures.value c.symbols_of-symbols.ensures.valid in
    let made : IsMadeOf c.in-Ok.machine c.args.quads.items (length c.args.names.now) (symbols_of p) =
    own_made p c.in-Ok.machine c.args.quads.items (length c.args.names.now) _
    (own_symbols p _ _ c.machine.ensures.value c.symbols_of-symbols.ensures.symbols) c.in-Ok.ensures.made in
    own_translation p c.args.names.now (final_of p.quints) c.in-Ok.machine c.new.result c.new.ensures
    (made_translation p c.args.names.now c.args.quads.items machine list_is_in_range c.requires.drafted c.requires.list
    c.in-Ok.machine made c.in-Ok.ensures.valid)

pub returns-clause-states : goal.returns-clause-states
returns-clause-states c =
    let p = c.args.standard.now in
    let machine : IsMachine p = subst IsMachine c.machine.ensures.value c.symbols_of-symbols.ensures.valid in
    let made : IsMadeOf c.in-Ok.machine c.args.quads.items (length c.args.names.now) (symbols_of p) =
    own_made p c.in-Ok.machine c.args.quads.items (length c.args.names.now) _
    (own_symbols p _ _ c.machine.ensures.value c.symbols_of-symbols.ensures.symbols) c.in-Ok.ensures.made in
    let states = count_names p c.args.names.now c.args.quads.items machine list_is_in_range c.requires.drafted
    c.requires.list list_counts_names c.requires.fits in
    let rules = count_rules p c.args.names.now c.args.quads.items machine list_is_in_range c.requires.drafted
    c.requires.list list_has_length c.in-Ok.machine made in
    (own_counts c.in-Ok.machine c.new.result _ _ c.new.ensures (made.counted ∙ states) rules).0

pub returns-clause-quadruples : goal.returns-clause-quadruples
returns-clause-quadruples c =
    let p = c.args.standard.now in
    let machine : IsMachine p = subst IsMachine c.machine.ensures.value c.symbols_of-symbols.ensures.valid in
    let made : IsMadeOf c.in-Ok.machine c.args.quads.items (length c.args.names.now) (symbols_of p) =
    own_made p c.in-Ok.machine c.args.quads.items (length c.args.names.now) _
    (own_symbols p _ _ c.machine.ensures.value c.symbols_of-symbols.ensures.symbols) c.in-Ok.ensures.made in
    let states = count_names p c.args.names.now c.args.quads.items machine list_is_in_range c.requires.drafted
    c.requires.list list_counts_names c.requires.fits in
    let rules = count_rules p c.args.names.now c.args.quads.items machine list_is_in_range c.requires.drafted
    c.requires.list list_has_length c.in-Ok.machine made in
    (own_counts c.in-Ok.machine c.new.result _ _ c.new.ensures (made.counted ∙ states) rules).1
