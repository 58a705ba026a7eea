use Rattle.std.proofs.Common.{◌≡◌, ap, ◌∙◌, arith, length, map, []}
use Rattle.std.specs.List.{range_with_len}
use Rattle.std.proofs.lemmas.List.{length-map}
use Rattle.bn_quad.specs.Quadruples.{final_state_of}
use Rattle.bn_quad.specs.Kept.{quad_of}
use Rattle.bn_control.specs.Entries.{waiting}
use Rattle.bn_control.proofs.EntryLemmas.{none_yet, all_done, state_low, some_commands, next_entry}
use Rattle.bn_control.proofs.entries.entries_of.Goals as goal

pub loop-index-init : goal.loop-index-init
loop-index-init c =
    none_yet c.args.machine.now c.in_ok-entries.entries.items (c.in_ok-entries.ensures
    ∙ ap (λ n. map (waiting n) (range_with_len 0 c.states.result)) c.final_state.ensures
    ∙ ap (λ n. map (waiting (final_state_of c.args.machine.now.rules)) (range_with_len 0 n)) c.states.ensures)

pub index-requires : goal.index-requires
index-requires c =
    let some = some_commands c.args.machine.now c.requires c.quads-quad-items.ensures.valid
    c.quads-quad-items.result.now c.quads-quad-items.ensures.value c.loop-index.index _ c.loop-index-test.true
    c.in_ok-commands.commands.items c.in_ok-commands.ensures in
    omega arith

pub index_mut-requires : goal.index_mut-requires
index_mut-requires c =
    let low = state_low c.args.machine.now c.requires c.quads-quad-items.ensures.valid c.quads-quad-items.result.now
    c.quads-quad-items.ensures.value c.loop-index.index (record { state = 0; read = []; act = []; next = 0 })
    c.loop-index-test.true c.loop-index.entries.items c.loop-index.invariant in
    omega arith

pub loop-index-preserved : goal.loop-index-preserved
loop-index-preserved c =
    next_entry c.args.machine.now c.requires c.quads-quad-items.ensures.valid c.quads-quad-items.result.now
    c.quads-quad-items.ensures.value c.loop-index.index _ c.loop-index-test.true c.in_ok-commands.commands.items
    c.in_ok-commands.ensures c.loop-index.entries.items c.index.result.now c.index.ensures c.loop-index.invariant

pub returns-clause-entries : goal.returns-clause-entries
returns-clause-entries c =
    let count : length c.quads-quad-items.result.now ≡ length c.args.machine.now.rules =
    ap length c.quads-quad-items.ensures.value ∙ length-map c.args.machine.now.rules quad_of in
    let past = c.loop-index-test.false in
    all_done c.args.machine.now c.loop-index.index c.loop-index.entries.items (omega arith) c.loop-index.invariant
