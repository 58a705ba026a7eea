-- Compute, copy, retrace.
use Rattle.std.proofs.Common.{◌++◌, ap, arith, length}
use Rattle.std.proofs.lemmas.Result.{on_ok_weaker}
use Rattle.bn_machine.specs.Machine.{final_of}
use Rattle.bn_bennett_laws.specs.List.{bennett, compute_rules, copy_rules, retrace_rules}
use Rattle.bn_bennett.specs.Draft.{Grows}
use Rattle.bn_bennett.proofs.Pieces.{grows_copy, grows_on, length-compute, length-copy, length-grown}
use Rattle.bn_bennett.proofs.Machines.{some_symbols}
use Rattle.bn_bennett.proofs.listing.add_list.Goals as goal

pub add_copy-requires-clause-some : goal.add_copy-requires-clause-some
add_copy-requires-clause-some c = omega (arith, some_symbols c.args.machine.now c.quints-quints.ensures.valid)

pub add_copy-requires-clause-room : goal.add_copy-requires-clause-room
add_copy-requires-clause-room c =
    let p = c.args.machine.now in
    let one : Grows c.args.draft.now (compute_rules p.quints) c.add_compute.new.draft =
    rw (← c.quints-quints.ensures.value) c.in_ok-add_compute.ensures in
    omega (arith, length-grown _ _ _ one, length-compute p.quints, c.symbols.ensures)

pub add_retrace-requires-clause-room : goal.add_retrace-requires-clause-room
add_retrace-requires-clause-room c =
    let p = c.args.machine.now in
    let one : Grows c.args.draft.now (compute_rules p.quints) c.add_compute.new.draft =
    rw (← c.quints-quints.ensures.value) c.in_ok-add_compute.ensures in
    let two : Grows c.add_compute.new.draft (copy_rules (final_of p.quints) (length p.quints) p.symbols)
    c.add_copy.new.draft = grows_copy _ _ c.final_state.result (final_of p.quints)
    (length c.quints-quints.result.now) (length p.quints) c.symbols.result p.symbols c.final_state.ensures
    (ap length c.quints-quints.ensures.value) c.symbols.ensures c.in_ok-add_copy.ensures in
    omega (
      arith,
      length-grown _ _ _ one,
      length-compute p.quints,
      length-grown _ _ _ two,
      length-copy (final_of p.quints) (length p.quints) p.symbols (some_symbols p c.quints-quints.ensures.valid),
      ap length c.quints-quints.ensures.value,
    )

pub returns : goal.returns
unfolding bennett
returns c =
    let p = c.args.machine.now in
    let one : Grows c.args.draft.now (compute_rules p.quints) c.add_compute.new.draft =
    rw (← c.quints-quints.ensures.value) c.in_ok-add_compute.ensures in
    let two : Grows c.add_compute.new.draft (copy_rules (final_of p.quints) (length p.quints) p.symbols)
    c.add_copy.new.draft = grows_copy _ _ c.final_state.result (final_of p.quints)
    (length c.quints-quints.result.now) (length p.quints) c.symbols.result p.symbols c.final_state.ensures
    (ap length c.quints-quints.ensures.value) c.symbols.ensures c.in_ok-add_copy.ensures in
    let front : Grows c.args.draft.now (compute_rules p.quints
    ++ copy_rules (final_of p.quints) (length p.quints) p.symbols) c.add_copy.new.draft = grows_on _ _ _ _ _ one two
    in
    on_ok_weaker c.add_retrace.result (λ (g : Grows c.add_copy.new.draft (retrace_rules p.quints)
    c.add_retrace.new.draft). grows_on _ _ _ _ _ front g) (rw (← c.quints-quints.ensures.value)
    c.add_retrace.ensures)
