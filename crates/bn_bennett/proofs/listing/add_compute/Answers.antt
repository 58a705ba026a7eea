-- Two quadruples for each quintuple.
use Rattle.std.proofs.Common.{◌+◌, refl, arith, get_or}
use Rattle.bn_machine.specs.declared.quint.Shift.TheVariants.{Left}
use Rattle.bn_machine.specs.declared.quint.Quint.{Quint}
use Rattle.bn_bennett_laws.specs.List.{compute_pair}
use Rattle.bn_bennett.specs.Draft.{Grows}
use Rattle.bn_bennett.proofs.Pieces.{all_forth, room_forth, step_forth}
use Rattle.bn_bennett.proofs.listing.add_compute.Goals as goal

pub add_two-requires-clause-room : goal.add_two-requires-clause-room
add_two-requires-clause-room c = omega (
  arith,
  room_forth compute_pair (λ e. refl) c.args.draft.now c.loop-index.draft
      c.args.quints.now c.loop-index.index (omega arith) c.loop-index.invariant,
)

pub loop-index-preserved : goal.loop-index-preserved
loop-index-preserved c =
    let q : Quint = record { state = 0; read = 0; write = 0; shift = Left; next = 0 } in
    let two : Grows c.loop-index.draft (compute_pair (
      c.loop-index.index + 1,
      get_or c.args.quints.now c.loop-index.index q,
    )) c.add_two.new.draft = rw
    (← c.writes_ahead.ensures, ← c.shifts_ahead.ensures) c.in_ok-add_two.ensures in
    step_forth compute_pair (λ e. refl) c.args.draft.now c.loop-index.draft c.args.quints.now c.loop-index.index
    c.add_two.new.draft q (omega arith) c.loop-index.invariant two

pub returns : goal.returns
returns c = all_forth compute_pair (λ e. refl) c.args.draft.now c.loop-index.draft c.args.quints.now c.loop-index.index
    (omega arith) c.loop-index.invariant
