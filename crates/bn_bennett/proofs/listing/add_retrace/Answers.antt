-- Two quadruples for each quintuple, the last quintuple first.
use Rattle.std.proofs.Common.{◌+◌, ◌-◌, refl, arith, length, get_or}
use Rattle.bn_machine.specs.declared.quint.Shift.TheVariants.{Left}
use Rattle.bn_machine.specs.declared.quint.Quint.{Quint}
use Rattle.bn_bennett_laws.specs.List.{retrace_pair}
use Rattle.bn_bennett.specs.Draft.{Grows}
use Rattle.bn_bennett.proofs.Pieces.{room_back, start_back, step_back}
use Rattle.bn_bennett.proofs.listing.add_retrace.Goals as goal

pub loop-index-init : goal.loop-index-init
loop-index-init c = start_back retrace_pair (λ e. refl) c.args.draft.now c.args.draft.now c.args.quints.now
    (length c.args.quints.now) c.requires.draft (omega arith)

pub add_two-requires-clause-room : goal.add_two-requires-clause-room
add_two-requires-clause-room c = omega (
  arith,
  room_back retrace_pair (λ e. refl) c.args.draft.now c.loop-index.draft
      c.args.quints.now c.loop-index.index (omega arith) c.loop-index.invariant,
)

pub loop-index-preserved : goal.loop-index-preserved
loop-index-preserved c =
    let q : Quint = record { state = 0; read = 0; write = 0; shift = Left; next = 0 } in
    let two : Grows c.loop-index.draft (retrace_pair (
      c.loop-index.index - 1 + 1,
      get_or c.args.quints.now (c.loop-index.index - 1) q,
    )) c.add_two.new.draft = rw
    (← c.shifts_back.ensures, ← c.writes_back.ensures) c.in_ok-add_two.ensures in
    step_back retrace_pair (λ e. refl) c.args.draft.now c.loop-index.draft c.args.quints.now (c.loop-index.index - 1)
    c.add_two.new.draft q c.loop-index.index (omega arith) (omega arith) c.loop-index.invariant two
