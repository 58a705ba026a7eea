-- One quadruple for each letter.
use Rattle.std.proofs.Common.{◌≡◌, ◌≤◌, ◌-◌, ◌∷◌, [], arith, map, ap}
use Rattle.std.specs.List.{range_with_len}
use Rattle.bn_bennett_laws.specs.List.{passes_letter}
use Rattle.bn_bennett.specs.Draft.{Grows}
use Rattle.bn_bennett.proofs.Pieces.{grows_to, room_letters, step_letters}
use Rattle.bn_bennett.proofs.listing.add_passed_letters.Goals as goal

pub add-requires-clause-room : goal.add-requires-clause-room
add-requires-clause-room c = omega (
  arith,
  room_letters (passes_letter c.args.n) c.args.draft.now c.loop-x.draft c.loop-x.x c.loop-x.invariant,
)

pub loop-x-preserved : goal.loop-x-preserved
loop-x-preserved c =
    let one : Grows c.loop-x.draft (passes_letter c.args.n c.loop-x.x ∷ []) c.add.new.draft =
    rw (← c.passes_letter.ensures) c.in_ok-add.ensures in
    let low : 1 ≤ c.loop-x.x = omega arith in
    step_letters (passes_letter c.args.n) c.args.draft.now c.loop-x.draft c.loop-x.x c.add.new.draft low
    c.loop-x.invariant one

pub returns : goal.returns
returns c =
    let e : c.loop-x.x - 1 ≡ c.args.z - 1 = omega arith in
    grows_to c.args.draft.now c.loop-x.draft _ _ (ap (λ n. map (passes_letter c.args.n) (range_with_len 1 n)) e)
    c.loop-x.invariant
