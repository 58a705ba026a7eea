-- The five pieces of copying.
use Rattle.std.proofs.Common.{◌-◌, ◌∷◌, ◌++◌, [], List, arith, map}
use Rattle.std.proofs.lemmas.Result.{on_ok_weaker}
use Rattle.std.proofs.lemmas.List.FromFn.{length-map-range_with_len}
use Rattle.bn_quad.specs.Quadruples.{Rule}
use Rattle.bn_bennett_laws.specs.List.{begins_copy, goes_right, copies_letter, turns_left, goes_left, passes_letter}
use Rattle.bn_bennett_laws.specs.List.{ends_copy, nonblank_symbols}
use Rattle.bn_bennett_laws.specs.declared.name.Name.{Name}
use Rattle.bn_bennett.specs.Draft.{Grows}
use Rattle.bn_bennett.proofs.Pieces.{grows_on, length-grown}
use Rattle.bn_bennett.proofs.listing.add_copy.Goals as goal

pub add_two-requires-2-clause-room : goal.add_two-requires-2-clause-room
add_two-requires-2-clause-room c =
    let one : Grows c.args.draft.now (begins_copy c.args.last c.args.n ∷ goes_right ∷ []) c.add_two.new.draft =
    rw (← c.begins_copy.ensures, ← c.goes_right.ensures) c.in_ok-add_two.ensures in
    omega (
      arith,
      length-grown _ _ _ one,
      length-grown _ _ _ c.in_ok-add_copied_letters.ensures,
      length-map-range_with_len (copies_letter c.args.n) 1 (c.args.z - 1),
    )

pub add_passed_letters-requires-clause-room : goal.add_passed_letters-requires-clause-room
add_passed_letters-requires-clause-room c =
    omega (
      arith,
      length-grown _ _ _ c.in_ok-add_two.ensures,
      length-grown _ _ _ c.in_ok-add_copied_letters.ensures,
      length-map-range_with_len (copies_letter c.args.n) 1 (c.args.z - 1),
      length-grown _ _ _ c.in_ok-add_two-2.ensures,
    )

pub add-requires-clause-room : goal.add-requires-clause-room
add-requires-clause-room c =
    omega (
      arith,
      length-grown _ _ _ c.in_ok-add_two.ensures,
      length-grown _ _ _ c.in_ok-add_copied_letters.ensures,
      length-map-range_with_len (copies_letter c.args.n) 1 (c.args.z - 1),
      length-grown _ _ _ c.in_ok-add_two-2.ensures,
      length-grown _ _ _ c.in_ok-add_passed_letters.ensures,
      length-map-range_with_len (passes_letter c.args.n) 1 (c.args.z - 1),
    )

pub returns : goal.returns
returns c =
    let n = c.args.n in
    let last = c.args.last in
    let a : List (Rule Name) = begins_copy last n ∷ goes_right ∷ [] in
    let b : List (Rule Name) = map (copies_letter n) (nonblank_symbols c.args.z) in
    let d : List (Rule Name) = turns_left n ∷ goes_left ∷ [] in
    let e : List (Rule Name) = map (passes_letter n) (nonblank_symbols c.args.z) in
    let one : Grows c.args.draft.now a c.add_two.new.draft = rw (← c.begins_copy.ensures, ← c.goes_right.ensures)
    c.in_ok-add_two.ensures in
    let three : Grows c.add_copied_letters.new.draft d c.add_two-2.new.draft =
    rw (← c.turns_left.ensures, ← c.goes_left.ensures) c.in_ok-add_two-2.ensures in
    let front : Grows c.args.draft.now (a ++ b ++ d ++ e) c.add_passed_letters.new.draft =
    grows_on _ _ _ (a ++ b ++ d) e (grows_on _ _ _ (a ++ b) d (grows_on _ _ _ a b one
    c.in_ok-add_copied_letters.ensures) three) c.in_ok-add_passed_letters.ensures in
    on_ok_weaker c.add.result (λ (g : Grows c.add_passed_letters.new.draft (ends_copy last n ∷ []) c.add.new.draft).
    grows_on _ _ _ (a ++ b ++ d ++ e) (ends_copy last n ∷ []) front g) (rw (← c.ends_copy.ensures) c.add.ensures)
