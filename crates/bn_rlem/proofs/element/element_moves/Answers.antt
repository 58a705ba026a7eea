-- There are 2k pairs, 20 at most.
use Rattle.std.proofs.Common.{arith, ap, length, ◌*◌, ◌≡◌, ◌∙◌}
use Rattle.std.specs.List.{range_with_len}
use Rattle.std.proofs.lemmas.List.FromFn.{length-range_with_len}
use Rattle.bn_rlem.proofs.PermutationLemmas.{permuted_length}
use Rattle.bn_rlem.proofs.element.element_moves.Goals as goal

pub moves_of-requires-clause-few : goal.moves_of-requires-clause-few
moves_of-requires-clause-few c =
    let long : length c.in_ok-pairs.pairs.items ≡ 2 * c.args.lines =
    permuted_length (range_with_len 0 (2 * c.args.lines)) c.args.number c.in_ok-pairs.pairs.items
    c.in_ok-pairs.ensures ∙ length-range_with_len 0 (2 * c.args.lines) in
    let few = c.requires.lines.few in
    let same = ap length c.as_slice.ensures.value in
    omega (arith, long, few, same)
