-- One entry after another is taken, by the number that is left.
use Rattle.std.proofs.Common.{◌≡◌, ◌∙◌, ◌+◌, ◌-◌, ◌<◌, ◌/◌, ◌%◌, ◌++◌, ◌∷◌, [], ℕ, List, Some, length, slice_get, arith}
use Rattle.std.proofs.Common.{sym, ap, subst}
use Rattle.std.specs.List.{range_with_len, remove}
use Rattle.std.proofs.lemmas.List.{append-nil}
use Rattle.std.proofs.lemmas.List.FromFn.{length-range_with_len}
use Rattle.bn_rlem.specs.Permutations.{IsPermutation, factorial}
use Rattle.bn_rlem.proofs.PermutationLemmas.{no_entries, place_within, some_entries, taken}
use Rattle.bn_rlem.proofs.permutation.permutation.Goals as goal

pub loop-done-init : goal.loop-done-init
loop-done-init c =
    let long : length c.in_ok-left.left.items ≡ c.args.count =
    ap length c.in_ok-left.ensures ∙ length-range_with_len 0 c.args.count in
    record {
      count = omega (arith, long);
      low = subst (λ k. c.args.number < factorial k) (sym long) c.requires.small;
      goes_on = λ p h. subst (λ es. IsPermutation (range_with_len 0 c.args.count) c.args.number (es ++ p))
          (sym c.new-entries.ensures.items)
          (subst (λ xs. IsPermutation xs c.args.number p) c.in_ok-left.ensures h);
    }

size_is : (size items count done : ℕ) → size ≡ factorial (count - done - 1) → items + done ≡ count
    → size ≡ factorial (items - 1)
size_is size items count done e sum =
    let same : count - done - 1 ≡ items - 1 = omega (arith, sum) in e ∙ ap factorial same

pub nonzero_div-rest : goal.nonzero_div-rest
nonzero_div-rest c = some_entries c.factorial-size.result (c.args.count - c.loop-done.done - 1) c.factorial-size.ensures

pub remove-entry-requires : goal.remove-entry-requires
remove-entry-requires c =
    let inside = place_within c.loop-done.left.items c.loop-done.rest c.factorial-size.result
    (size_is c.factorial-size.result (length c.loop-done.left.items) c.args.count c.loop-done.done
    c.factorial-size.ensures c.loop-done.invariant.count)
    (let sum = c.loop-done.invariant.count in let more = c.loop-done-test.true in omega (arith, sum, more))
    c.loop-done.invariant.low in
    omega (arith, inside)

pub loop-done-preserved : goal.loop-done-preserved
loop-done-preserved c =
    taken (range_with_len 0 c.args.count) c.args.number c.args.count c.loop-done.done c.loop-done.left.items
    c.remove-entry.new.self.items c.loop-done.rest c.factorial-size.result c.loop-done.entries.items
    c.add.new.entries.items c.remove-entry.result c.loop-done.invariant.count c.loop-done-test.true
    (size_is c.factorial-size.result (length c.loop-done.left.items) c.args.count c.loop-done.done
    c.factorial-size.ensures c.loop-done.invariant.count)
    c.loop-done.invariant.low c.remove-entry.ensures.items c.remove-entry.ensures.value c.in_ok-add.ensures
    c.loop-done.invariant.goes_on

pub returns : goal.returns
returns c =
    let none : length c.loop-done.left.items ≡ 0 =
    (let sum = c.loop-done.invariant.count in let end = c.loop-done-test.false in omega (arith, sum, end)) in
    let less : c.loop-done.rest < factorial 0 =
    subst (λ k. c.loop-done.rest < factorial k) none c.loop-done.invariant.low in
    subst (IsPermutation (range_with_len 0 c.args.count) c.args.number) (append-nil c.loop-done.entries.items)
    (c.loop-done.invariant.goes_on [] (no_entries c.loop-done.left.items none, omega (arith, less)))
