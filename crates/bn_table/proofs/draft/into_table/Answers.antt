-- Every quintuple of a draft is in range.
use Rattle.std.proofs.Common.{◌≡◌, arith, length, vec_len, Some, ℕ, zero, suc, List, All, subst}
use Rattle.std.proofs.lemmas.Option.{get_or_from_slice_get, slice_get_within}
use Rattle.std.proofs.lemmas.List.Elements.{All-get_or}
use Rattle.bn_machine.specs.Machine.{IsFirstFault, IsInRange}
use Rattle.bn_lists.specs.Lists.{nth}
use Rattle.bn_machine.specs.declared.quint.Quint.{Quint}
use Rattle.bn_table.specs.Draft.{drafted}
use Rattle.bn_table.proofs.Bounds.{few-letters}
use Rattle.bn_table.proofs.draft.into_table.Goals as goal

pub overflow_cast-symbols : goal.overflow_cast-symbols
overflow_cast-symbols c =
    omega (
      arith,
      few-letters c.args.draft.names c.args.draft.letters.items c.args.draft.quints.items
          (drafted c.args.draft) c.requires.draft,
    )

-- a list whose elements are all in range has no first fault
no_first_fault : (f z : ℕ) (quints : List Quint) (i : ℕ) → All (IsInRange f z) quints → IsFirstFault f z quints i → ⊥
no_first_fault f z quints i all fault = go i fault.faulty.0 fault.faulty.1 fault.faulty.2
  where
    go : (i : ℕ) (q : Quint) → nth quints i ≡ Some q → (IsInRange f z q → ⊥) → ⊥
    go zero q at out = cc at
    go (suc k) q at out =
        let P : Quint → Type 0 = IsInRange f z in
        out (subst P (get_or_from_slice_get quints k q q at) (All-get_or P quints k q (slice_get_within quints k q at)
        all))

pub unreachable-requires : goal.unreachable-requires
unreachable-requires c =
    let fault = rw c.in-Err-Range.field-0-is at c.in-Err-Range.ensures.refused in
    let long : vec_len c.args.draft.letters ≡ length c.args.draft.letters.items = omega arith in
    no_first_fault c.len-states.result c.len-symbols.result c.args.draft.quints.items c.in-Err-Range.field-0-0
    (rw (c.len-states.ensures, c.len-symbols.ensures, long) c.requires.draft.in_range) fault
