-- The way back that belongs to a way ahead: there is one, whether it is made or not.
use Rattle.std.specs.Prelude.{◌≡◌, ℕ, ◌+◌, ◌*◌, ◌≤◌, List, false, true, length, replicate, Option, Some, None}
use Rattle.std.specs.Prelude.{MatchOption, is_none, is_some, slice_get, slice_set, refl}
use Rattle.std.proofs.Common.{zero, suc, arith, inl, inr, subst}
use Rattle.std.proofs.lemmas.Option.{slice_get_cases}
use Rattle.bn_circuits.specs.declared.line.Line.{Line}
use Rattle.bn_packed.specs.Ends.{EndList, AreReversed, AreTargets, IsWiring, nth_line, sources_by, targets_by}
use Rattle.bn_packed.proofs.AcrossLemmas.{across-IsWiring}
use Rattle.bn_packed.proofs.ReversedLemmas.{loose_reversed, more_reversed, none_reversed, reversed-IsWiring}

module _ (e : EndList) (are : AreTargets e) where
  -- the first ends from their other lines
  reversed_there : (n : ℕ) → n ≤ length e.ends → (back : List (Option Line)) × AreReversed e.ends n back
  reversed_there zero low =
      let none : EndList = record { elements = e.elements; ends = replicate (4 * e.elements) None } in
      (none.ends, none_reversed e none are refl)
  reversed_there (suc n) low = one_more (reversed_there n (omega arith)) (slice_get e.ends n) refl
    where
      next : {back : List (Option Line)} → AreReversed e.ends (n + 1) back → AreReversed e.ends (suc n) back
      next {back} so_far = let same : n + 1 ≡ suc n = omega arith in subst (λ k. AreReversed e.ends k back) same so_far

      one_more : ((back : List (Option Line)) × AreReversed e.ends n back) → (o : Option (Option Line))
          → slice_get e.ends n ≡ o
          → (back : List (Option Line)) × AreReversed e.ends (suc n) back
      one_more so_far None is = elim (slice_get_cases e.ends n).1 [
        | inl here ↦ (let has : slice_get e.ends n ≡ Some here.0 = here.2 in absurd (cc))
        | inr past ↦ (let high = past.0 in absurd (omega arith))
      ]
      one_more so_far (Some None) is = (so_far.0, next (loose_reversed e n so_far.0 is so_far.1))
      one_more so_far (Some (Some to)) is =
          let after : List (Option Line) = slice_set so_far.0 (4 * to.element + to.line) (Some (nth_line n)) in
          (after, next (more_reversed e n to so_far.0 after are is refl so_far.1))

  pub wiring_there : (s : EndList) × IsWiring (targets_by e) (sources_by s)
  wiring_there =
      let back = reversed_there (length e.ends) (omega arith) in
      let s : EndList = record { elements = e.elements; ends = back.0 } in
      (s, across-IsWiring e s (reversed-IsWiring e s are refl back.1))

-- where no room is left, it is made
pub way_back-IsWiring : {X : Type 0} (room : Option X) (Made : Type 0) (Unmade : X → Type 0) → is_none room ≡ true
    → MatchOption room Made Unmade → Made
way_back-IsWiring None Made Unmade is made = made
way_back-IsWiring (Some room) Made Unmade is unmade = absurd (cc)

pub none_left : {X : Type 0} (room : Option X) → is_some room ≡ false → is_none room ≡ true
none_left None is = refl
none_left (Some room) is = absurd (cc)
