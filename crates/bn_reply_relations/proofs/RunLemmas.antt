-- The run of a board has one exit, one count of moments and one text.
use Rattle.std.specs.Prelude.{◌≡◌, ◌≢◌, ℕ, ◌+◌, ◌-◌, ◌<◌, ◌≤◌, Bool, true, false, Option, Some, None, is_some, refl}
use Rattle.std.proofs.Common.{zero, suc, arith, zero-add, inl, inr, sym, ap, subst, ◌∙◌}
use Rattle.std.proofs.lemmas.Bool.{cases_lt}
use Rattle.bn_lists.specs.Runs.{Reaches}
use Rattle.bn_circuits.specs.Circuits.{Circuit, Goes, IsStuck}
use Rattle.bn_circuits.specs.Counting.{one_if, tally}
use Rattle.bn_circuits.proofs.RunLemmas.{Reaches-run, next-stuck, run-zero}
use Rattle.bn_circuits.specs.declared.place.Place.{Place}
use Rattle.bn_circuits.specs.declared.config.Config.{Config}
use Rattle.bn_circuits.proofs.CountingLemmas.{tallies-add, tally-more, tally-zero}
use Rattle.bn_circuits.proofs.RunPartLemmas.{runs_split, steps_of_run}
use Rattle.bn_machine.specs.Outcome.{Outcome}
use Rattle.bn_machine.proofs.OutcomeLemmas.{outcome_exists}
use Rattle.bn_boards.specs.declared.exit.Exit.{Exit}
use Rattle.bn_boards.specs.declared.exit.Exit.TheVariants as exit
use Rattle.bn_boards.specs.BoardMoments.{IsBoardMoment}
use Rattle.bn_boards.specs.Layouts.{IsExit, IsNamedExit, Layout, ends, inside, is_moment, left, moment_at, moments}
use Rattle.bn_boards.specs.Layouts.{named, right, stuck, unnamed}
use Rattle.bn_boards.specs.Flats.{Flat, flat_start, machine_of}
use Rattle.bn_boards.proofs.ReadingLemmas.{own_accepted, own_flat}
use Rattle.bn_boards.specs.BoardRuns.{RunsToExit}
use Rattle.bn_boards.specs.RunLaws.{BoardsRunToTheirExit}
use Rattle.bn_boards.specs.Moments.{BoardsHaveMoments, HasMoments}
use Rattle.bn_boards.proofs.CountLemmas.{before_end}
use Rattle.bn_boards.proofs.OutcomeLemmas.{at_cost, not_unnamed}
use Rattle.bn_reply_relations.specs.Counts.{Counts}
use Rattle.bn_reply_relations.specs.RunReply.{HasMoment, board_after}
use Rattle.bn_reply_relations.specs.Laws.{ExitsAreNamed, MomentsAreCounted}
use Rattle.bn_reply_relations.proofs.CountLemmas.{counts_more}

-- an exit that isn't without a name has one
pub named_of : (b : Layout) (at : Place) (e : Exit) → IsExit b at e → e ≢ exit.Unnamed → IsNamedExit b at e
named_of b at e (named h) some = h
named_of b at e (unnamed is none) some = absurd (some is)

-- after each number of steps there is an exit with a name
pub exits-named : BoardsRunToTheirExit → ExitsAreNamed
exits-named boards p symbols l f flat accepted n =
    let some = outcome_exists p symbols l in
    by_order some.0 some.1 (boards p symbols l f flat accepted some.0 some.1 some.2)
  where
    by_order : (i : ℕ) (o : Outcome) → RunsToExit p f i o → (e : Exit) × IsNamedExit f.layout (board_after f n).place e
    by_order i o ran =
        elim (cases_lt n ran.cost) [
          | inl low ↦
              (let before = before_end f.circuit ran.cost n (flat_start f) (board_after f ran.cost) ran.run_to low in
              (exit.Inside, inside before.0 before.1 before.2))
          | inr high ↦
              (let there : IsNamedExit f.layout (board_after f ran.cost).place ran.exit =
              named_of f.layout (board_after f ran.cost).place ran.exit ran.is_exit
              (not_unnamed f o ran.exit ran.for_outcome) in (
                ran.exit,
                subst (λ (c : Config). IsNamedExit f.layout c.place ran.exit) (sym (at_cost p f i o ran n high)) there,
              ))
        ]

-- what has a name isn't without one
pub named_apart : (b : Layout) (at : Place) (e : Exit) → IsNamedExit b at e → e ≢ exit.Unnamed
named_apart b at e (inside m j there) h = cc
named_apart b at e (ends there) h = cc
named_apart b at e (stuck q a t c kept low there) h = cc
named_apart b at e (right t some few there) h = cc
named_apart b at e (left t some few there) h = cc

-- ---- the number of moments

-- none is counted where no step can be made
tally_stuck : (k : Circuit) (test : Config → Bool) (t : ℕ) (c : Config) → IsStuck k c → tally test k t c ≡ 0
unfolding tally
tally_stuck k test zero c ended = refl
tally_stuck k test (suc t) c ended = rw (next-stuck k c ended) refl

module _ (f : Flat) (cost : ℕ) (run_to : Reaches (Goes f.circuit) cost (flat_start f) (board_after f cost)) where
  -- a front of the run
  front : (n : ℕ) → n ≤ cost → Reaches (Goes f.circuit) n (flat_start f) (board_after f n)
  front n low =
      let cut = runs_split (Goes f.circuit) n (cost - n) cost (flat_start f) (board_after f cost) (omega arith) run_to
      in
      subst (λ c. Reaches (Goes f.circuit) n (flat_start f) c) (sym
      (Reaches-run f.circuit n (flat_start f) cut.0 cut.1)) cut.1

  -- one step of it
  step_on : (n : ℕ) → n < cost → Goes f.circuit (board_after f n) (board_after f (suc n))
  step_on n low =
      let cut = runs_split (Goes f.circuit) n 1 (suc n) (flat_start f) (board_after f (suc n)) (omega arith)
      (front (suc n) (omega arith)) in
      let here : board_after f n ≡ cut.0 = Reaches-run f.circuit n (flat_start f) cut.0 cut.1 in
      let there : cut.2.0 ≡ board_after f (suc n) = cut.2.2 in
      subst (λ c. Goes f.circuit c (board_after f (suc n))) (sym here) (subst (Goes f.circuit cut.0) there cut.2.1)

  -- after n steps it has made n
  pub steps_made : (n : ℕ) → n ≤ cost → (board_after f n).steps ≡ n
  steps_made n low = steps_of_run f.circuit n (flat_start f) (board_after f n) (front n low) ∙ zero-add n

  -- one step more counts one moment more, or none
  moments_more : (n : ℕ) → n < cost → moments f.layout f.circuit (suc n) (flat_start f)
      ≡ moments f.layout f.circuit n (flat_start f) + one_if
      (is_moment f.layout (board_after f (suc n)))
  moments_more n low =
      let both = tallies-add.0 f.circuit (is_moment f.layout) n 1 (flat_start f) (board_after f n)
      (front n (omega arith)) in
      let one = tally-more f.circuit (is_moment f.layout) 0 (board_after f n) (board_after f (suc n)) (step_on n low) in
      let none = tally-zero f.circuit (is_moment f.layout) (board_after f (suc n)) in
      let count : n + 1 ≡ suc n = omega arith in
      let whole : tally (is_moment f.layout) f.circuit (suc n) (flat_start f)
      ≡ tally (is_moment f.layout) f.circuit (n + 1) (flat_start f) =
      ap (λ m. tally (is_moment f.layout) f.circuit m (flat_start f)) (sym count) in
      omega (arith, both, one, none, whole)

  module _ (has : (t a : ℕ) → t ≤ cost → (moment_at f.layout (board_after f t) ≡ Some a → HasMoment f t)
      × (IsBoardMoment (machine_of f) f.limits f.names f.network (board_after f t) a
      → moment_at f.layout (board_after f t) ≡ Some a)) where
    test_holds : (t : ℕ) → t ≤ cost → is_moment f.layout (board_after f t) ≡ true → HasMoment f t
    test_holds t low = by_option (moment_at f.layout (board_after f t)) refl
      where
        by_option : (o : Option ℕ) → moment_at f.layout (board_after f t) ≡ o → is_some o ≡ true → HasMoment f t
        by_option None is test = absurd (cc)
        by_option (Some a) is test = (has t a low).0 is

    test_fails : (t : ℕ) → t ≤ cost → is_moment f.layout (board_after f t) ≡ false → HasMoment f t → ⊥
    test_fails t low test h = let there = (has t h.0 low).1 h.1 in let is : is_some (Some h.0) ≡ false =
        ap (λ (o : Option ℕ). is_some o) (sym there)
        ∙ test in cc

    count_to : (n : ℕ) → n ≤ cost → Counts (HasMoment f) (suc n) (moments f.layout f.circuit n (flat_start f))
    count_to zero low =
        let none = tally-zero f.circuit (is_moment f.layout) (flat_start f) in
        let first : one_if (is_moment f.layout (board_after f 0)) ≡ one_if (is_moment f.layout (flat_start f)) =
        ap (λ c. one_if (is_moment f.layout c)) (run-zero f.circuit (flat_start f)) in
        counts_more (HasMoment f) 0 0 (moments f.layout f.circuit 0 (flat_start f))
        (is_moment f.layout (board_after f 0)) (test_holds 0 low) (test_fails 0 low)
        (omega (arith, none, first)) refl
    count_to (suc n) low =
        counts_more (HasMoment f) (suc n) (moments f.layout f.circuit n (flat_start f))
        (moments f.layout f.circuit (suc n) (flat_start f))
        (is_moment f.layout (board_after f (suc n)))
        (test_holds (suc n) low) (test_fails (suc n) low) (moments_more n (omega arith)) (count_to n (omega arith))

-- the moments that the layout finds on the run are counted
pub moments-counted : BoardsRunToTheirExit → BoardsHaveMoments → MomentsAreCounted
moments-counted boards have p symbols l f flat accepted n =
    let some = outcome_exists p symbols l in
    by_order some.0 some.1 (boards p symbols l f flat accepted some.0 some.1 some.2)
  where
    own : HasMoments f.limits f
    own = have p f.word f.limits f (own_flat p symbols l f flat) (own_accepted p symbols l f flat accepted)

    by_order : (i : ℕ) (o : Outcome) → RunsToExit p f i o →
        Counts (HasMoment f) ((board_after f n).steps + 1) (moments f.layout f.circuit (board_after f n).steps
        (flat_start f))
        × (moments f.layout f.circuit n (flat_start f) ≡ moments f.layout f.circuit (board_after f n).steps
        (flat_start f))
    by_order i o ran =
        let steps = (board_after f n).steps in
        let more : suc steps ≡ steps + 1 = omega arith in (
          subst (λ m. Counts (HasMoment f) m (moments f.layout f.circuit steps (flat_start f))) more
              (count_to f ran.cost ran.run_to found steps made.0),
          made.1,
        )
      where
        found : (t a : ℕ) → t ≤ ran.cost → (moment_at f.layout (board_after f t) ≡ Some a → HasMoment f t)
            × (IsBoardMoment (machine_of f) f.limits f.names f.network (board_after f t) a
            → moment_at f.layout (board_after f t) ≡ Some a)
        found t a low = (
          (λ h. (a, (own.sums ran.cost t a ran.has_cost low).1 ((own.found ran.cost t a ran.has_cost low).0 h))),
          (λ h. (own.found ran.cost t a ran.has_cost low).1 ((own.sums ran.cost t a ran.has_cost low).0 h)),
        )

        -- from the cost on no moment more is counted
        no_more : ran.cost ≤ n → moments f.layout f.circuit n (flat_start f)
            ≡ moments f.layout f.circuit ran.cost (flat_start f)
        no_more high =
            let both = tallies-add.0 f.circuit (is_moment f.layout) ran.cost (n - ran.cost) (flat_start f)
            (board_after f ran.cost) ran.run_to in
            let none = tally_stuck f.circuit (is_moment f.layout) (n - ran.cost) (board_after f ran.cost) ran.ended in
            let sum : ran.cost + (n - ran.cost) ≡ n = omega arith in
            let whole = ap (λ m. tally (is_moment f.layout) f.circuit m (flat_start f)) sum in
            omega (arith, both, none, whole)

        made : ((board_after f n).steps ≤ ran.cost) × (moments f.layout f.circuit n (flat_start f)
            ≡ moments f.layout f.circuit (board_after f n).steps (flat_start f))
        made =
            elim (cases_lt n ran.cost) [
              | inl low ↦
                  (let is = steps_made f ran.cost ran.run_to n (omega arith) in
                  (omega arith, ap (λ m. moments f.layout f.circuit m (flat_start f)) (sym is)))
              | inr high ↦
                  (let there = ap (λ (c : Config). c.steps) (at_cost p f i o ran n high) in
                  let is = steps_made f ran.cost ran.run_to ran.cost (omega arith) in
                  let steps : ran.cost ≡ (board_after f n).steps = omega arith in
                  (omega arith, no_more high ∙ ap (λ m. moments f.layout f.circuit m (flat_start f)) steps))
            ]
