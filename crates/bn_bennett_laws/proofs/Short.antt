-- Runs within limits are short.
use Rattle.std.specs.Prelude.{◌≡◌, ℕ, suc, ◌+◌, ◌*◌, ◌<◌, ◌≤◌, ◌⊎◌, ℤ, pos, ◌≤ℤ◌, List, length}
use Rattle.std.proofs.Common.{ap, arith, inl, inr}
use Rattle.std.proofs.lemmas.Int.{ints}
use Rattle.std.proofs.lemmas.Bool.{cases_lt}
use Rattle.bn_lists.specs.Runs.{Reaches}
use Rattle.bn_machine.specs.Window.{IsBetween}
use Rattle.bn_machine.specs.Machine.{Program, Moment}
use Rattle.bn_machine.specs.Outcome.{Limits, Outcome, HasOutcome}
use Rattle.bn_machine.specs.Outcome as outcome
use Rattle.bn_machine.proofs.OutcomeLemmas.{run_goes_on, outcome_exists}
use Rattle.bn_quad.specs.Quadruples.{Configuration, AreAllowed}
use Rattle.bn_quad.specs.Overlap.{IsDeterministic}
use Rattle.bn_bennett_laws.specs.List.{bennett, final_name}
use Rattle.bn_bennett_laws.specs.Steps.{Exit, Finished, Stopped, Leaving}
use Rattle.bn_bennett_laws.proofs.StageStepLemmas.{steps_once, ends_there, run_allowed}
use Rattle.bn_bennett_laws.specs.Stages.{IsStandardMachine, IsSpelledBy, beginning, ending, StepsOf, rooms_of, Comes}
use Rattle.bn_bennett_laws.specs.Stages.{IsAfter, EndsAs}
use Rattle.bn_bennett_laws.specs.Laws.{BoundedRunsAreShort}
use Rattle.bn_bennett_laws.proofs.Bounded.{at_zero, bounded_forth}
use Rattle.bn_bennett_laws.proofs.Tests.{list_deterministic}
use Rattle.bn_bennett_laws.specs.declared.name.Name.{Name}
use Rattle.bn_bennett_laws.specs.declared.name.Name.TheVariants.{Compute, ComputeWithin, GoRight, CopyLetter, GoLeft}
use Rattle.bn_bennett_laws.specs.declared.name.Name.TheVariants.{PassLetter, Retrace, RetraceWithin}

-- a halted outcome has room for its output and the blank behind it
halted_fits : (p : Program) (l : Limits) (i : ℕ) (c : Moment) (y : List ℕ) → outcome.ComesOut p l i c (outcome.Halted y)
    → length y + 1 ≤ l.output
halted_fits p l i c y (outcome.halts z final out (outcome.copied room why)) =
    let same : y ≡ z = cc in
    let long : length y ≡ length z = ap length same in
    let last : length z + 1 ≤ l.output = (room (length z + 1) (omega arith) (omega arith)).output in
    omega arith
halted_fits p l i c y (outcome.halts z final out (outcome.work_short j short beyond why)) = absurd (cc)
halted_fits p l i c y (outcome.halts z final out (outcome.output_short j short fits past why)) = absurd (cc)
halted_fits p l i c y (outcome.sticks stuck why) = absurd (cc)
halted_fits p l i c y (outcome.runs_out d goes full why) = absurd (cc)
halted_fits p l i c y (outcome.leaves d side goes early beyond why) = absurd (cc)

-- how far a run has come that would leave next
after_short : (steps output i n : ℕ) (state : Name) (two three : ℤ) → IsBetween 0 steps two → IsBetween 0 output three
    → IsAfter i n state two three → n ≤ 4 * steps + 4 * output + 5
after_short steps output i n (Compute s) two three a b h = let at : two ≡ pos i = h.0 in let low : two ≤ℤ pos steps =
    a.below in let count : n ≡ 2 * i = h.1 in let few : i ≤ steps = omega (arith, ints) in omega arith
after_short steps output i n (ComputeWithin m) two three a b h = let at : two ≡ pos (suc i) =
    h.0 in let low : two ≤ℤ pos steps = a.below in let count : n ≡ 2 * i + 1 = h.1 in let few : i
    ≤ steps = omega (arith, ints) in omega arith
after_short steps output i n GoRight two three a b h =
    let at : two ≡ pos i = h.0 in
    let low : two ≤ℤ pos steps = a.below in
    let few : i ≤ steps = omega (arith, ints) in
    let k : ℕ = h.1.0 in
    let there : three ≡ pos k = h.1.1 in
    let near : three ≤ℤ pos output = b.below in
    let short : k ≤ output = omega (arith, ints) in
    let count : n ≡ 2 * i + 2 * k + 1 = h.1.2 in
    omega arith
after_short steps output i n CopyLetter two three a b h = absurd h
after_short steps output i n GoLeft two three a b h = absurd h
after_short steps output i n PassLetter two three a b h = absurd h
after_short steps output i n (Retrace s) two three a b h = absurd h
after_short steps output i n (RetraceWithin m) two three a b h = absurd h

module _ (p : Program) (word : List ℕ) (standard : IsStandardMachine p) (letters : IsSpelledBy p word) (l : Limits)
  where
    abbrev limit : ℕ
    limit = 4 * l.steps + 4 * l.output + 5

    apart : IsDeterministic (bennett p)
    apart = list_deterministic p standard.standard

    at_start : AreAllowed (rooms_of l) (beginning p word)
    at_start = record { one = at_zero l.left l.right; two = at_zero 0 l.steps; three = at_zero 0 l.output }

    short_end : (i : ℕ) (o : Outcome) → HasOutcome p word l i o → EndsAs p word l i o
        → (n : ℕ) × (d : Configuration Name) × (e : Exit) × Comes p word l n d e × (n ≤ limit)
    short_end i (outcome.Halted y) h ends =
        let fits = halted_fits p l i h.moment y h.ends in
        let in_time : i ≤ l.steps = h.in_time in
        (4 * i + 4 * length y + 5, ending p word y, Finished, ends.1, omega arith)
    short_end i (outcome.Stuck s a) h ends = let in_time : i ≤ l.steps =
        h.in_time in (2 * i, ends.0, Stopped, ends.1, omega arith)
    short_end i (outcome.Outside tape side) h ends =
        let inside = run_allowed (rooms_of l) (bennett p) (final_name p) apart ends.0 (beginning p word) ends.1 at_start
        ends.2.run in (
          ends.0,
          ends.1,
          Leaving tape side,
          ends.2,
          after_short l.steps l.output i ends.0 ends.1.state ends.1.two.head
              ends.1.three.head inside.two inside.three ends.3,
        )

    not_longer : (n : ℕ) (x : Configuration Name) → Reaches (StepsOf p (rooms_of l)) n (beginning p word) x
        → (m : ℕ) (d : Configuration Name) (e : Exit) → Comes p word l m d e → (m < n) ⊎ (n ≤ m) → n ≤ m
    not_longer n x run m d e comes (inr h) = h
    not_longer n x run m d e comes (inl low) =
        let more = run_goes_on (StepsOf p (rooms_of l)) (steps_once (rooms_of l) (bennett p) (final_name p) apart) m n
        (beginning p word) d x low comes.run run in
        absurd (ends_there (rooms_of l) (bennett p) (final_name p) apart d more.0 e comes.ends more.1)

    short : (n : ℕ) (x : Configuration Name) → Reaches (StepsOf p (rooms_of l)) n (beginning p word) x → n ≤ limit
    short n x run =
        let found = outcome_exists p word l in
        let end = short_end found.0 found.1 found.2 (bounded_forth p word standard letters l found.0 found.1 found.2) in
        let high : end.0 ≤ limit = end.4 in
        let low : n ≤ end.0 = not_longer n x run end.0 end.1 end.2 end.3 (cases_lt end.0 n) in
        omega arith

pub bounded_runs_are_short : BoundedRunsAreShort
bounded_runs_are_short p word standard letters l n x run = short p word standard letters l n x run
