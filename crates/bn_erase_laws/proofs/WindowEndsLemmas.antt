-- In every window the run of the erasing machine ends.
use Rattle.std.specs.Prelude.{◌≡◌, ◌⊎◌, ℕ, ◌+◌, ◌*◌, ◌<◌, ◌≤◌, pos, List, length, All}
use Rattle.std.proofs.Common.{refl, sym, subst, arith, ◌∙◌, inl, inr}
use Rattle.std.proofs.lemmas.Int.{ints}
use Rattle.bn_lists.specs.Runs.{Reaches}
use Rattle.bn_machine.specs.Machine.{Moment, Program, start}
use Rattle.bn_machine.specs.Outcome.{ComesOut, Halted, HasOutcome, Limits, Outcome, Outside, Stuck, copied, halts}
use Rattle.bn_machine.specs.Outcome.{leaves}
use Rattle.bn_machine.specs.Outcome.{runs_out, sticks}
use Rattle.bn_machine.specs.Run.{AfterWithin, Follows}
use Rattle.bn_machine.specs.Tape.{word_tape}
use Rattle.bn_machine.specs.Window.{IsBetween, within}
use Rattle.bn_machine.proofs.MachineStepLemmas.{run_follows}
use Rattle.bn_machine.proofs.OutcomeLemmas.{outcome_exists}
use Rattle.bn_quad.specs.Quadruples.{AreAllowed, Configuration}
use Rattle.bn_bennett_laws.specs.List.{bennett, final_name, initial_name}
use Rattle.bn_bennett_laws.specs.Laws.{AllowsUpTo}
use Rattle.bn_bennett_laws.specs.Renamed.{in_state}
use Rattle.bn_bennett_laws.specs.Stages.{EndsAs, IsSpelledBy, IsStandardMachine, beginning, ending, retracing}
use Rattle.bn_bennett_laws.specs.Stages.{rooms_of}
use Rattle.bn_bennett_laws.specs.Steps.{Finished, Leaving, Steps, Stopped}
use Rattle.bn_bennett_laws.proofs.Bounded.{bounded_forth}
use Rattle.bn_bennett_laws.proofs.Halted.{halted_is_ready}
use Rattle.bn_bennett_laws.proofs.Runs.{follows_allowed, retraces_two_steps}
use Rattle.bn_bennett_laws.proofs.Short.{bounded_runs_are_short}
use Rattle.bn_bennett_laws.proofs.StageStepLemmas.{exits_once}
use Rattle.bn_bennett_laws.proofs.Uniform.{list_uniform}
use Rattle.bn_bennett_laws.specs.declared.name.Name.{Name}
use Rattle.bn_erase_laws.specs.Erasing.{IsWord, StepsBackOf, erasing, erasing_end, erasing_final, erasing_initial}
use Rattle.bn_erase_laws.specs.Erasing.{erasing_middle, erasing_start, first_half, second_half}
use Rattle.bn_erase_laws.specs.declared.name.ErasingName.{ErasingName}
use Rattle.bn_erase_laws.specs.declared.name.ErasingName.TheVariants.{First}
use Rattle.bn_erase_laws.proofs.ErasingLemmas.{erasing_passes_tests, halves_join}
use Rattle.bn_erase_laws.proofs.JoinedLemmas.{joined_run}
use Rattle.bn_erase_laws.proofs.TheoremLemmas.{middle_as_second, output_letters, start_as_first}
use Rattle.bn_erase_laws.proofs.TurnedLemmas.{run_turned}
use Rattle.bn_erase_laws.specs.EraseWindows.{erasing_steps, second_window}
use Rattle.bn_erase_laws.specs.EraseWindowLaws.{RunsEnd, RunsEndOnce}
use Rattle.bn_erase_laws.proofs.WindowComparingLemmas.{compare_halted, full_there, leaves_there, stuck_there}
use Rattle.bn_erase_laws.proofs.WindowEraseLemmas.{back_rooms, erases-in_windows}
use Rattle.bn_erase_laws.proofs.WindowGoingLemmas.{EndsFrom, after_run, as_second, at_once, first_ends}
use Rattle.bn_erase_laws.proofs.WindowHalvesLemmas.{first_forth, second_forth}
use Rattle.bn_erase_laws.proofs.WindowHaltLemmas.{halts_after, halts_at}

module _ (p q : Program) (left : IsStandardMachine p) (right : IsStandardMachine q) (l : Limits) where
  abbrev From : Configuration ErasingName → ℕ → Type 0
  From = EndsFrom p q left right (rooms_of l)

  abbrev Run : ℕ → Configuration ErasingName → Configuration ErasingName → Type 0
  Run = Reaches (Steps (rooms_of l) (erasing p q) (erasing_final q))

  -- a run of the first reversible machine, and one of the second backward
  pub first_run : (n : ℕ) (c d : Configuration Name)
      → Reaches (Steps (rooms_of l) (bennett p) (final_name p)) n c d → Run n (in_state First c) (in_state First d)
  first_run n c d run =
      joined_run (erasing_middle p) (erasing_initial p) (erasing_final q) (first_half p) (second_half p q)
      (halves_join p q left.standard right.standard) (rooms_of l) n n 0 (in_state First c) (in_state First d)
      (in_state First d) (omega arith) (first_forth p q left right (rooms_of l) n c d run) refl

  pub second_run : (n : ℕ) (c d : Configuration Name) → Reaches (StepsBackOf q (back_rooms l)) n c d
      → Run n (as_second p q left right c) (as_second p q left right d)
  second_run n c d run =
      joined_run (erasing_middle p) (erasing_initial p) (erasing_final q) (first_half p) (second_half p q)
      (halves_join p q left.standard right.standard) (rooms_of l) n 0 n (as_second p q left right c)
      (as_second p q left right c) (as_second p q left right d) (omega arith) refl
      (second_forth p q left right (rooms_of l) n c d run)

  zero_in : (a b : ℕ) → IsBetween a b (pos 0)
  zero_in a b = record { above = omega (arith, ints); below = omega (arith, ints) }

  up_to : (n : ℕ) → n ≤ l.steps → AllowsUpTo (within 0 l.steps) (pos 0) n
  up_to n high = λ j low. record { above = omega (arith, ints); below = omega (arith, ints) }

  -- ---- the second half

  module _ (x y : List ℕ) (spelled : IsSpelledBy q y) (letters : IsSpelledBy q x) (word : IsWord x) where
    module _ (ns : List ℕ) (c : Moment) (follows : Follows (within 0 l.output) q ns (start q y) c)
        (in_time : length ns ≤ l.steps) where
      pub inside : IsBetween 0 l.output c.tape.head
      inside = follows_allowed (within 0 l.output) q ns (start q y) c (zero_in 0 l.output) follows

      allowed : AreAllowed (back_rooms l) (retracing c ns (word_tape x))
      allowed = record {
        one = inside;
        two = record { above = omega (arith, ints); below = omega (arith, ints) };
        three = zero_in l.left l.right;
      }

      pub come_to : Run (2 * length ns) (as_second p q left right (ending q y x))
          (as_second p q left right (retracing c ns (word_tape x)))
      come_to = second_run (2 * length ns) (ending q y x) (retracing c ns (word_tape x))
          (run_turned (bennett q) (initial_name q) (final_name q) (list_uniform q right.standard) (back_rooms l)
          (2 * length ns) (retracing c ns (word_tape x)) (ending q y x) allowed
          (retraces_two_steps q (back_rooms l) y ns x c right follows (zero_in 0 l.output) (zero_in l.left l.right)
          (up_to (length ns) in_time)))

      abbrev Second : Type 0
      Second = From (as_second p q left right (ending q y x)) (2 * l.steps + (2 * l.right + 3))
          ⊎ ((i : ℕ) × HasOutcome q y (second_window l) i (Halted x))

      then_ends : (k : ℕ) → k ≤ 2 * l.right + 3
          → From (as_second p q left right (retracing c ns (word_tape x))) k
          → From (as_second p q left right (ending q y x)) (2 * l.steps + (2 * l.right + 3))
      then_ends k low ends = after_run p q left right (rooms_of l) (2 * length ns) k
          (2 * l.steps + (2 * l.right + 3)) _ _ (omega arith) come_to ends

      by_end : (i : ℕ) → length ns ≡ i → (o : Outcome) → HasOutcome q y (second_window l) i o
          → AfterWithin (within 0 l.output) q y i c → ComesOut q (second_window l) i c o → Second
      by_end i count o h made (halts z final out copies) =
          let ready = halted_is_ready q (within 0 l.output) y ns z c right spelled follows final out in
          elim (compare_halted p q left right l c ns x inside in_time ready.last letters word final ready.blank) [
            | inl ends ↦ inl (then_ends (2 * l.right + 3) (omega arith) ends)
            | inr same ↦ inr (
              i,
              record {
                moment = c;
                run = made;
                in_time = h.in_time;
                ends = halts x final same.output (copied same.room refl);
              },
            )
          ]
      by_end i count o h made (sticks stuck why) =
          inl (then_ends 0 (omega arith) (stuck_there p q left right l c ns x inside in_time stuck))
      by_end i count o h made (runs_out d goes full why) =
          inl (then_ends 0 (omega arith) (full_there p q left right l c ns x inside in_time d goes (count ∙ full)))
      by_end i count o h made (leaves d side goes early beyond why) =
          inl (then_ends 1 (omega arith) (leaves_there p q left right l c ns x inside in_time d goes (omega arith) side
          beyond))

    second_ends : From (as_second p q left right (ending q y x)) (2 * l.steps + (2 * l.right + 3))
        ⊎ ((i : ℕ) × HasOutcome q y (second_window l) i (Halted x))
    second_ends =
        let found = outcome_exists q y (second_window l) in
        let h = found.2 in
        let ns = run_follows (within 0 l.output) q found.0 (start q y) h.moment h.run in
        let in_time : length ns.0 ≤ l.steps = subst (λ k. k ≤ l.steps) (sym ns.1) h.in_time in
        by_end ns.0 h.moment ns.2 in_time found.0 ns.1 found.1 h h.run h.ends

  -- ---- the whole

  module _ (x : List ℕ) (same : p.symbols ≡ q.symbols) (letters : IsSpelledBy p x) (word : IsWord x) where
    abbrev most : ℕ
    most = 8 * l.steps + 4 * (l.right + l.output) + 10

    from_start : (n k : ℕ) (d : Configuration Name) → n ≤ 4 * l.steps + 4 * l.output + 5
        → k ≤ 2 * l.steps + (2 * l.right + 3)
        → Reaches (Steps (rooms_of l) (bennett p) (final_name p)) n (beginning p x) d → From (in_state First d) k
        → From (erasing_start p x) most
    from_start n k d short few run ends =
        subst (λ c. From c most) (start_as_first p q left right x)
        (after_run p q left right (rooms_of l) n k most _ _ (omega arith) (first_run n (beginning p x) d run) ends)

    by_outcome : (v : ℕ) (o : Outcome) → HasOutcome p x l v o → EndsAs p x l v o → From (erasing_start p x) most
    by_outcome v (Halted y) h ends =
        let spelled = output_letters p q left right x y v same letters (halts_after p x l v y h) in
        let after = (halts_at p l v h.moment y h.ends).room (length y + 1) (omega arith) (omega arith) in
        let cells : length y + 1 ≤ l.output = after.output in
        let in_time : v ≤ l.steps = h.in_time in
        elim (second_ends x y spelled (subst (λ z. All (λ s. s < z) x) same letters) word) [
          | inl second ↦ from_start (4 * v + 4 * length y + 5) (2 * l.steps + (2 * l.right + 3)) (ending p x y)
              (omega arith) (omega arith) ends.1.run
              (subst (λ c. From c (2 * l.steps + (2 * l.right + 3))) (sym (middle_as_second p q left right x y)) second)
          | inr back ↦
              (let whole = (erases-in_windows p q x l left right same letters word).0 v back.0 y
              (record { there = h; back = back.1 }) in
              let room = (halts_at q (second_window l) back.0 back.1.moment x back.1.ends).room (length x + 1)
              (omega arith)
              (omega arith) in
              let fits : length x + 1 ≤ l.right = room.output in
              let also : back.0 ≤ l.steps = back.1.in_time in
              record {
                steps = erasing_steps x y v back.0;
                last = erasing_end q y;
                exit = Finished;
                run = whole.run;
                ends = whole.ends;
                few = omega arith;
              })
        ]
    by_outcome v (Stuck state symbol) h ends =
        let short = bounded_runs_are_short p x left letters l (2 * v) ends.0 ends.1.run in
        from_start (2 * v) 0 ends.0 short (omega arith) ends.1.run
        (at_once p q left right (rooms_of l) (in_state First ends.0) Stopped 0
        (first_ends p q left right (rooms_of l) ends.0 Stopped (λ e. cc) ends.1.ends))
    by_outcome v (Outside tape side) h ends =
        let short = bounded_runs_are_short p x left letters l ends.0 ends.1 ends.2.run in
        from_start ends.0 0 ends.1 short (omega arith) ends.2.run
        (at_once p q left right (rooms_of l) (in_state First ends.1) (Leaving tape side) 0
        (first_ends p q left right (rooms_of l) ends.1 (Leaving tape side) (λ e. cc) ends.2.ends))

    all_end : From (erasing_start p x) most
    all_end =
        let found = outcome_exists p x l in
        by_outcome found.0 found.1 found.2 (bounded_forth p x left letters l found.0 found.1 found.2)

pub runs-end : RunsEnd
runs-end p q x l left right same letters word =
    let ends = all_end p q left right l x same letters word in
    (ends.steps, ends.last, ends.exit, record { run = ends.run; ends = ends.ends }, ends.few)

pub runs-end_once : RunsEndOnce
runs-end_once p q left right x l m n d b e f =
    exits_once (rooms_of l) (erasing p q) (erasing_final q) (erasing_passes_tests p q left right).0 m n
    (erasing_start p x) d b e f
