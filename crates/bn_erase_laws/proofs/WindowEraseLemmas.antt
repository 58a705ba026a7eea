-- The erasing machine comes to its end in a window exactly where both machines halt in it.
use Rattle.std.specs.Prelude.{◌≡◌, ℕ, zero, suc, ◌+◌, ◌*◌, ◌<◌, ℤ, pos, ◌-ℤ◌, ◌≤ℤ◌, List, length, All}
use Rattle.std.proofs.Common.{refl, sym, ap, ◌∙◌, subst, arith}
use Rattle.std.proofs.lemmas.Int.{ints}
use Rattle.bn_lists.specs.Runs.{Reaches}
use Rattle.bn_machine.specs.Machine.{Moment, Program}
use Rattle.bn_machine.specs.Outcome.{Limits, Outcome, Halted, Stuck, Outside, HasOutcome, copied, work_short}
use Rattle.bn_machine.specs.Outcome.{output_short, ComesOut, halts, sticks, runs_out, leaves}
use Rattle.bn_machine.specs.Tape.{blank_tape}
use Rattle.bn_machine.specs.Window.{IsBetween}
use Rattle.bn_machine.specs.declared.quint.Side.{Side}
use Rattle.bn_machine.specs.declared.quint.Side.TheVariants.{Left, Right}
use Rattle.bn_machine.proofs.OutcomeLemmas.{outcome_exists}
use Rattle.bn_quad.specs.Quadruples.{Configuration, Rooms, AreAllowed, turned_list, everywhere}
use Rattle.bn_quad.proofs.ReversibleLemmas.{same_configuration}
use Rattle.bn_bennett_laws.proofs.Tapes.{ahead_none}
use Rattle.bn_bennett_laws.specs.List.{bennett, initial_name, final_name}
use Rattle.bn_bennett_laws.specs.Renamed.{in_state}
use Rattle.bn_bennett_laws.specs.Stages.{IsStandardMachine, IsSpelledBy, beginning, ending, StepsOf, rooms_of, Comes}
use Rattle.bn_bennett_laws.specs.Stages.{EndsAs}
use Rattle.bn_bennett_laws.specs.Steps.{Steps, Exit, Finished, Stopped, Leaving, EndsAt, HasExit, IsFirstOutside}
use Rattle.bn_bennett_laws.specs.Steps as quads
use Rattle.bn_bennett_laws.specs.Laws.{HaltsAfter}
use Rattle.bn_bennett_laws.proofs.Bounded.{bounded_forth}
use Rattle.bn_bennett_laws.proofs.StageStepLemmas.{exits_once}
use Rattle.bn_bennett_laws.proofs.Tests.{list_deterministic}
use Rattle.bn_bennett_laws.proofs.Uniform.{list_uniform}
use Rattle.bn_bennett_laws.specs.declared.name.Name.{Name}
use Rattle.bn_erase_laws.specs.declared.name.ErasingName.{ErasingName}
use Rattle.bn_erase_laws.specs.declared.name.ErasingName.TheVariants.{First}
use Rattle.bn_erase_laws.specs.Lists.{exchanged_tapes, exchanged_rooms}
use Rattle.bn_erase_laws.specs.Erasing.{second_name, first_half, second_half, erasing, erasing_initial, erasing_middle}
use Rattle.bn_erase_laws.specs.Erasing.{erasing_final, erasing_start, erasing_end, IsWord, StepsBackOf}
use Rattle.bn_erase_laws.proofs.TurnedLemmas.{run_turned, run_turned_back}
use Rattle.bn_erase_laws.proofs.JoinedLemmas.{joined_run, joined_halves}
use Rattle.bn_erase_laws.proofs.ErasingLemmas.{second_once, halves_join, initial_in, back_initial_in}
use Rattle.bn_erase_laws.proofs.ComparedLemmas.{compares_back}
use Rattle.bn_erase_laws.proofs.TheoremLemmas.{start_as_first, middle_as_second, output_letters}
use Rattle.bn_erase_laws.specs.EraseWindows.{BothHaltIn, EndsIn, erasing_steps, second_window}
use Rattle.bn_erase_laws.specs.EraseWindowLaws.{ErasesInWindows}
use Rattle.bn_erase_laws.proofs.WindowHaltLemmas.{halts_after, halts_once}
use Rattle.bn_erase_laws.proofs.WindowHalvesLemmas.{first_forth, first_back, second_forth, second_back, first_rule}
use Rattle.bn_erase_laws.proofs.WindowHalvesLemmas.{run_in_more}

at_zero : (left right : ℕ) → IsBetween left right (pos 0)
at_zero left right = record { above = omega (arith, ints); below = omega (arith, ints) }

right_part : (left right : ℕ) (z : ℤ) → IsBetween 0 right z → IsBetween left right z
right_part left right z h =
    let above : (pos 0 -ℤ pos 0) ≤ℤ z = h.above in
    record { above = omega (arith, ints); below = h.below }

module _ (l : Limits) where
  -- where the second machine's heads may be, before its tapes are exchanged
  abbrev pub back_rooms : Rooms
  back_rooms = exchanged_rooms (rooms_of l)

  -- a run of the second machine's in its own window is one there
  widened : (q : Program) (n : ℕ) (c d : Configuration Name) → Reaches (StepsOf q (rooms_of (second_window l))) n c d
      → Reaches (StepsOf q back_rooms) n c d
  widened q n c d run =
      run_in_more (bennett q) (final_name q) (rooms_of (second_window l)) back_rooms (λ z h. h) (λ z h. h)
      (right_part l.left l.right) n c d run

  -- where a head is outside its own window, and not left of tape 1, it is outside there
  outside_still : (d : Configuration Name) (tape : ℕ) (side : Side) → (tape ≡ 3 → side ≡ Right)
      → IsFirstOutside (rooms_of (second_window l)) d tape side → IsFirstOutside back_rooms d tape side
  outside_still d zero side only h = h
  outside_still d (suc zero) side only h = h
  outside_still d (suc (suc zero)) side only h = h
  outside_still d (suc (suc (suc zero))) Right only h = h
  outside_still d (suc (suc (suc zero))) Left only h = absurd (let both : Left ≡ Right = only refl in cc)
  outside_still d (suc (suc (suc (suc n)))) side only h = h

  ends_still : (q : Program) (d : Configuration Name) (e : Exit)
      → ((tape : ℕ) (side : Side) → e ≡ Leaving tape side → tape ≡ 3 → side ≡ Right)
      → EndsAt (rooms_of (second_window l)) (bennett q) (final_name q) d e
      → EndsAt back_rooms (bennett q) (final_name q) d e
  ends_still q d e only (quads.finishes is why) = quads.finishes is why
  ends_still q d e only (quads.stops going none why) = quads.stops going none why
  ends_still q d e only (quads.leaves tape side b going follows out why) =
      quads.leaves tape side b going follows (outside_still b tape side (only tape side why) out) why

-- a bounded run is never outside left of its output tape
outside_right : (p : Program) (l : Limits) (i : ℕ) (c : Moment) (tape : ℕ) (side : Side)
    → ComesOut p l i c (Outside tape side) → tape ≡ 3 → side ≡ Right
outside_right p l i c tape side (halts z final out (copied room why)) is = absurd (cc)
outside_right p l i c tape side (halts z final out (work_short j short beyond why)) is = cc
outside_right p l i c tape side (halts z final out (output_short j short inside past why)) is = cc
outside_right p l i c tape side (sticks stuck why) is = absurd (cc)
outside_right p l i c tape side (runs_out d goes full why) is = cc
outside_right p l i c tape side (leaves d s goes early beyond why) is =
    let one : tape ≡ 1 = cc in
    absurd (omega arith)

-- ---- the first half

module _ (p : Program) (x : List ℕ) (l : Limits) (standard : IsStandardMachine p) (letters : IsSpelledBy p x) (i : ℕ)
    (d : Configuration Name) (run : Reaches (StepsOf p (rooms_of l)) i (beginning p x) d)
    (final : d.state ≡ final_name p) where
  ended : Comes p x l i d Finished
  ended = record { run = run; ends = quads.finishes final refl }

  ended_once : (n : ℕ) (b : Configuration Name) (e : Exit) → Comes p x l n b e → (i ≡ n) × (d ≡ b) × (Finished ≡ e)
  ended_once n b e comes =
      exits_once (rooms_of l) (bennett p) (final_name p) (list_deterministic p standard.standard) i n (beginning p x) d
      b Finished e ended comes

  abbrev Halting : Type 0
  Halting = (v : ℕ) × (y : List ℕ) × HasOutcome p x l v (Halted y) × (i ≡ 4 * v + 4 * length y + 5) × (d ≡ ending p x y)

  halting_by : (v : ℕ) (o : Outcome) → HasOutcome p x l v o → EndsAs p x l v o → Halting
  halting_by v (Halted y) h ends = let same = ended_once _ _ _ ends.1 in (v, y, h, same.0, same.1)
  halting_by v (Stuck state symbol) h ends = let same : Finished ≡ Stopped = (ended_once _ _ _ ends.1).2 in absurd (cc)
  halting_by v (Outside tape side) h ends =
      let same : Finished ≡ Leaving tape side = (ended_once _ _ _ ends.2).2 in absurd (cc)

  -- a run that comes to the end is that of a machine that halts
  halting : Halting
  halting =
      let found = outcome_exists p x l in
      halting_by found.0 found.1 found.2 (bounded_forth p x standard letters l found.0 found.1 found.2)

-- ---- the second half

module _ (q : Program) (y x : List ℕ) (l : Limits) (standard : IsStandardMachine q) (letters : IsSpelledBy q y)
    (w : ℕ) (halted : HaltsAfter q y w x) (j : ℕ)
    (run : Reaches (StepsOf q (back_rooms l)) j (beginning q y) (ending q y x)) where
  only_once : (n : ℕ) (b : Configuration Name) (e : Exit)
      → HasExit (back_rooms l) (bennett q) (final_name q) n (beginning q y) b e → Finished ≡ e
  only_once n b e other =
      let ended : HasExit (back_rooms l) (bennett q) (final_name q) j (beginning q y) (ending q y x) Finished =
      record { run = run; ends = quads.finishes refl refl } in
      (exits_once (back_rooms l) (bennett q) (final_name q) (list_deterministic q standard.standard) j n
      (beginning q y) (ending q y x) b Finished e ended other).2

  back_by : (i : ℕ) (o : Outcome) → HasOutcome q y (second_window l) i o → EndsAs q y (second_window l) i o
      → HasOutcome q y (second_window l) w (Halted x)
  back_by i (Halted z) h ends =
      let same = halts_once q y i w z x (halts_after q y (second_window l) i z h) halted in
      subst (λ (k : ℕ). HasOutcome q y (second_window l) k (Halted x)) same.0
      (subst (λ (zs : List ℕ). HasOutcome q y (second_window l) i (Halted zs)) same.1 h)
  back_by i (Stuck state symbol) h ends =
      let exit : HasExit (back_rooms l) (bennett q) (final_name q) (2 * i) (beginning q y) ends.0 Stopped = record {
        run = widened l q (2 * i) (beginning q y) ends.0 ends.1.run;
        ends = ends_still l q ends.0 Stopped (λ t s why is. absurd (cc)) ends.1.ends;
      } in
      let same : Finished ≡ Stopped = only_once (2 * i) ends.0 Stopped exit in absurd (cc)
  back_by i (Outside tape side) h ends =
      let only = outside_right q (second_window l) i h.moment tape side h.ends in
      let exit : HasExit (back_rooms l) (bennett q) (final_name q) ends.0 (beginning q y) ends.1 (Leaving tape side) =
      record {
        run = widened l q ends.0 (beginning q y) ends.1 ends.2.run;
        ends = ends_still l q ends.1 (Leaving tape side) (λ t s why is. by t s why is only) ends.2.ends;
      } in
      let same : Finished ≡ Leaving tape side = only_once ends.0 ends.1 (Leaving tape side) exit in absurd (cc)
    where
      by : (t : ℕ) (s : Side) → Leaving tape side ≡ Leaving t s → t ≡ 3 → (tape ≡ 3 → side ≡ Right) → s ≡ Right
      by t s why is only =
          let tapes : tape ≡ t = cc in
          let sides : side ≡ s = cc in
          sym sides ∙ only (tapes ∙ is)

  back_halting : HasOutcome q y (second_window l) w (Halted x)
  back_halting =
      let found = outcome_exists q y (second_window l) in
      back_by found.0 found.1 found.2
      (bounded_forth q y standard letters (second_window l) found.0 found.1 found.2)

-- ---- the whole

module _ (p q : Program) (x : List ℕ) (l : Limits) (left : IsStandardMachine p) (right : IsStandardMachine q)
    (same : p.symbols ≡ q.symbols) (letters : IsSpelledBy p x) (word : IsWord x) where
  end_as_second : (y : List ℕ) → in_state (second_name p q) (exchanged_tapes (beginning q y)) ≡ erasing_end q y
  end_as_second y = same_configuration _ _ refl refl (ahead_none blank_tape) refl

  starts_allowed : (y : List ℕ) → AreAllowed (back_rooms l) (beginning q y)
  starts_allowed y = record {
    one = at_zero 0 l.output;
    two = at_zero 0 l.steps;
    three = at_zero l.left l.right;
  }

  ends_allowed : (y : List ℕ) → AreAllowed (back_rooms l) (ending q y x)
  ends_allowed y = record {
    one = at_zero 0 l.output;
    two = at_zero 0 l.steps;
    three = at_zero l.left l.right;
  }

  forth : (v w : ℕ) (y : List ℕ) → BothHaltIn p q x l v w y
      → EndsIn p q x l (erasing_steps x y v w) (erasing_end q y) Finished
  forth v w y h =
      let m : ℕ = 4 * v + 4 * length y + 5 in
      let n : ℕ = 4 * w + 4 * length x + 5 in
      let spelled = output_letters p q left right x y v same letters (halts_after p x l v y h.there) in
      let one = (bounded_forth p x left letters l v (Halted y) h.there).1.run in
      let first = first_forth p q left right (rooms_of l) m (beginning p x) (ending p x y) one in
      let own = (bounded_forth q y right spelled (second_window l) w (Halted x) h.back).1.run in
      let back = run_turned (bennett q) (initial_name q) (final_name q) (list_uniform q right.standard) (back_rooms l) n
      (beginning q y) (ending q y x) (starts_allowed y) (widened l q n (beginning q y) (ending q y x) own) in
      let second = second_forth p q left right (rooms_of l) n (ending q y x) (beginning q y) back in
      let last : Configuration ErasingName = in_state (second_name p q) (exchanged_tapes (beginning q y)) in
      let joined =
      joined_run (erasing_middle p) (erasing_initial p) (erasing_final q) (first_half p) (second_half p q)
      (halves_join p q left.standard right.standard) (rooms_of l) (erasing_steps x y v w) m n _ _ _ (omega arith) first
      (subst (λ c. Reaches (Steps (rooms_of l) (second_half p q) (erasing_final q)) n c last)
      (sym (middle_as_second p q left right x y)) second) in
      record {
        run = subst (λ c. Reaches (Steps (rooms_of l) (erasing p q) (erasing_final q)) (erasing_steps x y v w) c
            (erasing_end q y)) (start_as_first p q left right x)
            (subst (λ d. Reaches (Steps (rooms_of l) (erasing p q) (erasing_final q)) (erasing_steps x y v w)
            (in_state First (beginning p x)) d) (end_as_second y) joined);
        ends = quads.finishes refl refl;
      }

  abbrev Erased : ℕ → Configuration ErasingName → Type 0
  Erased n e = (v w : ℕ) × (y : List ℕ) × BothHaltIn p q x l v w y × (n ≡ erasing_steps x y v w) × (e ≡ erasing_end q y)

  second_part : (n i j v : ℕ) (y : List ℕ) (e : Configuration ErasingName) → HasOutcome p x l v (Halted y) → n ≡ i + j
      → i ≡ 4 * v + 4 * length y + 5
      → Reaches (Steps (rooms_of l) (second_half p q) (erasing_final q)) j (in_state First (ending p x y)) e
      → e.state ≡ erasing_final q → Erased n e
  second_part n i j v y e h sum count run is =
      let spelled = output_letters p q left right x y v same letters (halts_after p x l v y h) in
      let found = second_back p q left right (rooms_of l) j (ending q y x) e (back_initial_in q right.machine.some)
      (subst (λ c. Reaches (Steps (rooms_of l) (second_half p q) (erasing_final q)) j c e)
      (middle_as_second p q left right x y) run) in
      let named : second_name p q found.0.state ≡ second_name p q (initial_name q) =
      sym (ap (λ (c : Configuration ErasingName). c.state) found.2) ∙ is in
      let free_run : Reaches (StepsBackOf q everywhere) j (ending q y x) found.0 =
      run_in_more (turned_list (bennett q)) (initial_name q) (back_rooms l) everywhere (λ z h. tt) (λ z h. tt)
      (λ z h. tt) j (ending q y x) found.0 found.1 in
      let whole = compares_back q y x right spelled (subst (λ z. All (λ s. s < z) x) same letters) word j found.0
      free_run (second_once p q found.0.state (initial_name q) named) in
      let steps : j ≡ 4 * whole.0 + 4 * length x + 5 = whole.2 in
      let turned_run : Reaches (StepsBackOf q (back_rooms l)) j (ending q y x) (beginning q y) =
      subst (λ (c : Configuration Name). Reaches (StepsBackOf q (back_rooms l)) j (ending q y x) c) whole.3 found.1 in
      let own = run_turned_back (bennett q) (initial_name q) (final_name q) (list_uniform q right.standard)
      (back_rooms l) j (beginning q y) (ending q y x) (ends_allowed y) turned_run in (
        v,
        whole.0,
        y,
        record { there = h; back = back_halting q y x l right spelled whole.0 whole.1 j own },
        omega arith,
        found.2 ∙ ap (λ c. in_state (second_name p q) (exchanged_tapes c)) whole.3 ∙ end_as_second y,
      )

  first_part : (n i j : ℕ) (d e : Configuration ErasingName) → n ≡ i + j → d.state ≡ erasing_middle p
      → Reaches (Steps (rooms_of l) (first_half p) (erasing_middle p)) i (erasing_start p x) d
      → Reaches (Steps (rooms_of l) (second_half p q) (erasing_final q)) j d e → e.state ≡ erasing_final q → Erased n e
  first_part n i j d e sum middle first second is =
      let back = first_back p q left right (rooms_of l) i (beginning p x) d (initial_in p left.machine.some)
      (subst (λ c. Reaches (Steps (rooms_of l) (first_half p) (erasing_middle p)) i c d)
      (sym (start_as_first p q left right x)) first) in
      let named : First back.0.state ≡ First (final_name p) = sym
      (ap (λ (c : Configuration ErasingName). c.state) back.2) ∙ middle in
      let found = halting p x l left letters i back.0 back.1 (cc) in
      second_part n i j found.0 found.1 e found.2 sum found.3
      (subst (λ c. Reaches (Steps (rooms_of l) (second_half p q) (erasing_final q)) j c e)
      (back.2 ∙ ap (in_state First) found.4) second) is

  finished_state : (d : Configuration ErasingName) (e : Exit) → e ≡ Finished
      → EndsAt (rooms_of l) (erasing p q) (erasing_final q) d e → d.state ≡ erasing_final q
  finished_state d e is (quads.finishes final why) = final
  finished_state d e is (quads.stops going none why) = absurd (let both : Stopped ≡ Finished = sym why ∙ is in cc)
  finished_state d e is (quads.leaves tape side b going follows out why) =
      absurd (let both : Leaving tape side ≡ Finished = sym why ∙ is in cc)

  backward_from : (n : ℕ) (d : Configuration ErasingName) → EndsIn p q x l n d Finished → Erased n d
  backward_from n d h =
      let is = finished_state d Finished refl h.ends in
      let rule = first_rule p q left right (rooms_of l) in
      let halves =
      joined_halves (erasing_middle p) (erasing_initial p) (erasing_final q) (first_half p) (second_half p q)
      (halves_join p q left.standard right.standard) rule.0 rule.1 rule.2 (rooms_of l) n (erasing_start p x) d refl
      h.run is in
      first_part n halves.i halves.j halves.meeting d halves.sum halves.meets halves.first halves.second is

pub erases-in_windows : ErasesInWindows
erases-in_windows p q x l left right same letters word = (
  forth p q x l left right same letters word,
  backward_from p q x l left right same letters word,
)
