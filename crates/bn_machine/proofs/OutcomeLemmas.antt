-- A run of at most n steps comes out in one way and only one, on a tape without ends and within limits.
use Rattle.std.specs.Prelude.{◌≡◌, ℕ, zero, suc, ◌+◌, ◌<◌, ◌≤◌, ℤ, pos, ◌+ℤ◌, ◌-ℤ◌, ◌≤ℤ◌, ◌<ℤ◌, List, length}
use Rattle.std.proofs.Common.{refl, sym, subst, ◌∙◌, ap, arith, inl, inr, ◌⊎◌}
use Rattle.std.proofs.lemmas.Int.{ints, by_lt_z}
use Rattle.std.proofs.lemmas.Bool.{cases_lt}
use Rattle.bn_lists.specs.Runs.{Reaches, IsFunction}
use Rattle.bn_lists.proofs.RunsLemmas.{runs_more, runs_end_once}
use Rattle.bn_machine.specs.Tape.{scanned}
use Rattle.bn_machine.specs.Window.{anywhere, within, IsBetween, IsBeyond}
use Rattle.bn_machine.specs.Machine.{Program, Moment, MachineRunsTo, start}
use Rattle.bn_machine.specs.Run.{AfterWithin}
use Rattle.bn_machine.specs.Run as free
use Rattle.bn_machine.proofs.OutputLemmas.{output_once, output_exists}
use Rattle.bn_machine.proofs.MachineStepLemmas.{goes_once, goes_inside, steps_are_functions, final_stuck_or_goes}
use Rattle.bn_machine.proofs.MachineStepLemmas.{final_not_stuck, final_not_going, stuck_not_going}
use Rattle.bn_machine.specs.Outcome.{Limits, Outcome, Halted, Stuck, Outside, HasRoom, IsFirstShort, Copies, copied}
use Rattle.bn_machine.specs.Outcome.{work_short, output_short, ComesOut, halts, sticks, runs_out, leaves, HasOutcome}
use Rattle.bn_machine.specs.declared.quint.Side.{Side}
use Rattle.bn_machine.specs.declared.quint.Side.TheVariants.{Left, Right}

-- a longer run goes on from the end of a shorter one
pub run_goes_on : {S : Type 0} (step : S → S → Type 0) → IsFunction step → (i j : ℕ) (x c d : S) → i < j
    → Reaches step i x c → Reaches step j x d → (e : S) × step c e
run_goes_on step only i zero x c d h first second = absurd (omega arith)
run_goes_on step only zero (suc j) x c d h first second = (second.0, subst (λ y. step y second.0) first second.1)
run_goes_on step only (suc i) (suc j) x c d h first second =
    let same = only x second.0 first.0 second.1 first.1 in
    let shorter : i < j = omega arith in
    run_goes_on step only i j first.0 c d shorter first.2 (subst (λ y. Reaches step j y d) same second.2)

-- a cell that is missing has no room
off_work : (l : Limits) (h : ℤ) (j : ℕ) → pos l.right <ℤ (h +ℤ pos j) → HasRoom l h j → ⊥
off_work l h j beyond room = let inside : (h +ℤ pos j) ≤ℤ pos l.right = room.work in absurd (omega (arith, ints))

off_output : (l : Limits) (h : ℤ) (j : ℕ) → l.output < j → HasRoom l h j → ⊥
off_output l h j beyond room = let inside : j ≤ l.output = room.output in absurd (omega arith)

-- the first cell without room is one
short_once : (l : Limits) (h : ℤ) (n i j : ℕ) → IsFirstShort l h n i → (HasRoom l h i → ⊥) → IsFirstShort l h n j
    → (HasRoom l h j → ⊥) → i ≡ j
short_once l h n i j a missing b missing_too = by_order (cases_lt i j) (cases_lt j i)
  where
    by_order : (i < j) ⊎ (j ≤ i) → (j < i) ⊎ (i ≤ j) → i ≡ j
    by_order (inl low) k = absurd (missing (b.before i a.starts low))
    by_order (inr high) (inl low) = absurd (missing_too (a.before j b.starts low))
    by_order (inr high) (inr low) = omega arith

not_both_short : (l : Limits) (h : ℤ) (n i j : ℕ) → IsFirstShort l h n i → pos l.right <ℤ (h +ℤ pos i)
    → IsFirstShort l h n j → (h +ℤ pos j) ≤ℤ pos l.right → l.output < j → ⊥
not_both_short l h n i j a beyond b inside past =
    let same : i ≡ j = short_once l h n i j a (off_work l h i beyond) b (off_output l h j past) in
    absurd (omega (arith, ints))

copies_once : (l : Limits) (h : ℤ) (y : List ℕ) (o q : Outcome) → Copies l h y o → Copies l h y q → o ≡ q
copies_once l h y o q (copied room e) (copied room' f) = e ∙ sym f
copies_once l h y o q (copied room e) (work_short j a beyond f) =
    absurd (off_work l h j beyond (room j a.starts a.reached))
copies_once l h y o q (copied room e) (output_short j a inside past f) =
    absurd (off_output l h j past (room j a.starts a.reached))
copies_once l h y o q (work_short i a beyond e) (copied room f) =
    absurd (off_work l h i beyond (room i a.starts a.reached))
copies_once l h y o q (work_short i a beyond e) (work_short j b beyond' f) = e ∙ sym f
copies_once l h y o q (work_short i a beyond e) (output_short j b inside past f) =
    absurd (not_both_short l h (length y) i j a beyond b inside past)
copies_once l h y o q (output_short i a inside past e) (copied room f) =
    absurd (off_output l h i past (room i a.starts a.reached))
copies_once l h y o q (output_short i a inside past e) (work_short j b beyond f) =
    absurd (not_both_short l h (length y) j i b beyond a inside past)
copies_once l h y o q (output_short i a inside past e) (output_short j b inside' past' f) = e ∙ sym f

one_more_room : (l : Limits) (h : ℤ) (j : ℕ) → ((k : ℕ) → 0 < k → k < j → HasRoom l h k) → HasRoom l h j → (k : ℕ)
    → 0 < k → k < suc j → HasRoom l h k
one_more_room l h j before here k low high = by_order (cases_lt k j)
  where
    by_order : (k < j) ⊎ (j ≤ k) → HasRoom l h k
    by_order (inl below) = before k low below
    by_order (inr above) = let same : j ≡ k = omega arith in subst (HasRoom l h) same here

copies_from : (l : Limits) (h : ℤ) (y : List ℕ) (fuel j : ℕ) → j + fuel ≡ length y + 2 → 0 < j
    → ((k : ℕ) → 0 < k → k < j → HasRoom l h k) → (o : Outcome) × Copies l h y o
copies_from l h y zero j e low before = (Halted y, copied (λ k low_k high. before k low_k (omega arith)) refl)
copies_from l h y (suc fuel) j e low before =
    let short : IsFirstShort l h (length y) j = record { starts = low; reached = omega arith; before = before } in
    let next : suc j + fuel ≡ length y + 2 = omega arith in
    by_lt_z (pos l.right) (h +ℤ pos j)
    (λ beyond. (Outside 1 Right, work_short j short beyond refl))
    (λ inside. elim (cases_lt l.output j) [
      | inl past ↦ (Outside 3 Right, output_short j short inside past refl)
      | inr fits ↦ copies_from l h y fuel (suc j) next (omega arith)
          (one_more_room l h j before (record { work = inside; output = fits }))
    ])

copies_exist : (l : Limits) (h : ℤ) (y : List ℕ) → (o : Outcome) × Copies l h y o
copies_exist l h y = copies_from l h y (length y + 1) 1 (omega arith) (omega arith) (λ k low high. absurd (omega arith))

pub beyond_one_side : (left right : ℕ) (p : ℤ) (s t : Side) → IsBeyond left right s p → IsBeyond left right t p → s ≡ t
beyond_one_side left right p Left Left a b = refl
beyond_one_side left right p Left Right a b = absurd (omega (arith, ints, a, b))
beyond_one_side left right p Right Left a b = absurd (omega (arith, ints, a, b))
beyond_one_side left right p Right Right a b = refl

pub not_inside_and_beyond : (left right : ℕ) (p : ℤ) (s : Side) → IsBeyond left right s p → IsBetween left right p → ⊥
not_inside_and_beyond left right p Left a b = absurd (omega (arith, ints, a, b.above))
not_inside_and_beyond left right p Right a b = absurd (omega (arith, ints, a, b.below))

comes_out_once : (p : Program) (l : Limits) (i : ℕ) (c : Moment) (o q : Outcome) → ComesOut p l i c o
    → ComesOut p l i c q → o ≡ q
comes_out_once p l i c o q (halts y final out a) (halts z final' out' b) =
    let same = output_once c.tape y z out out' in copies_once l c.tape.head z o q
    (subst (λ w. Copies l c.tape.head w o) same a) b
comes_out_once p l i c o q (halts y final out a) (sticks stuck f) = absurd (final_not_stuck p c final stuck)
comes_out_once p l i c o q (halts y final out a) (runs_out d goes e f) =
    absurd (final_not_going anywhere p c d final goes)
comes_out_once p l i c o q (halts y final out a) (leaves d side goes e beyond f) =
    absurd (final_not_going anywhere p c d final goes)
comes_out_once p l i c o q (sticks stuck f) (halts y final out a) = absurd (final_not_stuck p c final stuck)
comes_out_once p l i c o q (sticks stuck e) (sticks stuck' f) = e ∙ sym f
comes_out_once p l i c o q (sticks stuck f) (runs_out d goes e g) = absurd (stuck_not_going anywhere p c d stuck goes)
comes_out_once p l i c o q (sticks stuck f) (leaves d side goes e beyond g) =
    absurd (stuck_not_going anywhere p c d stuck goes)
comes_out_once p l i c o q (runs_out d goes e f) (halts y final out a) =
    absurd (final_not_going anywhere p c d final goes)
comes_out_once p l i c o q (runs_out d goes e f) (sticks stuck g) = absurd (stuck_not_going anywhere p c d stuck goes)
comes_out_once p l i c o q (runs_out d goes e f) (runs_out d' goes' e' f') = f ∙ sym f'
comes_out_once p l i c o q (runs_out d goes e f) (leaves d' side goes' e' beyond f') = absurd (omega arith)
comes_out_once p l i c o q (leaves d side goes e beyond f) (halts y final out a) =
    absurd (final_not_going anywhere p c d final goes)
comes_out_once p l i c o q (leaves d side goes e beyond f) (sticks stuck g) =
    absurd (stuck_not_going anywhere p c d stuck goes)
comes_out_once p l i c o q (leaves d side goes e beyond f) (runs_out d' goes' e' f') = absurd (omega arith)
comes_out_once p l i c o q (leaves d side goes e beyond f) (leaves d' side' goes' e' beyond' f') =
    let same = goes_once anywhere anywhere p c d d' goes goes' in
    let there = subst (λ (m : Moment). IsBeyond l.left l.right side m.tape.head) same beyond in
    f ∙ ap (Outside 1) (beyond_one_side l.left l.right d'.tape.head side side' there beyond') ∙ sym f'

-- where a run comes out it doesn't go on
ends_there : (p : Program) (l : Limits) (i : ℕ) (c d : Moment) (o : Outcome) → ComesOut p l i c o → i < l.steps
    → MachineRunsTo (within l.left l.right) p c d → ⊥
ends_there p l i c d o (halts y final out a) early goes = final_not_going (within l.left l.right) p c d final goes
ends_there p l i c d o (sticks stuck e) early goes = stuck_not_going (within l.left l.right) p c d stuck goes
ends_there p l i c d o (runs_out d' goes' e f) early goes = absurd (omega arith)
ends_there p l i c d o (leaves d' side goes' e beyond f) early goes =
    let same = goes_once anywhere (within l.left l.right) p c d' d goes' goes in
    not_inside_and_beyond l.left l.right d.tape.head side (subst
    (λ (m : Moment). IsBeyond l.left l.right side m.tape.head) same beyond) goes.1.stays

no_earlier : (p : Program) (word : List ℕ) (l : Limits) (i j : ℕ) (o q : Outcome) → HasOutcome p word l i o
    → HasOutcome p word l j q → i < j → ⊥
no_earlier p word l i j o q a b h =
    let step = run_goes_on (MachineRunsTo (within l.left l.right) p) (steps_are_functions (within l.left l.right) p) i j
    (start p word) a.moment b.moment h a.run b.run in
    let in_time : j ≤ l.steps = b.in_time in
    ends_there p l i a.moment step.0 o a.ends (omega arith) step.1

same_time : (p : Program) (word : List ℕ) (l : Limits) (i : ℕ) (o q : Outcome) → HasOutcome p word l i o
    → HasOutcome p word l i q → o ≡ q
same_time p word l i o q a b =
    let same = runs_end_once (MachineRunsTo (within l.left l.right) p) (steps_are_functions (within l.left l.right) p) i
    (start p word) a.moment b.moment a.run b.run in
    comes_out_once p l i b.moment o q (subst (λ m. ComesOut p l i m o) same a.ends) b.ends

-- there is only one outcome
pub outcome_once : (p : Program) (word : List ℕ) (l : Limits) (i j : ℕ) (o q : Outcome) → HasOutcome p word l i o
    → HasOutcome p word l j q → (i ≡ j) × (o ≡ q)
outcome_once p word l i j o q a b = by_order (cases_lt i j) (cases_lt j i)
  where
    by_order : (i < j) ⊎ (j ≤ i) → (j < i) ⊎ (i ≤ j) → (i ≡ j) × (o ≡ q)
    by_order (inl h) k = absurd (no_earlier p word l i j o q a b h)
    by_order (inr h) (inl k) = absurd (no_earlier p word l j i q o b a k)
    by_order (inr h) (inr k) =
        let same : i ≡ j = omega arith in
        (same, same_time p word l j o q (subst (λ n. HasOutcome p word l n o) same a) b)

-- a run that has come so far comes out here, or makes one more step
next_turn : (p : Program) (word : List ℕ) (l : Limits) (i : ℕ) (c : Moment) → i ≤ l.steps
    → AfterWithin (within l.left l.right) p word i c → ((o : Outcome) × HasOutcome p word l i o)
    ⊎ ((i < l.steps) × ((d : Moment) × MachineRunsTo (within l.left l.right) p c d))
next_turn p word l i c in_time run =
    elim (final_stuck_or_goes p c) [
      | inl final ↦
          let out = output_exists c.tape in
          let copy = copies_exist l c.tape.head out.0 in
          inl (copy.0, record { moment = c; run = run; in_time = in_time; ends = halts out.0 final out.1 copy.1 })
      | inr more ↦ elim more [
        | inl stuck ↦ inl (
          Stuck c.state (scanned c.tape),
          record { moment = c; run = run; in_time = in_time; ends = sticks stuck refl },
        )
        | inr step ↦ elim (cases_lt i l.steps) [
          | inl early ↦ goes_on step.0 step.1 early
          | inr late ↦ let last : i ≡ l.steps = omega arith in inl (
            Outside 2 Right,
            record {
              moment = c;
              run = run;
              in_time = in_time;
              ends = runs_out step.0 step.1 last refl;
            },
          )
        ]
      ]
    ]
  where
    comes : (o : Outcome) → ComesOut p l i c o → ((o : Outcome) × HasOutcome p word l i o)
        ⊎ ((i < l.steps) × ((d : Moment) × MachineRunsTo (within l.left l.right) p c d))
    comes o ends = inl (o, record { moment = c; run = run; in_time = in_time; ends = ends })

    goes_on : (d : Moment) → MachineRunsTo anywhere p c d → i < l.steps
        → ((o : Outcome) × HasOutcome p word l i o) ⊎ ((i < l.steps)
        × ((d : Moment) × MachineRunsTo (within l.left l.right) p c d))
    goes_on d goes early =
        by_lt_z d.tape.head (pos 0 -ℤ pos l.left)
        (λ beyond. comes (Outside 1 Left) (leaves d Left goes early beyond refl))
        (λ above. by_lt_z (pos l.right) d.tape.head
        (λ beyond. comes (Outside 1 Right) (leaves d Right goes early beyond refl))
        (λ below. inr (
          early,
          (
            d,
            goes_inside (within l.left l.right) p c d (record { above = above; below = below }) goes,
          ),
        )))

outcome_from : (p : Program) (word : List ℕ) (l : Limits) (fuel i : ℕ) (c : Moment) → i + fuel ≡ l.steps
    → AfterWithin (within l.left l.right) p word i c → (j : ℕ) × (o : Outcome) × HasOutcome p word l j o
outcome_from p word l zero i c e run =
    elim (next_turn p word l i c (omega arith) run) [
      | inl out ↦ (i, out.0, out.1)
      | inr step ↦ let early : i < l.steps = step.0 in absurd (omega arith)
    ]
outcome_from p word l (suc fuel) i c e run =
    let next : (i + 1) + fuel ≡ l.steps = omega arith in
    elim (next_turn p word l i c (omega arith) run) [
      | inl out ↦ (i, out.0, out.1)
      | inr step ↦ outcome_from p word l fuel (i + 1) step.1.0 next
          (runs_more (MachineRunsTo (within l.left l.right) p) i (start p word) c step.1.0 run step.1.1)
    ]

-- there is an outcome
pub outcome_exists : (p : Program) (word : List ℕ) (l : Limits) → (i : ℕ) × (o : Outcome) × HasOutcome p word l i o
outcome_exists p word l = outcome_from p word l l.steps 0 (start p word) (omega arith) refl

free_once : (p : Program) (n i : ℕ) (c : Moment) (e f : free.Ending) → free.EndsAt p n i c e → free.EndsAt p n i c f
    → e ≡ f
free_once p n i c e f (free.halts y final out a) (free.halts z final' out' b) =
    a ∙ ap free.Halted (output_once c.tape y z out out') ∙ sym b
free_once p n i c e f (free.halts y final out a) (free.sticks stuck b) = absurd (final_not_stuck p c final stuck)
free_once p n i c e f (free.halts y final out a) (free.runs d goes t b) =
    absurd (final_not_going anywhere p c d final goes)
free_once p n i c e f (free.sticks stuck a) (free.halts y final out b) = absurd (final_not_stuck p c final stuck)
free_once p n i c e f (free.sticks stuck a) (free.sticks stuck' b) = a ∙ sym b
free_once p n i c e f (free.sticks stuck a) (free.runs d goes t b) = absurd (stuck_not_going anywhere p c d stuck goes)
free_once p n i c e f (free.runs d goes t a) (free.halts y final out b) =
    absurd (final_not_going anywhere p c d final goes)
free_once p n i c e f (free.runs d goes t a) (free.sticks stuck b) = absurd (stuck_not_going anywhere p c d stuck goes)
free_once p n i c e f (free.runs d goes t a) (free.runs d' goes' t' b) = a ∙ sym b

free_ends : (p : Program) (n i : ℕ) (c d : Moment) (e : free.Ending) → free.EndsAt p n i c e → i < n
    → MachineRunsTo anywhere p c d → ⊥
free_ends p n i c d e (free.halts y final out a) early goes = final_not_going anywhere p c d final goes
free_ends p n i c d e (free.sticks stuck a) early goes = stuck_not_going anywhere p c d stuck goes
free_ends p n i c d e (free.runs d' goes' t a) early goes = absurd (omega arith)

free_no_earlier : (p : Program) (word : List ℕ) (n i j : ℕ) (e f : free.Ending) → free.HasEnding p word n i e
    → free.HasEnding p word n j f → i < j → ⊥
free_no_earlier p word n i j e f a b h =
    let step = run_goes_on (MachineRunsTo anywhere p) (steps_are_functions anywhere p) i j (start p word) a.moment
    b.moment h a.run b.run in
    let in_time : j ≤ n = b.in_time in
    free_ends p n i a.moment step.0 e a.ends (omega arith) step.1

free_same_time : (p : Program) (word : List ℕ) (n i : ℕ) (e f : free.Ending) → free.HasEnding p word n i e
    → free.HasEnding p word n i f → e ≡ f
free_same_time p word n i e f a b =
    let same = runs_end_once (MachineRunsTo anywhere p) (steps_are_functions anywhere p) i (start p word) a.moment
    b.moment a.run b.run in
    free_once p n i b.moment e f (subst (λ m. free.EndsAt p n i m e) same a.ends) b.ends

-- there is only one ending
pub ending_once : (p : Program) (word : List ℕ) (n i j : ℕ) (e f : free.Ending) → free.HasEnding p word n i e
    → free.HasEnding p word n j f → (i ≡ j) × (e ≡ f)
ending_once p word n i j e f a b = by_order (cases_lt i j) (cases_lt j i)
  where
    by_order : (i < j) ⊎ (j ≤ i) → (j < i) ⊎ (i ≤ j) → (i ≡ j) × (e ≡ f)
    by_order (inl h) k = absurd (free_no_earlier p word n i j e f a b h)
    by_order (inr h) (inl k) = absurd (free_no_earlier p word n j i f e b a k)
    by_order (inr h) (inr k) =
        let same : i ≡ j = omega arith in
        (same, free_same_time p word n j e f (subst (λ t. free.HasEnding p word n t e) same a) b)

ending_from : (p : Program) (word : List ℕ) (n fuel i : ℕ) (c : Moment) → i + fuel ≡ n → AfterWithin anywhere p word i c
    → (j : ℕ) × (e : free.Ending) × free.HasEnding p word n j e
ending_from p word n zero i c sum run =
    elim (final_stuck_or_goes p c) [
      | inl final ↦ let out = output_exists c.tape in (
        i,
        free.Halted out.0,
        record { moment = c; run = run; in_time = omega arith; ends = free.halts out.0 final out.1 refl },
      )
      | inr more ↦ elim more [
        | inl stuck ↦ (
          i,
          free.Stuck c.state (scanned c.tape),
          record { moment = c; run = run; in_time = omega arith; ends = free.sticks stuck refl },
        )
        | inr step ↦ let last : i ≡ n = omega arith in (
          i,
          free.Running,
          record { moment = c; run = run; in_time = omega arith; ends = free.runs step.0 step.1 last refl },
        )
      ]
    ]
ending_from p word n (suc fuel) i c sum run =
    let next : (i + 1) + fuel ≡ n = omega arith in
    elim (final_stuck_or_goes p c) [
      | inl final ↦ let out = output_exists c.tape in (
        i,
        free.Halted out.0,
        record { moment = c; run = run; in_time = omega arith; ends = free.halts out.0 final out.1 refl },
      )
      | inr more ↦ elim more [
        | inl stuck ↦ (
          i,
          free.Stuck c.state (scanned c.tape),
          record { moment = c; run = run; in_time = omega arith; ends = free.sticks stuck refl },
        )
        | inr step ↦ ending_from p word n fuel (i + 1) step.0 next
            (runs_more (MachineRunsTo anywhere p) i (start p word) c step.0 run step.1)
      ]
    ]

-- there is an ending
pub ending_exists : (p : Program) (word : List ℕ) (n : ℕ) → (i : ℕ) × (e : free.Ending) × free.HasEnding p word n i e
ending_exists p word n = ending_from p word n n 0 (start p word) (omega arith) refl
