-- Which end a run in a window has, by how the machines come out.
use Rattle.std.specs.Prelude.{◌≡◌, ◌≢◌, ℕ, suc, ◌+◌, ◌*◌, ◌<◌, ◌≤◌, List, length, All, Some, None, slice_get}
use Rattle.std.specs.Prelude.{slice_index}
use Rattle.std.specs.Option.{unwrap_or}
use Rattle.std.proofs.Common.{refl, sym, ap, subst, arith, ◌∙◌, inl, inr, get_or}
use Rattle.std.proofs.lemmas.Bool.{cases_lt}
use Rattle.std.proofs.lemmas.List.{get_or_past}
use Rattle.std.proofs.lemmas.Option.{slice_get-get_or, slice_get_past, unwrap_or-slice_get}
use Rattle.bn_lists.specs.Runs.{Reaches}
use Rattle.bn_lists.proofs.RunsLemmas.{runs_join}
use Rattle.bn_machine.specs.Machine.{IsMachineStuck, Moment, Program, start}
use Rattle.bn_machine.specs.Outcome.{ComesOut, Halted, HasOutcome, Limits, Outside, Stuck, copied, halts}
use Rattle.bn_machine.specs.Outcome.{leaves, output_short, runs_out, sticks, work_short}
use Rattle.bn_machine.specs.Run.{IsOutput}
use Rattle.bn_machine.specs.Tape.{Tape, ahead, scanned, word_tape}
use Rattle.bn_machine.specs.Window.{within}
use Rattle.bn_machine.specs.declared.quint.Side.{Side}
use Rattle.bn_machine.proofs.MachineStepLemmas.{run_follows}
use Rattle.bn_machine.proofs.TapeLemmas.{scanned-ahead}
use Rattle.bn_quad.specs.Quadruples.{Configuration}
use Rattle.bn_bennett_laws.specs.Renamed.{in_state}
use Rattle.bn_bennett_laws.specs.Stages.{IsSpelledBy, IsStandardMachine, beginning, copying, ending, retracing}
use Rattle.bn_bennett_laws.specs.Stages.{rooms_of}
use Rattle.bn_bennett_laws.specs.Steps.{Leaving, Steps, Stopped}
use Rattle.bn_bennett_laws.proofs.Bounded.{bounded_forth}
use Rattle.bn_bennett_laws.proofs.Halted.{halted_is_ready}
use Rattle.bn_bennett_laws.specs.declared.name.Name.{Name}
use Rattle.bn_bennett_laws.specs.declared.name.Name.TheVariants.{GoLeft}
use Rattle.bn_erase_laws.specs.Erasing.{IsWord, erasing, erasing_final, erasing_start}
use Rattle.bn_erase_laws.specs.ErasingLaws.{PartAt}
use Rattle.bn_erase_laws.specs.declared.name.ErasingName.{ErasingName}
use Rattle.bn_erase_laws.specs.declared.name.ErasingName.TheVariants.{First}
use Rattle.bn_erase_laws.proofs.ComparedLemmas.{differing_back, stuck_back}
use Rattle.bn_erase_laws.proofs.TheoremLemmas.{middle_as_second, output_letters, start_as_first}
use Rattle.bn_erase_laws.specs.EraseWindows.{EndsIn, second_window}
use Rattle.bn_erase_laws.specs.EraseWindowLaws.{FirstNamesEnd, SecondNamesEnd, UnequalOutputsEnd}
use Rattle.bn_erase_laws.proofs.WindowComparingLemmas.{begins_comparing, passes_agreeing}
use Rattle.bn_erase_laws.proofs.WindowEndsLemmas.{come_to, first_run, inside}
use Rattle.bn_erase_laws.proofs.WindowGoingLemmas.{as_second, first_ends, second_stops}
use Rattle.bn_erase_laws.proofs.WindowHaltLemmas.{halts_after, halts_at}

-- a bounded run that is stuck is so at its moment
stuck_at : (p : Program) (l : Limits) (i state symbol : ℕ) (c : Moment) → ComesOut p l i c (Stuck state symbol)
    → IsMachineStuck p c
stuck_at p l i state symbol c (halts z final out (copied room why)) = absurd (cc)
stuck_at p l i state symbol c (halts z final out (work_short j short beyond why)) = absurd (cc)
stuck_at p l i state symbol c (halts z final out (output_short j short inside past why)) = absurd (cc)
stuck_at p l i state symbol c (sticks stuck why) = stuck
stuck_at p l i state symbol c (runs_out d goes full why) = absurd (cc)
stuck_at p l i state symbol c (leaves d side goes early beyond why) = absurd (cc)

-- ---- where words part (as in the crate below)

other_way : (x z : List ℕ) (k : ℕ) → PartAt x z k → PartAt z x k
other_way x z k h = record { agree = λ j low. sym (h.agree j low); differ = λ e. h.differ (sym e) }

none_past : (z : List ℕ) (i : ℕ) → slice_get z i ≡ None → length z ≤ i
none_past z i e =
    elim (cases_lt i (length z)) [
      | inl low ↦ let some : slice_get z i ≡ Some (get_or z i 0) = slice_get-get_or z i 0 low in absurd (cc)
      | inr high ↦ high
    ]

part_within : (x z : List ℕ) (k : ℕ) → PartAt x z k → k ≤ length x
part_within x z k h =
    elim (cases_lt (length x) k) [
      | inl low ↦
          let ended : slice_get z (length x) ≡ None = sym (h.agree (length x) low)
          ∙ slice_get_past x (length x) (omega arith) in
          let short : length z ≤ length x = none_past z (length x) ended in
          absurd (h.differ (slice_get_past x k (omega arith) ∙ sym (slice_get_past z k (omega arith))))
      | inr high ↦ high
    ]

same_letter : (x z : List ℕ) (j : ℕ) → slice_get x j ≡ slice_get z j → get_or z j 0 ≡ get_or x j 0
same_letter x z j e = sym (unwrap_or-slice_get z j 0) ∙ ap (λ o. unwrap_or o 0) (sym e) ∙ unwrap_or-slice_get x j 0

letters_differ : (x z : List ℕ) (k : ℕ) → IsWord x → ((i : ℕ) → i < length z → slice_index z i ≢ 0)
    → slice_get x k ≢ slice_get z k → get_or z k 0 ≢ get_or x k 0
letters_differ x z k word other differ e =
    elim (cases_lt k (length x)) [
      | inl one ↦ elim (cases_lt k (length z)) [
        | inl two ↦ differ (slice_get-get_or x k 0 one ∙ ap Some (sym e) ∙ sym (slice_get-get_or z k 0 two))
        | inr past ↦ word k 0 one (sym e ∙ get_or_past z k 0 past)
      ]
      | inr past ↦ elim (cases_lt k (length z)) [
        | inl two ↦ other k two (e ∙ get_or_past x k 0 past)
        | inr both ↦ differ (slice_get_past x k past ∙ sym (slice_get_past z k both))
      ]
    ]

on_tape : (t : Tape) (z : List ℕ) → IsOutput t z → (j : ℕ) → j ≤ length z → scanned (ahead (suc j) t) ≡ get_or z j 0
on_tape t z out j low =
    elim (cases_lt j (length z)) [
      | inl inside ↦ out.spelled j inside
      | inr past ↦
          let there : length z ≡ j = omega arith in
          let ended : scanned (ahead (suc (length z)) t) ≡ 0 = out.ended in
          subst (λ i. scanned (ahead (suc i) t) ≡ 0) there ended ∙ sym (get_or_past z j 0 past)
    ]

-- ---- the ends

module _ (p q : Program) (left : IsStandardMachine p) (right : IsStandardMachine q) (x : List ℕ) (l : Limits)
    (letters : IsSpelledBy p x) where
  abbrev Run : ℕ → Configuration ErasingName → Configuration ErasingName → Type 0
  Run = Reaches (Steps (rooms_of l) (erasing p q) (erasing_final q))

  abbrev S : Configuration Name → Configuration ErasingName
  S = as_second p q left right

  first_stuck : (i state symbol : ℕ) → HasOutcome p x l i (Stuck state symbol)
      → (d : Configuration ErasingName) × EndsIn p q x l (2 * i) d Stopped
  first_stuck i state symbol h =
      let ends = bounded_forth p x left letters l i (Stuck state symbol) h in (
        in_state First ends.0,
        record {
          run = subst (λ c. Run (2 * i) c (in_state First ends.0)) (start_as_first p q left right x)
              (first_run p q left right l (2 * i) (beginning p x) ends.0 ends.1.run);
          ends = first_ends p q left right (rooms_of l) ends.0 Stopped (λ e. cc) ends.1.ends;
        },
      )

  first_outside : (i tape : ℕ) (side : Side) → HasOutcome p x l i (Outside tape side)
      → (n : ℕ) × (d : Configuration ErasingName) × EndsIn p q x l n d (Leaving tape side)
  first_outside i tape side h =
      let ends = bounded_forth p x left letters l i (Outside tape side) h in (
        ends.0,
        in_state First ends.1,
        record {
          run = subst (λ c. Run ends.0 c (in_state First ends.1)) (start_as_first p q left right x)
              (first_run p q left right l ends.0 (beginning p x) ends.1 ends.2.run);
          ends = first_ends p q left right (rooms_of l) ends.1 (Leaving tape side) (λ e. cc) ends.2.ends;
        },
      )

  module _ (same : p.symbols ≡ q.symbols) (v : ℕ) (y : List ℕ) (halted : HasOutcome p x l v (Halted y)) where
    spelled : IsSpelledBy q y
    spelled = output_letters p q left right x y v same letters (halts_after p x l v y halted)

    -- on from the middle
    from_middle : (n : ℕ) (d : Configuration ErasingName) → Run n (S (ending q y x)) d
        → Run (4 * v + 4 * length y + 5 + n) (erasing_start p x) d
    from_middle n d run =
        let m : ℕ = 4 * v + 4 * length y + 5 in
        let first = first_run p q left right l m (beginning p x) (ending p x y)
        (bounded_forth p x left letters l v (Halted y) halted).1.run in
        subst (λ c. Run (m + n) c d) (start_as_first p q left right x)
        (runs_join (Steps (rooms_of l) (erasing p q) (erasing_final q)) (m + n) m n _ _ _ refl first
        (subst (λ c. Run n c d) (sym (middle_as_second p q left right x y)) run))

    second_stuck : (w state symbol : ℕ) → HasOutcome q y (second_window l) w (Stuck state symbol)
        → IsSpelledBy q x → IsWord x
        → (d : Configuration ErasingName) × EndsIn p q x l (4 * v + 4 * length y + 5 + 2 * w) d Stopped
    second_stuck w state symbol h known word =
        let c : Moment = h.moment in
        let ns = run_follows (within 0 l.output) q w (start q y) c h.run in
        let in_time : length ns.0 ≤ l.steps = subst (λ k. k ≤ l.steps) (sym ns.1) h.in_time in
        let steps = come_to p q left right l x y spelled known word ns.0 c ns.2 in_time in
        let there = retracing c ns.0 (word_tape x) in (
          S there,
          record {
            run = from_middle (2 * w) (S there) (subst (λ k. Run (2 * k) (S (ending q y x)) (S there)) ns.1 steps);
            ends = second_stops p q left right (rooms_of l) there (λ e. cc)
                (stuck_back q c ns.0 (word_tape x) (stuck_at q (second_window l) w state symbol c h.ends));
          },
        )

    unequal : IsSpelledBy q x → IsWord x → (w k : ℕ) (z : List ℕ) → HasOutcome q y (second_window l) w (Halted z)
        → PartAt x z k
        → (d : Configuration ErasingName) × EndsIn p q x l (4 * v + 4 * length y + 2 * w + 2 * k + 7) d Stopped
    unequal known word w k z h part =
        let c : Moment = h.moment in
        let at = halts_at q (second_window l) w c z h.ends in
        let ns = run_follows (within 0 l.output) q w (start q y) c h.run in
        let in_time : length ns.0 ≤ l.steps = subst (λ k. k ≤ l.steps) (sym ns.1) h.in_time in
        let ready = halted_is_ready q (within 0 l.output) y ns.0 z c right spelled ns.2 at.final at.output in
        let in_window = inside p q left right l x y spelled known word ns.0 c ns.2 in_time in
        let longer : k ≤ length z = part_within z x k (other_way x z k part) in
        let come = subst (λ i. Run (2 * i) (S (ending q y x)) (S (retracing c ns.0 (word_tape x)))) ns.1
        (come_to p q left right l x y spelled known word ns.0 c ns.2 in_time) in
        let begun = begins_comparing p q left right l c ns.0 x in_window in_time ready.last known word at.final
        ready.blank in
        let passed = passes_agreeing p q left right l c ns.0 x in_window in_time ready.last known word k
        (part_within x z k part)
        (λ j low. on_tape c.tape z at.output j (omega arith) ∙ same_letter x z j (part.agree j low))
        (λ j some low. at.room j some (omega arith)) in
        let there = copying GoLeft c ns.0 x (suc k) in
        let step = Steps (rooms_of l) (erasing p q) (erasing_final q) in
        let compared : Run (2 * k + 2) (S (retracing c ns.0 (word_tape x))) (S there) =
        runs_join step (2 * k + 2) 1 (2 * k + 1) _ _ _ (omega arith) (_, begun, refl) passed in
        let second : Run (2 * w + (2 * k + 2)) (S (ending q y x)) (S there) =
        runs_join step (2 * w + (2 * k + 2)) (2 * w) (2 * k + 2) _ _ _ refl come compared in
        let count : 4 * v + 4 * length y + 5 + (2 * w + (2 * k + 2)) ≡ 4 * v + 4 * length y + 2 * w + 2 * k + 7 =
        omega arith in
        let scans : scanned (ahead (suc k) c.tape) ≡ get_or z k 0 = on_tape c.tape z at.output k longer in (
          S there,
          record {
            run = subst (λ n. Run n (erasing_start p x) (S there)) count
                (from_middle (2 * w + (2 * k + 2)) (S there) second);
            ends = second_stops p q left right (rooms_of l) there (λ e. cc)
                (differing_back q c ns.0 x k
                (λ e. letters_differ x z k word at.output.letters part.differ (sym scans ∙ e ∙ scanned-ahead x k)));
          },
        )

-- ---- the laws

pub first-names : FirstNamesEnd
first-names p q x l left right letters =
    (first_stuck p q left right x l letters, first_outside p q left right x l letters)

pub second-names : SecondNamesEnd
second-names p q x l left right same letters word v w state symbol y first second =
    second_stuck p q left right x l letters same v y first w state symbol second
    (subst (λ z. All (λ s. s < z) x) same letters) word

pub unequal-end : UnequalOutputsEnd
unequal-end p q x l left right same letters word v w k y z first second part =
    unequal p q left right x l letters same v y first (subst (λ n. All (λ s. s < n) x) same letters) word w k z second
    part
