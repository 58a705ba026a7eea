-- Where a run of the erasing machine is stuck because one of the machines is.
use Rattle.std.specs.Prelude.{◌≡◌, ◌≢◌, ℕ, ◌+◌, ◌*◌, ◌≤◌, List, length}
use Rattle.std.proofs.Common.{refl, sym, ap, ◌∙◌, subst, arith, inl, inr}
use Rattle.bn_lists.specs.Runs.{Reaches}
use Rattle.bn_machine.specs.Tape.{word_tape, blank_tape}
use Rattle.bn_machine.specs.Window.{anywhere}
use Rattle.bn_machine.specs.Machine.{Program, Moment, start}
use Rattle.bn_machine.specs.Machine as machine
use Rattle.bn_machine.specs.Run.{After}
use Rattle.bn_machine.proofs.MachineStepLemmas.{run_follows}
use Rattle.bn_quad.specs.Quadruples.{Rule, Configuration, AppliesTo, HasNoRule, turned, turned_list, everywhere}
use Rattle.bn_bennett_laws.proofs.MembershipLemmas.{in_append}
use Rattle.bn_bennett_laws.specs.List.{bennett, initial_name, final_name}
use Rattle.bn_bennett_laws.specs.Renamed.{renamed, in_state}
use Rattle.bn_bennett_laws.specs.Stages.{IsStandardMachine, IsSpelledBy, beginning, ending, computing, retracing}
use Rattle.bn_bennett_laws.specs.Stages.{StepsOf}
use Rattle.bn_bennett_laws.specs.Steps.{Steps}
use Rattle.bn_bennett_laws.proofs.StageStepLemmas.{no_first_read}
use Rattle.bn_bennett_laws.specs.Laws.{HaltsAfter}
use Rattle.bn_bennett_laws.proofs.Runs.{computes_two_steps}
use Rattle.bn_bennett_laws.proofs.Theorem.{stuck_reads, bennetts_theorem}
use Rattle.bn_bennett_laws.specs.declared.name.Name.{Name}
use Rattle.bn_bennett_laws.specs.declared.name.Name.TheVariants.{Compute, Retrace}
use Rattle.bn_erase_laws.specs.declared.name.ErasingName.{ErasingName}
use Rattle.bn_erase_laws.specs.declared.name.ErasingName.TheVariants.{First}
use Rattle.bn_erase_laws.specs.Lists.{exchanged_rule, exchanged_tapes}
use Rattle.bn_erase_laws.specs.Erasing.{second_name, first_half, second_half, erasing, erasing_initial, erasing_middle}
use Rattle.bn_erase_laws.specs.Erasing.{erasing_final, erasing_start, ErasingSteps}
use Rattle.bn_erase_laws.specs.Outcome.{Stuck, sticks, HasErasingOutcome}
use Rattle.bn_erase_laws.specs.ErasingLaws.{FirstSticks, SecondSticks}
use Rattle.bn_erase_laws.proofs.TurnedLemmas.{in_turned}
use Rattle.bn_erase_laws.proofs.JoinedLemmas.{joined_run}
use Rattle.bn_erase_laws.proofs.ErasingLemmas.{halves_join, from_first, from_second, first_from, second_as_first}
use Rattle.bn_erase_laws.proofs.ErasingLemmas.{second_once}
use Rattle.bn_erase_laws.proofs.ComparedLemmas.{stuck_back, computed}
use Rattle.bn_erase_laws.proofs.TheoremLemmas.{start_as_first, middle_as_second, first_forth, second_forth}
use Rattle.bn_erase_laws.proofs.TheoremLemmas.{output_letters}

module _ (p q : Program) (left : IsStandardMachine p) (right : IsStandardMachine q) where
  -- where no quadruple of the first list applies, short of its end, none of the joined list does
  none_first : (c : Configuration Name) → c.state ≢ final_name p → HasNoRule (bennett p) c
      → HasNoRule (erasing p q) (in_state First c)
  none_first c going none = record {
    none = λ n r e applies.
        elim (in_append (first_half p) (second_half p q) r (record { place = n; stands = e })) [
          | inl first ↦
              let a = from_first p r first in
              let same : AppliesTo (renamed First a.0) (in_state First c) =
              subst (λ t. AppliesTo t (in_state First c)) (sym a.2) applies in
              let state : First c.state ≡ First a.0.from = same.from in
              none.none a.1.place a.0 a.1.stands (record {
                from = cc;
                one = same.one;
                two = same.two;
                three = same.three;
              })
          | inr second ↦
              let b = from_second p q r second in
              going (second_as_first p q c.state b.0.to (applies.from
              ∙ sym (ap (λ (t : Rule ErasingName). t.from) b.2))).0
        ];
  }

  -- where none of the second list, turned round, applies, none of the joined list does
  pub none_second : (c : Configuration Name) → HasNoRule (turned_list (bennett q)) c
      → HasNoRule (erasing p q) (in_state (second_name p q) (exchanged_tapes c))
  none_second c none = record {
    none = λ n r e applies.
        elim (in_append (first_half p) (second_half p q) r (record { place = n; stands = e })) [
          | inl first ↦
              let a = first_from p q left.standard right.standard r first in
              a.2 (second_as_first p q a.0 c.state (sym a.1 ∙ sym applies.from)).0
          | inr second ↦
              let b = from_second p q r second in
              let same : AppliesTo (renamed (second_name p q) (exchanged_rule (turned b.0)))
              (in_state (second_name p q) (exchanged_tapes c)) = subst
              (λ t. AppliesTo t (in_state (second_name p q) (exchanged_tapes c))) (sym b.2) applies in
              let there = in_turned (bennett q) b.0 b.1 in
              none.none there.place (turned b.0) there.stands (record {
                from = second_once p q c.state b.0.to same.from;
                one = same.three;
                two = same.two;
                three = same.one;
              })
        ];
  }

  pub run_of_halves : (n i j : ℕ) (x : List ℕ) (d e : Configuration ErasingName) → n ≡ i + j
      → Reaches (Steps everywhere (first_half p) (erasing_middle p)) i (in_state First (beginning p x)) d
      → Reaches (Steps everywhere (second_half p q) (erasing_final q)) j d e
      → Reaches (ErasingSteps p q) n (erasing_start p x) e
  run_of_halves n i j x d e sum first second =
      subst (λ c. Reaches (ErasingSteps p q) n c e) (start_as_first p q left right x)
      (joined_run (erasing_middle p) (erasing_initial p) (erasing_final q) (first_half p) (second_half p q)
      (halves_join p q left.standard right.standard) everywhere n i j (in_state First (beginning p x)) d e sum first
      second)

  first_stuck : (x : List ℕ) (v : ℕ) (c : Moment) → After p x v c → machine.IsMachineStuck p c → (n : ℕ) → 2 * v ≤ n
      → HasErasingOutcome p q x n (2 * v) (Stuck (First (Compute c.state)))
  first_stuck x v c made stuck n low =
      let ns = run_follows anywhere p v (start p x) c made in
      let run = (computes_two_steps p everywhere x ns.0 c ns.2 tt tt (λ j h. tt)).0 in
      let steps : Reaches (StepsOf p everywhere) (2 * v) (beginning p x) (computing c ns.0 blank_tape) =
      subst (λ i. Reaches (StepsOf p everywhere) (2 * i) (beginning p x) (computing c ns.0 blank_tape)) ns.1 run in
      record {
        moment = in_state First (computing c ns.0 blank_tape);
        run = run_of_halves (2 * v) (2 * v) 0 x _ _ (omega arith)
            (first_forth p q left right (2 * v) (beginning p x) (computing c ns.0 blank_tape) steps) refl;
        in_time = low;
        ends = sticks (λ e. cc) (none_first (computing c ns.0 blank_tape) (λ e. cc)
            (no_first_read (bennett p) (computing c ns.0 blank_tape) (stuck_reads p c ns.0 blank_tape stuck))) refl;
      }

  second_stuck : (x : List ℕ) → p.symbols ≡ q.symbols → IsSpelledBy p x → (v w : ℕ) (y : List ℕ) (c : Moment)
      → HaltsAfter p x v y → After q y w c → machine.IsMachineStuck q c
      → (n : ℕ) → 4 * v + 4 * length y + 5 + 2 * w ≤ n → HasErasingOutcome p q x n (4 * v + 4 * length y + 5 + 2 * w)
      (Stuck (second_name p q (Retrace c.state)))
  second_stuck x same letters v w y c halted made stuck n low =
      let found = computed q y x right (output_letters p q left right x y v same letters halted) w c made in
      let first = first_forth p q left right (4 * v + 4 * length y + 5) (beginning p x) (ending p x y)
      ((bennetts_theorem p x left letters).0 v y halted) in
      let second = second_forth p q left right (2 * w) (ending q y x) (retracing c found.0 (word_tape x)) found.2 in
      let last : Configuration ErasingName = in_state (second_name p q)
      (exchanged_tapes (retracing c found.0 (word_tape x))) in
      record {
        moment = last;
        run = run_of_halves (4 * v + 4 * length y + 5 + 2 * w) (4 * v + 4 * length y + 5) (2 * w) x _ last (omega arith)
            first (subst (λ d. Reaches (Steps everywhere (second_half p q) (erasing_final q)) (2 * w) d last)
            (sym (middle_as_second p q left right x y)) second);
        in_time = low;
        ends = sticks (λ e. let name : Retrace c.state ≡ initial_name q = second_once p q (Retrace c.state)
            (initial_name q) e in cc) (none_second (retracing c found.0 (word_tape x))
            (stuck_back q c found.0 (word_tape x) stuck)) refl;
      }

pub first_sticks : FirstSticks
first_sticks p q x left right v c made stuck n low = first_stuck p q left right x v c made stuck n low

pub second_sticks : SecondSticks
second_sticks p q x left right same letters v w y c halted made stuck n low =
    second_stuck p q left right x same letters v w y c halted made stuck n low
