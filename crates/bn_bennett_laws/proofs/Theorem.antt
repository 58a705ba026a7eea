-- Bennett's theorem: the three stages in a row, and that no run of the reversible machine ends otherwise.
use Rattle.std.specs.Prelude.{◌≡◌, ℕ, ◌+◌, ◌*◌, ◌<◌, ◌≤◌, ◌⊎◌, ℤ, pos, List, length}
use Rattle.std.proofs.Common.{refl, ap, subst, arith, inl, inr}
use Rattle.std.proofs.lemmas.Bool.{cases_lt}
use Rattle.bn_lists.specs.Runs.{Reaches}
use Rattle.bn_lists.proofs.RunsLemmas.{runs_join}
use Rattle.bn_machine.specs.Tape.{Tape, blank_tape}
use Rattle.bn_machine.specs.Window.{anywhere, Allows}
use Rattle.bn_machine.specs.Machine.{Program, Moment, IsFinal, start}
use Rattle.bn_machine.specs.Machine as machine
use Rattle.bn_machine.specs.Run.{After, Follows, IsOutput, Ending, EndsAt, halts, sticks, runs}
use Rattle.bn_machine.proofs.MachineStepLemmas.{run_follows}
use Rattle.bn_machine.proofs.OutcomeLemmas.{run_goes_on, ending_exists}
use Rattle.bn_quad.specs.Quadruples.{Configuration, DeedApplies, Rooms, everywhere}
use Rattle.bn_quad.specs.Overlap.{IsDeterministic}
use Rattle.bn_bennett_laws.specs.List.{bennett, final_name}
use Rattle.bn_bennett_laws.proofs.ListLemmas.{each_rule}
use Rattle.bn_bennett_laws.specs.Steps.{HasNoFirstRead, Finished, Stopped, finishes, stops, HasExit}
use Rattle.bn_bennett_laws.proofs.StageStepLemmas.{no_first_read, steps_once, exits_once}
use Rattle.bn_bennett_laws.specs.Stages.{IsStandardMachine, IsSpelledBy, computing, beginning, ending, StepsOf}
use Rattle.bn_bennett_laws.specs.Laws.{AllowsUpTo, HaltsAfter, BennettsTheorem}
use Rattle.bn_bennett_laws.proofs.Runs.{compute_run, copy_run, retrace_run}
use Rattle.bn_bennett_laws.proofs.Halted.{halted_is_ready}
use Rattle.bn_bennett_laws.proofs.Tests.{list_deterministic}
use Rattle.bn_bennett_laws.specs.declared.name.Name.{Name}
use Rattle.bn_bennett_laws.specs.declared.name.Name.TheVariants.{Compute}

-- ---- where the machine is stuck

-- no quadruple of its state reads the symbol there
pub stuck_reads : (p : Program) (c : Moment) (ns : List ℕ) (o : Tape) → machine.IsMachineStuck p c
    → HasNoFirstRead (bennett p) (computing c ns o)
stuck_reads p c ns o stuck = record {
  none = λ n r e from reads.
      each_rule (λ r. Compute c.state ≡ r.from → DeedApplies r.one c.tape → ⊥) p
      (λ m q e from reads. stuck.none.none m q e (record { from = cc; reads = reads })) (λ m q e from reads. cc)
      (λ from reads. stuck.going (cc)) (λ from reads. cc) (λ x low high from reads. cc) (λ from reads. cc)
      (λ from reads. cc) (λ x low high from reads. cc) (λ from reads. cc)
      (λ m q e from reads. cc) (λ m q e from reads. cc)
      r (record { place = n; stands = e }) from reads;
}

-- ---- the three stages in a row

-- from the beginning to the end, where the machine halts and there is room
pub halting_run : (p : Program) (rooms : Rooms) (word ns y : List ℕ) (c : Moment) → IsStandardMachine p
    → IsSpelledBy p word → Follows rooms.one p ns (start p word) c → IsFinal p c → IsOutput c.tape y
    → Allows rooms.one (pos 0) → AllowsUpTo rooms.one c.tape.head (length y + 1)
    → AllowsUpTo rooms.two (pos 0) (length ns) → AllowsUpTo rooms.three (pos 0) (length y + 1)
    → Reaches (StepsOf p rooms) (4 * length ns + 4 * length y + 5) (beginning p word) (ending p word y)
halting_run p rooms word ns y c standard letters run final out one work two three =
    let v : ℕ = length ns in
    let l : ℕ = length y in
    let blank : Allows rooms.three (pos 0) = three 0 (omega arith) in
    let first = compute_run p rooms word ns c run one blank two in
    let ready = halted_is_ready p rooms.one word ns y c standard letters run final out in
    let second = copy_run p rooms c ns y ready (two v (omega arith)) work three in
    let third = retrace_run p rooms word ns y c standard run one blank two in
    let both = runs_join (StepsOf p rooms) (2 * v + (4 * l + 5)) (2 * v) (4 * l + 5) _ _ _ refl first second in
    runs_join (StepsOf p rooms) (4 * v + 4 * l + 5) (2 * v + (4 * l + 5)) (2 * v) _ _ _ (omega arith) both third

-- ---- without ends

anywhere_up : (p : ℤ) (n : ℕ) → AllowsUpTo anywhere p n
anywhere_up p n = λ j low. tt

theorem_forth : (p : Program) (word : List ℕ) → IsStandardMachine p → IsSpelledBy p word → (v : ℕ) (y : List ℕ)
    → HaltsAfter p word v y → Reaches (StepsOf p everywhere) (4 * v + 4 * length y + 5) (beginning p word)
    (ending p word y)
theorem_forth p word standard letters v y h =
    let ns = run_follows anywhere p v (start p word) h.moment h.run in
    let whole = halting_run p everywhere word ns.0 y h.moment standard letters ns.2 h.final h.output tt
    (anywhere_up h.moment.tape.head (length y + 1)) (anywhere_up (pos 0) (length ns.0))
    (anywhere_up (pos 0) (length y + 1)) in
    subst (λ i. Reaches (StepsOf p everywhere) (4 * i + 4 * length y + 5) (beginning p word) (ending p word y)) ns.1
    whole

computing_forth : (p : Program) (word : List ℕ) (v : ℕ) (c : Moment) → After p word v c
    → (ns : List ℕ) × Reaches (StepsOf p everywhere) (2 * v) (beginning p word) (computing c ns blank_tape)
computing_forth p word v c run =
    let ns = run_follows anywhere p v (start p word) c run in (
      ns.0,
      subst (λ i. Reaches (StepsOf p everywhere) (2 * i) (beginning p word) (computing c ns.0 blank_tape)) ns.1
          (compute_run p everywhere word ns.0 c ns.2 tt tt (anywhere_up (pos 0) (length ns.0))),
    )

abbrev Back : Program → List ℕ → ℕ → Configuration Name → Type 0
Back p word n x = (v : ℕ) × (y : List ℕ) × HaltsAfter p word v y × (n ≡ 4 * v + 4 * length y + 5)
    × (x ≡ ending p word y)

theorem_back : (p : Program) (word : List ℕ) → IsStandardMachine p → IsSpelledBy p word
    → (n : ℕ) (x : Configuration Name) → Reaches (StepsOf p everywhere) n (beginning p word) x → x.state ≡ final_name p
    → Back p word n x
theorem_back p word standard letters n x run final = by_end (ending_exists p word n).0 (ending_exists p word n).1
    (ending_exists p word n).2.moment (ending_exists p word n).2.run (ending_exists p word n).2.ends
  where
    apart : IsDeterministic (bennett p)
    apart = list_deterministic p standard.standard

    here : HasExit everywhere (bennett p) (final_name p) n (beginning p word) x Finished
    here = record { run = run; ends = finishes final refl }

    -- the machine makes n steps, so the reversible machine makes 2n, and can't have ended before
    goes_on : (c : Moment) (ns : List ℕ) → Reaches (StepsOf p everywhere) (2 * n) (beginning p word)
        (computing c ns blank_tape) → (n < 2 * n) ⊎ (2 * n ≤ n) → ⊥
    goes_on c ns more (inl low) =
        let next = run_goes_on (StepsOf p everywhere) (steps_once everywhere (bennett p) (final_name p) apart) n (2 * n)
        (beginning p word) x (computing c ns blank_tape) low run more in
        next.1.going final
    goes_on c ns more (inr high) =
        let none : n ≡ 0 = omega arith in
        let there : beginning p word ≡ x = subst (λ k. Reaches (StepsOf p everywhere) k (beginning p word) x) none run
        in
        let state : Compute (start p word).state ≡ x.state = ap (λ (d : Configuration Name). d.state) there in
        cc

    by_end : (i : ℕ) (e : Ending) (c : Moment) → After p word i c → EndsAt p n i c e → Back p word n x
    by_end i e c made (halts y is out why) =
        let halted : HaltsAfter p word i y = record { moment = c; run = made; final = is; output = out } in
        let whole : HasExit everywhere (bennett p) (final_name p) (4 * i + 4 * length y + 5) (beginning p word)
        (ending p word y) Finished = record {
          run = theorem_forth p word standard letters i y halted;
          ends = finishes refl refl;
        } in
        let same = exits_once everywhere (bennett p) (final_name p) apart n (4 * i + 4 * length y + 5)
        (beginning p word) x (ending p word y) Finished Finished here whole in
        (i, y, halted, same.0, same.1)
    by_end i e c made (sticks stuck why) =
        let found = computing_forth p word i c made in
        let stopped : HasExit everywhere (bennett p) (final_name p) (2 * i) (beginning p word)
        (computing c found.0 blank_tape) Stopped = record {
          run = found.1;
          ends = stops (λ same. cc)
              (no_first_read (bennett p) (computing c found.0 blank_tape) (stuck_reads p c found.0 blank_tape stuck))
              refl;
        } in
        let same = exits_once everywhere (bennett p) (final_name p) apart n (2 * i) (beginning p word) x
        (computing c found.0 blank_tape) Finished Stopped here stopped in
        let exits : Finished ≡ Stopped = same.2 in
        absurd (cc)
    by_end i e c made (runs d goes all why) =
        let found = computing_forth p word n c (subst (λ k. After p word k c) all made) in
        absurd (goes_on c found.0 found.1 (cases_lt n (2 * n)))

pub bennetts_theorem : BennettsTheorem
bennetts_theorem p word standard letters = (theorem_forth p word standard letters, theorem_back p word standard letters)
