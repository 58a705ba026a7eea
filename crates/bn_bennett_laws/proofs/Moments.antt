-- Every moment of a run from a word stands for a moment of the machine's own run.
use Rattle.std.specs.Prelude.{◌≡◌, ℕ, zero, suc, ◌<◌, ◌≤◌, ◌⊎◌, List, [], ◌∷◌, length, take}
use Rattle.std.proofs.Common.{refl, sym, ap, subst, arith, inl, inr, get_or}
use Rattle.std.proofs.lemmas.Bool.{cases_lt}
use Rattle.bn_lists.specs.Runs.{Reaches}
use Rattle.bn_machine.specs.Tape.{word_tape, blank_tape}
use Rattle.bn_machine.specs.Window.{anywhere}
use Rattle.bn_machine.specs.Machine.{Program, Moment, start, final_of}
use Rattle.bn_machine.specs.Run.{Follows}
use Rattle.bn_machine.proofs.OutputLemmas.{output_exists}
use Rattle.bn_machine.proofs.MachineStepLemmas.{final_stuck_or_goes}
use Rattle.bn_quad.specs.Quadruples.{Rule, Configuration, Leads, Rooms}
use Rattle.bn_lists.specs.Lists.{IsIn}
use Rattle.bn_bennett_laws.specs.List.{bennett, final_name, begins_copy, goes_right, copies_letter, turns_left}
use Rattle.bn_bennett_laws.specs.List.{goes_left, passes_letter, ends_copy, shifts_back, writes_back, writes_ahead}
use Rattle.bn_bennett_laws.specs.List.{shifts_ahead}
use Rattle.bn_bennett_laws.proofs.ListLemmas.{has_writes_ahead, has_shifts_ahead, has_begins_copy, has_goes_right}
use Rattle.bn_bennett_laws.proofs.ListLemmas.{has_copies_letter, has_turns_left, has_goes_left, has_passes_letter}
use Rattle.bn_bennett_laws.proofs.ListLemmas.{has_ends_copy, has_shifts_back, has_writes_back}
use Rattle.bn_bennett_laws.proofs.StageStepLemmas.{follows_once, no_first_read}
use Rattle.bn_bennett_laws.specs.Stages.{IsStandardMachine, IsSpelledBy, Halts, Stands, computes, computes_within}
use Rattle.bn_bennett_laws.specs.Stages.{goes_right as going_right, copies_letter as copying_letter}
use Rattle.bn_bennett_laws.specs.Stages.{goes_left as going_left, passes_letter as passing_letter, retraces}
use Rattle.bn_bennett_laws.specs.Stages.{retraces_within, computing, retracing, copying, beginning, StepsOf}
use Rattle.bn_bennett_laws.specs.Laws.{IsReady, EveryMomentStands}
use Rattle.bn_bennett_laws.proofs.Tapes.{scanned-word}
use Rattle.bn_bennett_laws.proofs.Moves.{computes_leads, computes_on_leads, retraces_leads, retraces_on_leads}
use Rattle.bn_bennett_laws.proofs.Moves.{begins_leads, right_leads, left_leads, ends_leads, copies_leads, turns_leads}
use Rattle.bn_bennett_laws.proofs.Moves.{passes_leads}
use Rattle.bn_bennett_laws.proofs.Runs.{follow_by}
use Rattle.bn_bennett_laws.proofs.Halted.{halted_is_ready}
use Rattle.bn_bennett_laws.proofs.Theorem.{stuck_reads}
use Rattle.bn_bennett_laws.proofs.Tests.{list_deterministic}
use Rattle.bn_bennett_laws.specs.declared.name.Name.{Name}
use Rattle.bn_bennett_laws.specs.declared.name.Name.TheVariants.{CopyLetter, PassLetter}

module _ (p : Program) (word : List ℕ) (standard : IsStandardMachine p) (letters : IsSpelledBy p word) (rooms : Rooms)
  where
    -- what follows x is what this quadruple leads to
    so : (r : Rule Name) (x y z : Configuration Name) → IsIn (bennett p) r → Leads r x y → StepsOf p rooms x z → z ≡ y
    so r x y z h leads step = follows_once rooms (bennett p) (final_name p) (list_deterministic p standard.standard) x z
        y
        step.follows (follow_by p r x y h leads)

    ready : (c : Moment) (ns y : List ℕ) → Halts p word c ns y → IsReady p c ns y
    ready c ns y h = halted_is_ready p anywhere word ns y c standard letters h.run h.final h.output

    -- ---- from each kind of state

    from_computing : (c : Moment) (ns : List ℕ) (z : Configuration Name) → Follows anywhere p ns (start p word) c
        → StepsOf p rooms (computing c ns blank_tape) z → Stands p word z
    from_computing c ns z run step =
        elim (final_stuck_or_goes p c) [
          | inl final ↦
              let out = output_exists c.tape in
              let halted : Halts p word c ns out.0 = record { run = run; final = final; output = out.1 } in
              let at = ready c ns out.0 halted in
              going_right c ns out.0 0 halted (omega arith) (so (begins_copy (final_of p.quints) (length p.quints)) _ _
              z
              (has_begins_copy p) (begins_leads c ns (length p.quints) at.last (final_of p.quints) at.final at.blank)
              step)
          | inr more ↦ elim more [
            | inl stuck ↦
                let none = no_first_read (bennett p) (computing c ns blank_tape) (stuck_reads p c ns blank_tape stuck)
                in
                let f = step.follows in
                absurd (none.none f.number f.leads.rule f.leads.stands f.leads.leads.applies)
            | inr goes ↦
                let by = goes.1.1 in
                computes_within c goes.0 ns goes.1.0 by run (so (writes_ahead goes.1.0 by.quint) _ _ z
                (has_writes_ahead p goes.1.0 by.quint by.match.stands)
                (computes_leads goes.1.0 by.quint c ns blank_tape by.match.holds.from by.match.holds.reads
                (scanned-word [])) step)
          ]
        ]

    from_copying : (c : Moment) (ns y : List ℕ) (k : ℕ) (z : Configuration Name) → Halts p word c ns y
        → (k < length y) ⊎ (length y ≤ k) → k ≤ length y → StepsOf p rooms (copying CopyLetter c ns (take k y) (suc k))
        z
        → Stands p word z
    from_copying c ns y k z h (inl low) within step =
        let at = ready c ns y h in
        let some = at.output.letters k low in
        going_right c ns y (suc k) h (omega arith) (so (copies_letter (length p.quints) (get_or y k 0)) _ _ z
        (has_copies_letter p (get_or y k 0) (omega arith) (at.letters k 0 low))
        (copies_leads c ns (length p.quints) at.last y at.output k low) step)
    from_copying c ns y k z h (inr high) within step =
        let at = ready c ns y h in
        let all : k ≡ length y = omega arith in
        let there : StepsOf p rooms (copying CopyLetter c ns (take (length y) y) (suc (length y))) z =
        subst (λ i. StepsOf p rooms (copying CopyLetter c ns (take i y) (suc i)) z) all step in
        going_left c ns y (length y) h (omega arith) (so (turns_left (length p.quints)) _ _ z (has_turns_left p)
        (turns_leads c ns (length p.quints) at.last y at.output) there)

    from_passing : (c : Moment) (ns y : List ℕ) (k : ℕ) (z : Configuration Name) → Halts p word c ns y → k ≤ length y
        → StepsOf p rooms (copying PassLetter c ns y k) z → Stands p word z
    from_passing c ns y zero z h within step =
        let at = ready c ns y h in
        retraces c c ns ns y h h.run (so (ends_copy (final_of p.quints) (length p.quints)) _ _ z (has_ends_copy p)
        (ends_leads c ns (length p.quints) at.last (final_of p.quints) y at.final at.blank) step)
    from_passing c ns y (suc k) z h within step =
        let at = ready c ns y h in
        let low : k < length y = omega arith in
        let some = at.output.letters k low in
        going_left c ns y k h (omega arith) (so (passes_letter (length p.quints) (get_or y k 0)) _ _ z
        (has_passes_letter p (get_or y k 0) (omega arith) (at.letters k 0 low))
        (passes_leads c ns (length p.quints) at.last y at.output k low) step)

    from_retracing : (h c : Moment) (hs ns y : List ℕ) (z : Configuration Name) → Halts p word h hs y
        → Follows anywhere p ns (start p word) c → StepsOf p rooms (retracing c ns (word_tape y)) z → Stands p word z
    from_retracing h c hs [] y z halted run step = absurd (step.going
        (ap (λ (m : Moment). (retracing m [] (word_tape y)).state) (sym run)))
    from_retracing h c hs (m ∷ ns) y z halted run step =
        let by = run.2 in
        retraces_within h run.0 c hs ns y m by halted run.1 (so (shifts_back m by.quint) _ _ z
        (has_shifts_back p m by.quint by.match.stands) (retraces_leads m by.quint run.0 c ns (word_tape y)
        by.applies.writes by.applies.to) step)

    -- ---- one step, and a run

    stands_next : (x z : Configuration Name) → Stands p word x → StepsOf p rooms x z → Stands p word z
    stands_next x z (computes c ns run is) step = from_computing c ns z run (subst (λ w. StepsOf p rooms w z) is step)
    stands_next x z (computes_within c d ns m by run is) step =
        computes d (m ∷ ns) (c, run, by) (so (shifts_ahead m by.quint) _ _ z
        (has_shifts_ahead p m by.quint by.match.stands) (computes_on_leads m by.quint c d ns blank_tape
        by.applies.writes by.applies.to) (subst (λ w. StepsOf p rooms w z) is step))
    stands_next x z (going_right c ns y k h within is) step =
        copying_letter c ns y k h within (so goes_right _ _ z (has_goes_right p)
        (right_leads c ns (length p.quints) (ready c ns y h).last (take k y) k)
        (subst (λ w. StepsOf p rooms w z) is step))
    stands_next x z (copying_letter c ns y k h within is) step =
        from_copying c ns y k z h (cases_lt k (length y)) within (subst (λ w. StepsOf p rooms w z) is step)
    stands_next x z (going_left c ns y k h within is) step =
        passing_letter c ns y k h within (so goes_left _ _ z (has_goes_left p)
        (left_leads c ns (length p.quints) (ready c ns y h).last y k) (subst (λ w. StepsOf p rooms w z) is step))
    stands_next x z (passing_letter c ns y k h within is) step =
        from_passing c ns y k z h within (subst (λ w. StepsOf p rooms w z) is step)
    stands_next x z (retraces h c hs ns y halted run is) step =
        from_retracing h c hs ns y z halted run (subst (λ w. StepsOf p rooms w z) is step)
    stands_next x z (retraces_within h c d hs ns y m by halted run is) step =
        retraces h c hs ns y halted run (so (writes_back m by.quint) _ _ z
        (has_writes_back p m by.quint by.match.stands)
        (retraces_on_leads m by.quint c ns (word_tape y) by.match.holds.from by.match.holds.reads (scanned-word y))
        (subst (λ w. StepsOf p rooms w z) is step))

    stands_after : (n : ℕ) (x z : Configuration Name) → Stands p word x → Reaches (StepsOf p rooms) n x z
        → Stands p word z
    stands_after zero x z h run = subst (Stands p word) run h
    stands_after (suc n) x z h run = stands_after n run.0 z (stands_next x run.0 h run.1) run.2

pub every_moment_stands : EveryMomentStands
every_moment_stands p word standard letters rooms n x run = stands_after p word standard letters rooms n
    (beginning p word) x (computes (start p word) [] refl refl) run
