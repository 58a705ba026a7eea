-- The run within limits: it ends exactly as the machine's own bounded run comes out.
use Rattle.std.specs.Prelude.{◌≡◌, ◌≢◌, ℕ, zero, suc, ◌+◌, ◌*◌, ◌<◌, ◌≤◌, ◌⊎◌, ℤ, pos, ◌+ℤ◌, ◌-ℤ◌, ◌≤ℤ◌, ◌<ℤ◌, List, []}
use Rattle.std.specs.Prelude.{◌∷◌, length, take, All}
use Rattle.std.proofs.Common.{refl, sym, ap, ◌∙◌, subst, arith, inl, inr, get_or}
use Rattle.std.proofs.lemmas.Int.{ints}
use Rattle.std.proofs.lemmas.Bool.{cases_lt}
use Rattle.std.proofs.lemmas.List.{get_or_default, get_or_past}
use Rattle.std.proofs.lemmas.Grind.{same_number_lists}
use Rattle.bn_lists.specs.Runs.{Reaches}
use Rattle.bn_lists.proofs.RunsLemmas.{runs_join, runs_more}
use Rattle.bn_machine.specs.Tape.{scanned, word_tape, blank_tape, ahead}
use Rattle.bn_machine.proofs.TapeLemmas.{scanned-ahead}
use Rattle.bn_machine.specs.Window.{Room, anywhere, within, IsBetween, IsBeyond}
use Rattle.bn_machine.specs.Machine.{Program, Moment, MachineRunsTo, IsFinal, IsMachineStuck, start}
use Rattle.bn_machine.specs.Run.{Follows, IsOutput}
use Rattle.bn_machine.specs.Outcome.{Limits, Outcome, HasOutcome, HasRoom, IsFirstShort, Copies, copied, work_short}
use Rattle.bn_machine.specs.Outcome.{output_short, ComesOut, halts, sticks, runs_out, leaves}
use Rattle.bn_machine.specs.Outcome as outcome
use Rattle.bn_machine.proofs.MachineStepLemmas.{run_follows}
use Rattle.bn_machine.proofs.OutcomeLemmas.{outcome_exists}
use Rattle.bn_machine.specs.declared.quint.Side.{Side}
use Rattle.bn_machine.specs.declared.quint.Side.TheVariants.{Right}
use Rattle.bn_quad.specs.Quadruples.{Configuration}
use Rattle.bn_bennett_laws.specs.List.{bennett, final_name, writes_ahead, shifts_ahead, goes_right}
use Rattle.bn_bennett_laws.proofs.ListLemmas.{has_writes_ahead, has_shifts_ahead, has_goes_right}
use Rattle.bn_bennett_laws.specs.Steps.{IsFirstOutside, Exit, Finished, Stopped, Leaving}
use Rattle.bn_bennett_laws.specs.Steps as quads
use Rattle.bn_bennett_laws.proofs.StageStepLemmas.{no_first_read, exits_once}
use Rattle.bn_bennett_laws.specs.Stages.{IsStandardMachine, IsSpelledBy, history, computing, computing_within, copying}
use Rattle.bn_bennett_laws.specs.Stages.{beginning, StepsOf, rooms_of, Comes, IsAfter, EndsAs, Halts, HasNoRoom}
use Rattle.bn_bennett_laws.specs.Stages.{for_number, for_shift, to_read, to_write}
use Rattle.bn_bennett_laws.specs.Laws.{AllowsUpTo, IsReady, BoundedRunsAgree, RunsHaveNoRoom}
use Rattle.bn_bennett_laws.proofs.Tapes.{scanned-word}
use Rattle.bn_bennett_laws.proofs.Moves.{computes_leads, computes_on_leads, right_leads}
use Rattle.bn_bennett_laws.proofs.Runs.{follows_allowed, follow_by, compute_run, compute_first, copy_right}
use Rattle.bn_bennett_laws.proofs.Halted.{halted_is_ready}
use Rattle.bn_bennett_laws.proofs.Theorem.{stuck_reads, halting_run}
use Rattle.bn_bennett_laws.proofs.Tests.{list_deterministic}
use Rattle.bn_bennett_laws.specs.declared.name.Name.{Name}
use Rattle.bn_bennett_laws.specs.declared.name.Name.TheVariants.{Compute, ComputeWithin, GoRight, CopyLetter, GoLeft}
use Rattle.bn_bennett_laws.specs.declared.name.Name.TheVariants.{PassLetter, Retrace, RetraceWithin}

-- a run in a room is one without
follows_anywhere : (room : Room) (p : Program) (ns : List ℕ) (c d : Moment) → Follows room p ns c d
    → Follows anywhere p ns c d
follows_anywhere room p [] c d h = h
follows_anywhere room p (n ∷ ns) c d h =
    let by = h.2 in (
      h.0,
      follows_anywhere room p ns c h.0 h.1,
      record {
        going = by.going;
        quint = by.quint;
        match = by.match;
        applies = by.applies;
        stays = tt;
      },
    )

-- ---- rooms

module _ (left right : ℕ) where
  pub at_zero : IsBetween left right (pos 0)
  at_zero = record { above = omega (arith, ints); below = omega (arith, ints) }

  up_to : (n : ℕ) → n ≤ right → AllowsUpTo (within left right) (pos 0) n
  up_to n high = λ j low. record { above = omega (arith, ints); below = omega (arith, ints) }

  -- from a position inside, as far as no position is beyond the right end
  up_from : (p : ℤ) (n : ℕ) → IsBetween left right p → ((j : ℕ) → 0 < j → j ≤ n → (p +ℤ pos j) ≤ℤ pos right)
      → AllowsUpTo (within left right) p n
  up_from p n inside each zero low = record {
    above = omega (arith, ints, inside.above);
    below = omega (arith, ints, inside.below);
  }
  up_from p n inside each (suc j) low = let high = each (suc j) (omega arith) low in record
      { above = omega (arith, ints, inside.above); below = high }

module _ (p : Program) (word : List ℕ) (standard : IsStandardMachine p) (letters : IsSpelledBy p word) (l : Limits)
    (ns : List ℕ) (c : Moment) (run : Follows (within l.left l.right) p ns (start p word) c)
    (in_time : length ns ≤ l.steps) where
  inside : IsBetween l.left l.right c.tape.head
  inside = follows_allowed (within l.left l.right) p ns (start p word) c (at_zero l.left l.right) run

  in_history : AllowsUpTo (within 0 l.steps) (pos 0) (length ns)
  in_history = up_to 0 l.steps (length ns) in_time

  made : Reaches (StepsOf p (rooms_of l)) (2 * length ns) (beginning p word) (computing c ns blank_tape)
  made = compute_run p (rooms_of l) word ns c run (at_zero l.left l.right) (at_zero 0 l.output) in_history

  history_head : (history ns).head ≡ pos (length ns)
  history_head = omega (arith, ints)

  -- a run that has no room: where the reversible machine leaves, and what it is at then
  record IsCut (tape : ℕ) (side : Side) : Type 0 where
    n : ℕ
    x : Configuration Name
    comes : Comes p word l n x (Leaving tape side)
    after : IsAfter (length ns) n x.state x.two.head x.three.head
    stands : HasNoRoom p word l (length ns) tape side x

  ends_cut : (tape : ℕ) (side : Side) → IsCut tape side → EndsAs p word l (length ns) (outcome.Outside tape side)
  ends_cut tape side k = (k.n, k.x, k.comes, k.after)

  -- by the outcome's own tape and side
  cut_so_named : (tape : ℕ) (side : Side) (t : ℕ) → outcome.Outside tape side ≡ outcome.Outside t Right → IsCut t Right
      → IsCut tape side
  cut_so_named tape side t why cut =
      let tapes : tape ≡ t = cc in
      let sides : side ≡ Right = cc in
      subst (IsCut tape) (sym sides) (subst (λ v. IsCut v Right) (sym tapes) cut)

  -- ---- halted

  module _ (y : List ℕ) (final : IsFinal p c) (out : IsOutput c.tape y) where
    ready : IsReady p c ns y
    ready = halted_is_ready p (within l.left l.right) word ns y c standard letters run final out

    is_word : All (λ s. s ≢ 0) y
    is_word = λ k d low. subst (λ s. s ≢ 0) (get_or_default y k 0 d low) (out.letters k low)

    ends_halted : ((j : ℕ) → 0 < j → j ≤ length y + 1 → HasRoom l c.tape.head j)
        → EndsAs p word l (length ns) (outcome.Halted y)
    ends_halted room =
        let work = up_from l.left l.right c.tape.head (length y + 1) inside (λ j low high. (room j low high).work) in
        let last = room (length y + 1) (omega arith) (omega arith) in
        let output = up_to 0 l.output (length y + 1) last.output in (
          is_word,
          record {
            run = halting_run p (rooms_of l) word ns y c standard letters run final out (at_zero l.left l.right)
                work in_history output;
            ends = quads.finishes refl refl;
          },
        )

    -- the cell k + 1 of the output is missing on the work tape or on the output tape
    cut_short : (k tape : ℕ) → k ≤ length y → ((j : ℕ) → 0 < j → j < suc k → HasRoom l c.tape.head j)
        → IsFirstOutside (rooms_of l) (copying CopyLetter c ns (take k y) (suc k)) tape Right
        → HasNoRoom p word l (length ns) tape Right (copying GoRight c ns (take k y) k) → IsCut tape Right
    cut_short k tape low room out_there stands =
        let work = up_from l.left l.right c.tape.head k inside (λ j some high. (room j some (omega arith)).work) in
        let output = up_to 0 l.output k (reached k (λ some. (room k some (omega arith)).output)) in
        let two = in_history (length ns) (omega arith) in
        let copied_so_far = copy_right p (rooms_of l) c ns y ready two k low work output in
        let n : ℕ = 2 * length ns + 2 * k + 1 in
        let there : Reaches (StepsOf p (rooms_of l)) n (beginning p word) (copying GoRight c ns (take k y) k) =
        runs_join (StepsOf p (rooms_of l)) n (2 * length ns) (2 * k + 1) _ _ _ (omega arith) made copied_so_far in
        record {
          n = n;
          x = copying GoRight c ns (take k y) k;
          comes = record {
            run = there;
            ends = quads.leaves tape Right (copying CopyLetter c ns (take k y) (suc k)) (λ same. cc)
                (follow_by p goes_right _ _ (has_goes_right p) (right_leads c ns (length p.quints) ready.last (take k y)
                k)) out_there refl;
          };
          after = (history_head, (k, omega (arith, ints), refl));
          stands = stands;
        }
      where
        reached : (k : ℕ) → (0 < k → k ≤ l.output) → k ≤ l.output
        reached zero h = omega arith
        reached (suc k) h = h (omega arith)

    halts_so : Halts p word c ns y
    halts_so = record {
      run = follows_anywhere (within l.left l.right) p ns (start p word) c run;
      final = final;
      output = out;
    }

    -- cell k is the last one that the work tape has
    cut_work : (k : ℕ) → IsFirstShort l c.tape.head (length y) (suc k) → pos l.right <ℤ (c.tape.head +ℤ pos (suc k))
        → IsCut 1 Right
    cut_work k short beyond =
        let last : suc k ≤ length y + 1 = short.reached in
        let high : (c.tape.head +ℤ pos k) ≤ℤ pos l.right = before k (λ some. (short.before k some (omega arith)).work)
        in
        cut_short k 1 (omega arith) short.before beyond (to_read c ns y k halts_so refl refl refl (omega (arith, ints))
        refl)
      where
        before : (k : ℕ) → (0 < k → (c.tape.head +ℤ pos k) ≤ℤ pos l.right) → (c.tape.head +ℤ pos k) ≤ℤ pos l.right
        before zero h = let within_right : c.tape.head ≤ℤ pos l.right = inside.below in omega (arith, ints)
        before (suc k) h = h (omega arith)

    -- and here the output tape
    cut_output : (k : ℕ) → IsFirstShort l c.tape.head (length y) (suc k) → (c.tape.head +ℤ pos (suc k)) ≤ℤ pos l.right
        → l.output < suc k → IsCut 3 Right
    cut_output k short fits past =
        let last : suc k ≤ length y + 1 = short.reached in
        let low : (pos 0 -ℤ pos l.left) ≤ℤ c.tape.head = inside.above in
        let on_work : IsBetween l.left l.right (c.tape.head +ℤ pos (suc k)) =
        record { above = omega (arith, ints); below = fits } in
        let beyond : pos l.output <ℤ (pos 0 +ℤ pos (suc k)) = omega (arith, ints) in
        let high : k ≤ l.output = before k (λ some. (short.before k some (omega arith)).output) in
        cut_short k 3 (omega arith) short.before (on_work, in_history (length ns) (omega arith), beyond)
        (to_write c ns y k halts_so refl refl refl (omega arith) refl)
      where
        before : (k : ℕ) → (0 < k → k ≤ l.output) → k ≤ l.output
        before zero h = omega arith
        before (suc k) h = h (omega arith)

    cut_copying : (tape : ℕ) (side : Side) → Copies l c.tape.head y (outcome.Outside tape side) → IsCut tape side
    cut_copying tape side (copied room why) = absurd (let both : outcome.Outside tape side
        ≡ outcome.Halted y = why in cc)
    cut_copying tape side (work_short zero short beyond why) = let some : 0 < 0 = short.starts in absurd (omega arith)
    cut_copying tape side (work_short (suc k) short beyond why) = cut_so_named tape side 1 why (cut_work k short beyond)
    cut_copying tape side (output_short zero short fits past why) = let some : 0 < 0 =
        short.starts in absurd (omega arith)
    cut_copying tape side (output_short (suc k) short fits past why) =
        cut_so_named tape side 3 why (cut_output k short fits past)

    ends_copying : (o : Outcome) → Copies l c.tape.head y o → EndsAs p word l (length ns) o
    ends_copying o (copied room why) = subst (EndsAs p word l (length ns)) (sym why) (ends_halted room)
    ends_copying o (work_short zero short beyond why) = let some : 0 < 0 = short.starts in absurd (omega arith)
    ends_copying o (work_short (suc k) short beyond why) = subst (EndsAs p word l (length ns)) (sym why)
        (ends_cut 1 Right (cut_work k short beyond))
    ends_copying o (output_short zero short fits past why) = let some : 0 < 0 = short.starts in absurd (omega arith)
    ends_copying o (output_short (suc k) short fits past why) =
        subst (EndsAs p word l (length ns)) (sym why) (ends_cut 3 Right (cut_output k short fits past))

  -- ---- stuck

  ends_stuck : IsMachineStuck p c → EndsAs p word l (length ns) (outcome.Stuck c.state (scanned c.tape))
  ends_stuck stuck =
      let reads = stuck_reads p c ns blank_tape stuck in (
        computing c ns blank_tape,
        record {
          run = made;
          ends = quads.stops (λ same. cc) (no_first_read (bennett p) (computing c ns blank_tape) reads) refl;
        },
        refl,
        refl,
        reads,
      )

  -- ---- out of the history, and out of the work tape

  follows_so : Follows anywhere p ns (start p word) c
  follows_so = follows_anywhere (within l.left l.right) p ns (start p word) c run

  cut_full : (d : Moment) → MachineRunsTo anywhere p c d → length ns ≡ l.steps → IsCut 2 Right
  cut_full d goes full =
      let by = goes.1 in
      let beyond : pos l.steps <ℤ ((pos 0 +ℤ pos (length ns)) +ℤ pos 1) = omega (arith, ints) in
      record {
        n = 2 * length ns;
        x = computing c ns blank_tape;
        comes = record {
          run = made;
          ends = quads.leaves 2 Right (computing_within c ns goes.0 by.quint blank_tape) (λ same. cc)
              (follow_by p (writes_ahead goes.0 by.quint) _ _ (has_writes_ahead p goes.0 by.quint by.match.stands)
              (computes_leads goes.0 by.quint c ns blank_tape by.match.holds.from by.match.holds.reads
              (scanned-word [])))
              (inside, beyond) refl;
        };
        after = (history_head, refl);
        stands = for_number c d ns follows_so refl goes refl refl refl;
      }

  cut_leaving : (d : Moment) (side : Side) → MachineRunsTo anywhere p c d → length ns < l.steps
      → IsBeyond l.left l.right side d.tape.head → IsCut 1 side
  cut_leaving d side goes early beyond =
      let by = goes.1 in
      let next = up_to 0 l.steps (length ns + 1) (omega arith) (length ns + 1) (omega arith) in
      let begun = compute_first p (rooms_of l) anywhere goes.0 c d ns by inside next (at_zero 0 l.output) in
      record {
        n = 2 * length ns + 1;
        x = computing_within c ns goes.0 by.quint blank_tape;
        comes = record {
          run = runs_more (StepsOf p (rooms_of l)) (2 * length ns) _ _ _ made begun;
          ends = quads.leaves 1 side (computing d (goes.0 ∷ ns) blank_tape) (λ same. cc)
              (follow_by p (shifts_ahead goes.0 by.quint) _ _ (has_shifts_ahead p goes.0 by.quint by.match.stands)
              (computes_on_leads goes.0 by.quint c d ns blank_tape by.applies.writes by.applies.to))
              beyond refl;
        };
        after = (omega (arith, ints), refl);
        stands = for_shift c d ns goes.0 by follows_so refl refl refl;
      }

  cut_so : (tape : ℕ) (side : Side) → ComesOut p l (length ns) c (outcome.Outside tape side) → IsCut tape side
  cut_so tape side (halts y final out copies) = cut_copying y final out tape side copies
  cut_so tape side (sticks stuck why) = absurd (let both : outcome.Outside tape side
      ≡ outcome.Stuck c.state (scanned c.tape) = why in cc)
  cut_so tape side (runs_out d goes full why) = cut_so_named tape side 2 why (cut_full d goes full)
  cut_so tape side (leaves d to goes early beyond why) =
      let tapes : tape ≡ 1 = cc in
      let sides : side ≡ to = cc in
      subst (IsCut tape) (sym sides) (subst (λ v. IsCut v to) (sym tapes) (cut_leaving d to goes early beyond))

  ends_so : (o : Outcome) → ComesOut p l (length ns) c o → EndsAs p word l (length ns) o
  ends_so o (halts y final out copies) = ends_copying y final out o copies
  ends_so o (sticks stuck why) = subst (EndsAs p word l (length ns)) (sym why) (ends_stuck stuck)
  ends_so o (runs_out d goes full why) = subst (EndsAs p word l (length ns)) (sym why)
      (ends_cut 2 Right (cut_full d goes full))
  ends_so o (leaves d side goes early beyond why) = subst (EndsAs p word l (length ns)) (sym why)
      (ends_cut 1 side (cut_leaving d side goes early beyond))

-- ---- the machine's outcome is how the run ends

pub bounded_forth : (p : Program) (word : List ℕ) → IsStandardMachine p → IsSpelledBy p word
    → (l : Limits) (i : ℕ) (o : Outcome) → HasOutcome p word l i o → EndsAs p word l i o
bounded_forth p word standard letters l i o h =
    let ns = run_follows (within l.left l.right) p i (start p word) h.moment h.run in
    let in_time : length ns.0 ≤ l.steps = subst (λ k. k ≤ l.steps) (sym ns.1) h.in_time in
    subst (λ k. EndsAs p word l k o) ns.1 (ends_so p word standard letters l ns.0 h.moment ns.2 in_time o
    (subst (λ k. ComesOut p l k h.moment o) (sym ns.1) h.ends))

-- ---- and it ends in one way

-- words without blanks that stand alike are the same
words_apart : (y z : List ℕ) → All (λ s. s ≢ 0) y → All (λ s. s ≢ 0) z → word_tape y ≡ word_tape z → y ≡ z
words_apart y z a b same = by_length (cases_lt (length y) (length z)) (cases_lt (length z) (length y))
  where
    alike : (k : ℕ) → get_or y k 0 ≡ get_or z k 0
    alike k = sym (scanned-ahead y k) ∙ ap (λ t. scanned (ahead (suc k) t)) same ∙ scanned-ahead z k

    by_length : (length y < length z) ⊎ (length z ≤ length y) → (length z < length y) ⊎ (length y ≤ length z) → y ≡ z
    by_length (inl low) o = absurd (b (length y) 0 low (sym (alike (length y))
        ∙ get_or_past y (length y) 0 (omega arith)))
    by_length (inr high) (inl low) = absurd (a (length z) 0 low
        (alike (length z) ∙ get_or_past z (length z) 0 (omega arith)))
    by_length (inr high) (inr low) = same_number_lists y z (omega arith) (λ k h. alike k)

after_once : (i j n : ℕ) (state : Name) (two three : ℤ) → IsAfter i n state two three → IsAfter j n state two three
    → i ≡ j
after_once i j n (Compute s) two three h k = let a : two ≡ pos i = h.0 in let b : two ≡ pos j =
    k.0 in omega (arith, ints)
after_once i j n (ComputeWithin m) two three h k = let a : two ≡ pos (suc i) = h.0 in let b : two ≡ pos (suc j) =
    k.0 in omega (arith, ints)
after_once i j n GoRight two three h k = let a : two ≡ pos i = h.0 in let b : two ≡ pos j = k.0 in omega (arith, ints)
after_once i j n CopyLetter two three h k = absurd h
after_once i j n GoLeft two three h k = absurd h
after_once i j n PassLetter two three h k = absurd h
after_once i j n (Retrace s) two three h k = absurd h
after_once i j n (RetraceWithin m) two three h k = absurd h

module _ (p : Program) (word : List ℕ) (standard : IsStandardMachine p) (l : Limits) where
  comes_once : (m n : ℕ) (d b : Configuration Name) (e f : Exit) → Comes p word l m d e → Comes p word l n b f
      → (m ≡ n) × (d ≡ b) × (e ≡ f)
  comes_once m n d b e f = exits_once (rooms_of l) (bennett p) (final_name p) (list_deterministic p standard.standard) m
      n (beginning p word) d b e f

  ends_as_once : (i j : ℕ) (o q : Outcome) → EndsAs p word l i o → EndsAs p word l j q → (i ≡ j) × (o ≡ q)
  ends_as_once i j (outcome.Halted y) (outcome.Halted z) h k =
      let same = comes_once _ _ _ _ _ _ h.1 k.1 in
      let words : y ≡ z = words_apart y z h.0 k.0 (ap (λ (x : Configuration Name). x.three) same.1) in
      let long : length y ≡ length z = ap length words in
      let count : 4 * i + 4 * length y + 5 ≡ 4 * j + 4 * length z + 5 = same.0 in
      (omega arith, ap outcome.Halted words)
  ends_as_once i j (outcome.Halted y) (outcome.Stuck s a) h k = let e : Finished ≡ Stopped =
      (comes_once _ _ _ _ _ _ h.1 k.1).2 in absurd (cc)
  ends_as_once i j (outcome.Halted y) (outcome.Outside t side) h k = let e : Finished ≡ Leaving t side =
      (comes_once _ _ _ _ _ _ h.1 k.2).2 in absurd (cc)
  ends_as_once i j (outcome.Stuck s a) (outcome.Halted z) h k = let e : Stopped ≡ Finished =
      (comes_once _ _ _ _ _ _ h.1 k.1).2 in absurd (cc)
  ends_as_once i j (outcome.Stuck s a) (outcome.Stuck s' a') h k =
      let same = comes_once _ _ _ _ _ _ h.1 k.1 in
      let count : 2 * i ≡ 2 * j = same.0 in
      let state : Compute s ≡ Compute s' = sym h.2 ∙ ap (λ (x : Configuration Name). x.state) same.1 ∙ k.2 in
      let states : s ≡ s' = cc in
      let symbols : a ≡ a' = sym h.3 ∙ ap (λ (x : Configuration Name). scanned x.one) same.1 ∙ k.3 in
      (omega arith, λ t. outcome.Stuck (states t) (symbols t))
  ends_as_once i j (outcome.Stuck s a) (outcome.Outside t side) h k = let e : Stopped ≡ Leaving t side =
      (comes_once _ _ _ _ _ _ h.1 k.2).2 in absurd (cc)
  ends_as_once i j (outcome.Outside t side) (outcome.Halted z) h k = let e : Leaving t side ≡ Finished =
      (comes_once _ _ _ _ _ _ h.2 k.1).2 in absurd (cc)
  ends_as_once i j (outcome.Outside t side) (outcome.Stuck s a) h k = let e : Leaving t side ≡ Stopped =
      (comes_once _ _ _ _ _ _ h.2 k.1).2 in absurd (cc)
  ends_as_once i j (outcome.Outside t side) (outcome.Outside t' side') h k =
      let same = comes_once _ _ _ _ _ _ h.2 k.2 in
      let exits : Leaving t side ≡ Leaving t' side' = same.2 in
      let tapes : t ≡ t' = cc in
      let sides : side ≡ side' = cc in
      let there : IsAfter i k.0 k.1.state k.1.two.head k.1.three.head =
      subst (λ (x : Configuration Name). IsAfter i k.0 x.state x.two.head x.three.head) same.1
      (subst (λ n. IsAfter i n h.1.state h.1.two.head h.1.three.head) same.0 h.3) in
      (after_once i j k.0 k.1.state k.1.two.head k.1.three.head there k.3, λ u. outcome.Outside (tapes u) (sides u))

pub bounded_runs_agree : BoundedRunsAgree
bounded_runs_agree p word standard letters l i o = (
  bounded_forth p word standard letters l i o,
  λ ends.
      let found = outcome_exists p word l in
      let same = ends_as_once p word standard l found.0 i found.1 o
      (bounded_forth p word standard letters l found.0 found.1 found.2) ends in
      subst (HasOutcome p word l i) same.1 (subst (λ k. HasOutcome p word l k found.1) same.0 found.2),
)

-- ---- where it has no room

pub runs_have_no_room : RunsHaveNoRoom
runs_have_no_room p word standard letters l i tape side h n x comes =
    let ns = run_follows (within l.left l.right) p i (start p word) h.moment h.run in
    let in_time : length ns.0 ≤ l.steps = subst (λ k. k ≤ l.steps) (sym ns.1) h.in_time in
    let cut = cut_so p word standard letters l ns.0 h.moment ns.2 in_time tape side
    (subst (λ k. ComesOut p l k h.moment (outcome.Outside tape side)) (sym ns.1) h.ends) in
    let same = comes_once p word standard l n cut.n x cut.x (Leaving tape side) (Leaving tape side) comes cut.comes in
    subst (λ k. HasNoRoom p word l k tape side x) ns.1 (subst (HasNoRoom p word l (length ns.0) tape side) (sym same.1)
    cut.stands)
