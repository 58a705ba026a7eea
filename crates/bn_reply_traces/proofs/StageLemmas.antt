-- A stage and the moment that it stands for.
use Rattle.std.specs.Prelude.{◌≡◌, ◌≢◌, ◌↔◌, ℕ, ◌+◌, ◌<◌, ◌≤◌, ℤ, pos, ◌+ℤ◌, ◌-ℤ◌, ◌≤ℤ◌}
use Rattle.std.specs.Prelude.{List, length, take, min, max, Bool, true, false, Option, Some, None, MatchOption, refl}
use Rattle.std.specs.Option.{is_some}
use Rattle.std.proofs.Common.{arith, inl, sym, subst, ap, ◌∙◌, not}
use Rattle.std.proofs.lemmas.Int.{ints}
use Rattle.bn_lists.proofs.RunsLemmas.{runs_end_once, runs_more}
use Rattle.bn_machine.specs.Machine.{IsLeaving, MachineRunsTo, Moment, Program, moment, start, start_of}
use Rattle.bn_machine.specs.MachineCalls.{IsTurn}
use Rattle.bn_machine.specs.Run.{After}
use Rattle.bn_machine.specs.Tape.{Tape, cell, scanned, word_tape}
use Rattle.bn_machine.specs.Window.{IsWindowed, Windowed, anywhere, new_window, with_tape}
use Rattle.bn_machine.specs.declared.machine.Turn.{Turn}
use Rattle.bn_machine.specs.declared.machine.Turn.TheVariants as turns
use Rattle.bn_machine.specs.declared.quint.Side.{Side}
use Rattle.bn_machine.specs.declared.tape.TheConstants.Tape.{GREATEST_SIDE}
use Rattle.bn_machine.proofs.MachineStepLemmas.{head_near, steps_are_functions, word_beyond}
use Rattle.bn_machine.proofs.OutcomeLemmas.{run_goes_on}
use Rattle.bn_machine.proofs.TapeLemmas.{cell-write_beside}
use Rattle.bn_table.specs.Rows.{Named}
use Rattle.bn_base.specs.declared.limits.TheConstants.{MOST_COUNT}
use Rattle.bn_reply_machines.specs.MachineRun.{IsLetterAt, Reached}
use Rattle.bn_reply_machines.proofs.RunLemmas.{one_step_more}
use Rattle.bn_reply_machines.proofs.WholeRunLemmas.{Cuts, cuts}
use Rattle.bn_reply_traces.specs.Extents.{IsFirst, IsLast}
use Rattle.bn_reply_traces.specs.Stages.{IsMoved, IsRule, IsStageAfter, StandsFor}
use Rattle.bn_reply_traces.specs.declared.extent.Extent.{Extent}
use Rattle.bn_reply_traces.specs.declared.stage.Stage.{Stage}
use Rattle.bn_reply_traces.proofs.ExtentLemmas.{first_of_word, marked_within}
use Rattle.std.proofs.lemmas.List.{length-take}

-- how many letters of a word stand on the tape, and how far the tape reaches to the right
abbrev held : List ℕ → ℕ
held word = min GREATEST_SIDE (length word)

abbrev right_of : List ℕ → ℕ → ℕ
right_of word n = max (held word) (n + 1)

abbrev window : List ℕ → ℕ → Windowed
window word n = new_window (n + 1) (right_of word n) (take (held word) word)

-- the moment of the whole run at a stage
pub whole_at : (t : Named) (word : List ℕ) (n i state : ℕ) (w : Windowed) → n ≤ MOST_COUNT → i ≤ n →
    Reached t.machine i (start_of t.machine.quints) (window word n) state w →
    Cuts t.machine word i (moment state w) w
whole_at t word n i state w few early r =
    cuts t.machine word n (n + 1) (right_of word n) i state w few (omega arith) (omega arith) (omega arith) early r

-- the tape without ends on which the whole run then is
pub stands : (p : Program) (word : List ℕ) (i state : ℕ) (w : Windowed) (h : Cuts p word i (moment state w) w) →
    StandsFor w word h.whole.tape
stands p word i state w h = record {
  head = h.agrees.head;
  near = λ q inside.
      let side : w.right ≤ GREATEST_SIDE = h.right_side in
      h.agrees.cells q (omega (arith, ints, inside));
  far = λ q beyond.
      let room : i < w.right = h.right_room in
      word_beyond anywhere p word i h.whole q (omega (arith, ints, beyond)) h.run;
}

-- the window of the start
start_windowed : (word : List ℕ) (n : ℕ) → n ≤ MOST_COUNT → IsWindowed (window word n)
start_windowed word n few = record {
  left_side = omega arith;
  right_side = omega arith;
  head = record { above = omega (arith, ints); below = omega (arith, ints) };
  outside = λ q letter.
      let high : q ≤ℤ pos (length (take (held word) word)) = (last_within word n q letter) in
      let low : pos 0 ≤ℤ q = (first_of_word (take (held word) word)).least q (inl letter) in
      let short : length (take (held word) word) ≤ held word = omega (arith, length-take (held word) word) in
      record { above = omega (arith, ints, low); below = omega (arith, ints, high, short) };
}
  where
    last_within : (word : List ℕ) (n : ℕ) (q : ℤ) → cell (window word n).tape q ≢ 0 →
        q ≤ℤ pos (length (take (held word) word))
    last_within word n q letter = marked_within (take (held word) word) q (inl letter)

-- the first stage
pub stage_start : (t : Named) (word : List ℕ) (n state : ℕ) (w : Windowed) (e : Extent) → n ≤ MOST_COUNT →
    state ≡ start_of t.machine.quints → w ≡ window word n → IsFirst (word_tape word) e.first →
    IsLast (word_tape word) e.last →
    IsStageAfter t word n 0 (record { state = state; tape = w; extent = e })
stage_start t word n state w e few state_is tape_is first last =
    let p = t.machine in
    let r : Reached p 0 (start_of p.quints) (window word n) state w = record {
      same = subst (λ (x : Windowed). w ≡ with_tape x w.tape) tape_is refl;
      run = same_start;
    } in
    let h = whole_at t word n 0 state w few (omega arith) r in
    record {
      reached = r;
      windowed = subst IsWindowed (sym tape_is) (start_windowed word n few);
      whole = h.whole;
      run = h.run;
      state = h.agrees.state;
      tape = stands p word 0 state w h;
      first = subst (λ (m : Moment). IsFirst m.tape e.first) h.run first;
      last = subst (λ (m : Moment). IsLast m.tape e.last) h.run last;
    }
  where
    same_start : moment (start_of t.machine.quints) (window word n) ≡ moment state w
    same_start = sym (ap (λ (k : ℕ). moment k w) state_is ∙ ap (moment (start_of t.machine.quints)) tape_is)

-- ---- the step

-- what a machine that goes on answers
pub must_move : (p : Program) (turn : Turn) (state : ℕ) (w : Windowed) (after : ℕ) (v : Windowed) →
    ((n : ℕ) × IsRule p state (scanned w.tape) (Some n)) → ((side : Side) → IsLeaving p state w side → ⊥) →
    IsTurn p turn state w after v → (turn ≡ turns.Moved → ⊥) → ⊥
must_move p turns.Final state w after v rule stays turn other = rule.1.0 turn.0
must_move p (turns.Stuck at symbol) state w after v rule stays turn other =
    let first = rule.1.1 in turn.0.none.none rule.0 first.0 first.1.stands first.1.holds
must_move p (turns.Left side) state w after v rule stays turn other = stays side turn.0
must_move p turns.Moved state w after v rule stays turn other = other refl

-- a step of the whole run, as it changes the tape
pub moves : (p : Program) (c d : Moment) (left head : ℤ) (is_blank : Bool) → MachineRunsTo anywhere p c d →
    c.tape.head ≡ left → d.tape.head ≡ head → ((is_blank ≡ true) ↔ (cell d.tape left ≡ 0)) →
    IsMoved c.tape d.tape left is_blank head
moves p c d left head is_blank goes from to blank =
    let near = head_near anywhere p c d goes in
    let q = goes.1.quint in
    record {
      from = from;
      to = to;
      near = subst (λ (h : ℤ). ((h -ℤ pos 1) ≤ℤ head) × (head ≤ℤ (h +ℤ pos 1))) from
          (subst (λ (h : ℤ). ((c.tape.head -ℤ pos 1) ≤ℤ h) × (h ≤ℤ (c.tape.head +ℤ pos 1))) to near);
      beside = λ r apart.
          ap (λ (x : Tape). cell x r) goes.1.applies.writes
          ∙ cell-write_beside c.tape q.write r (λ e. apart (e ∙ from));
      blank = blank;
    }

-- the whole run makes this step
one_step : (p : Program) (word : List ℕ) (i : ℕ) (c d : Moment) → After p word i c → After p word (i + 1) d →
    MachineRunsTo anywhere p c d
one_step p word i c d first second =
    let only = steps_are_functions anywhere p in
    let goes = run_goes_on (MachineRunsTo anywhere p) only i (i + 1) (start p word) c d (omega arith) first second in
    let same = runs_end_once (MachineRunsTo anywhere p) only (i + 1) (start p word) goes.0 d
    (runs_more (MachineRunsTo anywhere p) i (start p word) c goes.0 first goes.1) second
    in
    subst (MachineRunsTo anywhere p c) same goes.1

-- the cell that the head left is blank
pub blank_there : (found : Option ℕ) (is_none : Bool) (w : Windowed) (t : Tape) (word : List ℕ) (left : ℤ) →
    is_some found ≡ not is_none → MatchOption found (cell w.tape left ≡ 0) (IsLetterAt w left) →
    StandsFor w word t → left ≤ℤ pos w.right → (is_none ≡ true) ↔ (cell t left ≡ 0)
blank_there None true w t word left is h s inside = (λ _. s.near left inside ∙ h, λ _. refl)
blank_there None false w t word left is h s inside = absurd (cc)
blank_there (Some symbol) true w t word left is h s inside = absurd (cc)
blank_there (Some symbol) false w t word left is h s inside =
    (λ e. absurd (cc), λ e. absurd (h.letter (sym h.stands ∙ sym (s.near left inside) ∙ e)))

-- the stage behind a step
pub stage_more : (t : Named) (word : List ℕ) (n i : ℕ) (s : Stage) (after : ℕ) (v : Windowed) (e : Extent)
    (left head : ℤ) (found : Option ℕ) (is_blank : Bool) → n ≤ MOST_COUNT → i < n → IsStageAfter t word n i s →
    IsTurn t.machine turns.Moved s.state s.tape after v → left ≡ s.tape.tape.head → head ≡ v.tape.head →
    is_some found ≡ not is_blank → MatchOption found (cell v.tape left ≡ 0) (IsLetterAt v left) →
    IsWindowed v →
    ((x y : Tape) → IsMoved x y left is_blank head → IsFirst x s.extent.first → IsFirst y e.first) →
    ((x y : Tape) → IsMoved x y left is_blank head → IsLast x s.extent.last → IsLast y e.last) →
    IsStageAfter t word n (i + 1) (record { state = after; tape = v; extent = e })
stage_more t word n i s after v e left head found is_blank few early at turn left_is head_is none found_is windowed
    first last =
    let p = t.machine in
    let r = one_step_more p i (start_of p.quints) (window word n) s.state s.tape after v at.reached turn in
    let h = whole_at t word n (i + 1) after v few (omega arith) r in
    let shown = stands p word (i + 1) after v h in
    let goes = one_step p word i at.whole h.whole at.run h.run in
    let same : v.right ≡ s.tape.right = ap (λ (x : Windowed). x.right) turn.1 in
    let within : s.tape.tape.head ≤ℤ pos s.tape.right = at.windowed.head.below in
    let inside : left ≤ℤ pos v.right = omega (arith, ints, left_is, same, within) in
    let moved = moves p at.whole h.whole left head is_blank goes (at.tape.head ∙ sym left_is)
    (shown.head ∙ sym head_is) (blank_there found is_blank v h.whole.tape word left none found_is shown inside)
    in
    record {
      reached = r;
      windowed = windowed;
      whole = h.whole;
      run = h.run;
      state = h.agrees.state;
      tape = shown;
      first = first at.whole.tape h.whole.tape moved at.first;
      last = last at.whole.tape h.whole.tape moved at.last;
    }
