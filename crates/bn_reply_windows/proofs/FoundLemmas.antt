-- From a measured run on the front of a word, on a tape in a window, to the least window of the whole word.
use Rattle.std.proofs.Common.{◌≡◌, ◌≢◌, ℕ, suc, ◌+◌, ◌-◌, ◌<◌, ◌≤◌, min, List, length, take, ◌⊎◌, inl, inr, get_or}
use Rattle.std.proofs.Common.{refl, sym, subst, ap, ◌∙◌, arith}
use Rattle.std.specs.Prelude.{All, None, Some, ℤ, pos, ◌+ℤ◌, ◌≤ℤ◌, slice_index, ⊤}
use Rattle.std.proofs.lemmas.Int.{ints}
use Rattle.std.proofs.lemmas.Bool.{cases_lt}
use Rattle.std.proofs.lemmas.List.{get_or_past, take_min}
use Rattle.bn_machine.specs.Machine.{IsFinal, IsMachineStuck, MachineRunsTo, Moment, Program, moment, start}
use Rattle.bn_machine.specs.Run as free
use Rattle.bn_machine.specs.Run.{Ending, HasEnding, IsOutput}
use Rattle.bn_machine.specs.Steps.{AgreesUpTo}
use Rattle.bn_machine.specs.Tape.{Tape, cell, scanned}
use Rattle.bn_machine.specs.Window.{Windowed, anywhere, new_window, within}
use Rattle.bn_machine.proofs.MachineStepLemmas.{agrees_final, agrees_start, agrees_stuck, agrees_turned}
use Rattle.bn_machine.proofs.MachineStepLemmas.{agrees_step, final_not_going, goes_anywhere, stuck_not_going}
use Rattle.bn_machine.proofs.MachineStepLemmas.{word_beyond}
use Rattle.bn_machine.proofs.OutputLemmas.{output_exists}
use Rattle.bn_machine.specs.declared.machine.Turn.{Turn}
use Rattle.bn_machine.specs.declared.machine.Turn.TheVariants as turns
use Rattle.bn_machine.specs.declared.tape.TheConstants.Tape.{GREATEST_SIDE}
use Rattle.bn_reply_machines.specs.MachineRun.{IsRun, StaysInside}
use Rattle.bn_reply_machines.proofs.WholeRunLemmas.{Cuts, Starts, cuts, ran_inside, reached_from, seen}
use Rattle.bn_extents.specs.Extents.{HasExtent}
use Rattle.bn_extents.specs.Formula.{halted_limits, stuck_limits}
use Rattle.bn_extents.specs.LeastWindow.{IsLeastWindow}
use Rattle.bn_extents.proofs.ExtentLemmas.{extent_alike}
use Rattle.bn_extents.proofs.LeastLemmas.{halted_window, stuck_window}
use Rattle.bn_reply_windows.specs.WindowRun.{HasLetters, HasOutputLength, IsFound, IsMeasured, limits_of}
use Rattle.bn_reply_windows.specs.declared.extent.Extent.{Extent}
use Rattle.bn_reply_windows.specs.declared.window_run.LeastWindow.{LeastWindow}

-- as many letters as a tape can hold
abbrev most : ℕ
most = GREATEST_SIDE

-- ---- endings

is_end : Ending → Type 0
is_end (free.Halted y) = ⊤
is_end (free.Stuck state symbol) = ⊤
is_end free.Running = ⊥

pub halted_ends : (y : List ℕ) → free.Halted y ≢ free.Running
unfolding is_end
halted_ends y e = subst is_end e tt

pub stuck_ends : (state symbol : ℕ) → free.Stuck state symbol ≢ free.Running
unfolding is_end
stuck_ends state symbol e = subst is_end e tt

-- ---- letters

-- the letters of an output are as many as stand right of the head
output_counts : (t : Tape) (y : List ℕ) (k : ℕ) → IsOutput t y → HasLetters t k → length y ≡ k
output_counts t y k out h = by_order (cases_lt (length y) k) (cases_lt k (length y))
  where
    by_order : (length y < k) ⊎ (k ≤ length y) → (k < length y) ⊎ (length y ≤ k) → length y ≡ k
    by_order (inl low) b = absurd (h.letters (length y) low out.ended)
    by_order (inr a) (inl low) = absurd (out.letters k low (sym (out.spelled k low) ∙ h.ended))
    by_order (inr a) (inr b) = omega arith

-- the letters near the head, or with the rest of the word behind them, are those of the whole run
whole_letters : (p : Program) (word : List ℕ) (made : ℕ) (c : Moment) (v : Windowed) (k : ℕ)
    → ((j : ℕ) → j < length word → slice_index word j ≢ 0) → c.tape ≡ v.tape → (h : Cuts p word made c v)
    → HasOutputLength v (length word - min most (length word)) k → HasLetters h.whole.tape k
whole_letters p word made c v k letters same h out = by_end out.whole
  where
    head : h.whole.tape.head ≡ v.tape.head
    head = h.agrees.head ∙ ap (λ (t : Tape). t.head) same

    -- a cell up to the last that a tape can have
    near : (j : ℕ) → (v.tape.head +ℤ pos (suc j)) ≤ℤ pos most
        → cell h.whole.tape (h.whole.tape.head +ℤ pos (suc j)) ≡ cell v.tape (v.tape.head +ℤ pos (suc j))
    near j inside =
        ap (λ (q : ℤ). cell h.whole.tape (q +ℤ pos (suc j))) head
        ∙ h.agrees.cells (v.tape.head +ℤ pos (suc j)) inside
        ∙ ap (λ (t : Tape). cell t (v.tape.head +ℤ pos (suc j))) same

    -- a cell beyond it
    far : (j m : ℕ) → v.tape.head +ℤ pos out.near ≡ pos most → j ≡ out.near + m
        → cell h.whole.tape (h.whole.tape.head +ℤ pos (suc j)) ≡ get_or word (most + m) 0
    far j m reach e =
        let place : (v.tape.head +ℤ pos (suc j)) ≡ pos (suc (most + m)) = omega (arith, ints, reach, e) in
        let early : made ≤ most = h.early in
        let beyond : pos made ≤ℤ pos (suc (most + m)) = omega (arith, ints) in
        ap (λ (q : ℤ). cell h.whole.tape (q +ℤ pos (suc j))) head
        ∙ ap (cell h.whole.tape) place
        ∙ word_beyond anywhere p word made h.whole (pos (suc (most + m))) beyond h.run

    -- the letters up to the one before `near` end inside
    inside_near : (j : ℕ) → j < out.near → (v.tape.head +ℤ pos (suc j)) ≤ℤ pos most
    inside_near j low =
        let reach : (v.tape.head +ℤ pos out.near) ≤ℤ pos v.right = out.inside in
        let side : v.right ≤ most = h.right_side in
        omega (arith, ints)

    near_letter : (j : ℕ) → j < out.near → cell h.whole.tape (h.whole.tape.head +ℤ pos (suc j)) ≢ 0
    near_letter j low e = out.letters.letters j low (sym (near j (inside_near j low)) ∙ e)

    by_end : ((v.tape.head +ℤ pos out.near ≢ pos most) × (k ≡ out.near))
        ⊎ ((v.tape.head +ℤ pos out.near ≡ pos most) × (k ≡ out.near + (length word - min most (length word))))
        → HasLetters h.whole.tape k
    by_end (inl short) = subst (HasLetters h.whole.tape) (sym short.1) (record {
      letters = near_letter;
      ended =
          let reach : (v.tape.head +ℤ pos out.near) ≤ℤ pos v.right = out.inside in
          let side : v.right ≤ most = h.right_side in
          let apart : v.tape.head +ℤ pos out.near ≢ pos most = short.0 in
          let inside : (v.tape.head +ℤ pos (suc out.near)) ≤ℤ pos most =
          omega (arith, ints, reach, side, apart) in
          near out.near inside ∙ out.letters.ended;
    })
    by_end (inr long) = subst (HasLetters h.whole.tape) (sym long.1) (record {
      letters = λ j low. by_place j low (cases_lt j out.near);
      ended =
          let past : length word ≤ most + (length word - min most (length word)) = omega arith in
          far (out.near + (length word - min most (length word))) (length word - min most (length word)) long.0 refl
          ∙ get_or_past word (most + (length word - min most (length word))) 0 past;
    })
      where
        by_place : (j : ℕ) → j < out.near + (length word - min most (length word)) → (j < out.near) ⊎ (out.near ≤ j)
            → cell h.whole.tape (h.whole.tape.head +ℤ pos (suc j)) ≢ 0
        by_place j low (inl first) = near_letter j first
        by_place j low (inr later) = λ e.
            let sum : j ≡ out.near + (j - out.near) = omega arith in
            let inside : most + (j - out.near) < length word = omega arith in
            letters (most + (j - out.near)) inside (sym (far j (j - out.near) long.0 sum) ∙ e)

-- ---- the whole run

-- a measured run is a run
run_of : (p : Program) (n state : ℕ) (w : Windowed) (made : ℕ) (extent : Extent) (turn : Turn) (after : ℕ)
    (u : Windowed) → IsMeasured p n state w made extent turn after u → IsRun p n state w made turn after u
run_of p n state w made extent turn after u m = record {
  at = m.at;
  tape = m.tape;
  reached = m.reached;
  in_time = m.in_time;
  last = m.last;
  early = m.early;
}

module _ (p : Program) (word : List ℕ) (n held right state : ℕ) (w : Windowed) (s : Starts p word n held right state w)
    (made : ℕ) (extent : Extent) (turn : Turn) (after : ℕ) (u : Windowed)
    (m : IsMeasured p n state w made extent turn after u) where
  pub measured_inside : StaysInside turn
  measured_inside = ran_inside p word n held right state w made turn after u s
      (run_of p n state w made extent turn after u m)

  whole_cuts : Cuts p word made (moment m.at m.tape) m.tape
  whole_cuts = cuts p word n (n + 1) right made m.at m.tape s.few (omega arith)
      (let side = s.side in omega arith) (let side = s.side in let front = s.front in let few = s.few in omega arith)
      m.in_time (reached_from p word n held right state w made m.at m.tape s m.reached)

  begins : moment state w ≡ start p (take most word)
  begins =
      let tape : w ≡ new_window (n + 1) right (take most word) =
      s.tape_is ∙ ap (λ (xs : List ℕ). new_window (n + 1) right xs)
      (ap (λ (k : ℕ). take k word) s.front ∙ take_min most word) in
      λ i. moment (s.state_is i) (tape i)

  begins_alike : AgreesUpTo (pos most) (moment state w) (start p word)
  begins_alike = subst (λ (x : Moment). AgreesUpTo (pos most) x (start p word)) (sym begins)
      (agrees_turned (pos most) (start p word) (start p (take most word)) (agrees_start p word most))

  whole_extent : HasExtent p made (start p word) whole_cuts.whole extent.left extent.right
  whole_extent =
      let early : made ≤ most = whole_cuts.early in
      let at_start : w.tape.head ≡ pos 0 = ap (λ (x : Moment). x.tape.head) begins in
      let near : (w.tape.head +ℤ pos made) ≤ℤ pos most = omega (arith, ints) in
      extent_alike (pos most) p made (moment state w) (start p word) (moment m.at m.tape) whole_cuts.whole extent.left
      extent.right begins_alike near m.extends whole_cuts.run

  agrees : AgreesUpTo (pos most) (moment m.at m.tape) whole_cuts.whole
  agrees = agrees_turned (pos most) whole_cuts.whole (moment m.at m.tape) whole_cuts.agrees

-- ---- how it ends

module _ (p : Program) (word : List ℕ) (n held right state : ℕ) (w : Windowed) (s : Starts p word n held right state w)
    (letters : All (λ a. a ≢ 0) word) (made : ℕ) (extent : Extent) (after : ℕ) (u : Windowed) where
  pub found_halted : IsMeasured p n state w made extent turns.Final after u → (k : ℕ)
      → HasOutputLength u (length word - held) k → (window : LeastWindow)
      → limits_of window ≡ halted_limits (length word) extent.left extent.right made u.tape.head k
      → IsFound p word n (Some window)
  found_halted m k out window is = (
    record {
      steps = made;
      ending = free.Halted y.0;
      comes_out = record { moment = h.whole; run = h.run; in_time = m.in_time; ends = free.halts y.0 final y.1 refl };
      ended = halted_ends y.0;
    },
    subst (IsLeastWindow p word) (sym named) least,
  )
    where
      h : Cuts p word made (moment m.at m.tape) m.tape
      h = whole_cuts p word n held right state w s made extent turns.Final after u m

      final : IsFinal p h.whole
      final = agrees_final (pos most) p (moment m.at m.tape) h.whole
          (agrees p word n held right state w s made extent turns.Final after u m) m.last.0

      y : (z : List ℕ) × IsOutput h.whole.tape z
      y = output_exists h.whole.tape

      here : HasOutputLength m.tape (length word - min most (length word)) k
      here = subst (λ (x : Windowed). HasOutputLength x (length word - min most (length word)) k) m.last.2
          (subst (λ (i : ℕ). HasOutputLength u (length word - i) k) s.front out)

      count : length y.0 ≡ k
      count = output_counts h.whole.tape y.0 k y.1 (whole_letters p word made (moment m.at m.tape) m.tape k
          (λ j inside. letters j 0 inside) refl h here)

      head : h.whole.tape.head ≡ u.tape.head
      head = h.agrees.head ∙ ap (λ (x : Windowed). x.tape.head) (sym m.last.2)

      named : limits_of window ≡ halted_limits (length word) extent.left extent.right made h.whole.tape.head
          (length y.0)
      named = is ∙ (λ i. halted_limits (length word) extent.left extent.right made (sym head i) (sym count i))

      least : IsLeastWindow p word
          (halted_limits (length word) extent.left extent.right made h.whole.tape.head (length y.0))
      least = halted_window p word made extent.left extent.right h.whole
          (whole_extent p word n held right state w s made extent turns.Final after u m)
          (λ d step. final_not_going anywhere p h.whole d final step) final y.0 y.1

  pub found_stuck : (at symbol : ℕ) → IsMeasured p n state w made extent (turns.Stuck at symbol) after u
      → (window : LeastWindow) → limits_of window ≡ stuck_limits (length word) extent.left extent.right made
      → IsFound p word n (Some window)
  found_stuck at symbol m window is = (
    record {
      steps = made;
      ending = free.Stuck h.whole.state (scanned h.whole.tape);
      comes_out = record { moment = h.whole; run = h.run; in_time = m.in_time; ends = free.sticks stuck refl };
      ended = stuck_ends h.whole.state (scanned h.whole.tape);
    },
    subst (IsLeastWindow p word) (sym is) least,
  )
    where
      h : Cuts p word made (moment m.at m.tape) m.tape
      h = whole_cuts p word n held right state w s made extent (turns.Stuck at symbol) after u m

      stuck : IsMachineStuck p h.whole
      stuck = agrees_stuck (pos most) p (moment m.at m.tape) h.whole
          (agrees p word n held right state w s made extent (turns.Stuck at symbol) after u m)
          (seen p word made (moment m.at m.tape) m.tape h) m.last.0

      least : IsLeastWindow p word (stuck_limits (length word) extent.left extent.right made)
      least = stuck_window p word made extent.left extent.right h.whole
          (whole_extent p word n held right state w s made extent (turns.Stuck at symbol) after u m)
          (λ d step. stuck_not_going anywhere p h.whole d stuck step) stuck

  pub found_running : IsMeasured p n state w made extent turns.Moved after u → IsFound p word n None
  found_running m = by_count (cases_lt made n)
    where
      h : Cuts p word made (moment m.at m.tape) m.tape
      h = whole_cuts p word n held right state w s made extent turns.Moved after u m

      step : (d : Moment) × MachineRunsTo anywhere p h.whole d × AgreesUpTo (pos most) (moment after u) d
      step = agrees_step (pos most) p (moment m.at m.tape) h.whole (moment after u)
          (agrees p word n held right state w s made extent turns.Moved after u m)
          (seen p word made (moment m.at m.tape) m.tape h)
          (goes_anywhere (within m.tape.left m.tape.right) p (moment m.at m.tape) (moment after u) m.last.0)

      by_count : (made < n) ⊎ (n ≤ made) → HasEnding p word n n free.Running
      by_count (inl less) = absurd (m.early less refl)
      by_count (inr more) =
          let early : made ≤ n = m.in_time in
          let all : made ≡ n = omega arith in
          subst (λ (i : ℕ). HasEnding p word n i free.Running) all (record {
            moment = h.whole;
            run = h.run;
            in_time = early;
            ends = free.runs step.0 step.1 all refl;
          })
