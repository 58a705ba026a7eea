-- From a run on the front of a word, on a tape in a window, to the run of the whole word on a tape without ends.
use Rattle.std.proofs.Common.{◌≡◌, ◌≢◌, ℕ, ◌+◌, ◌<◌, ◌≤◌, ◌++◌, List, length, take, drop, min, max, ◌-◌, ◌⊎◌, inl, inr}
use Rattle.std.proofs.Common.{refl, sym, subst, ap, ◌∙◌, arith, suc}
use Rattle.std.specs.Prelude.{ℤ, pos, ◌+ℤ◌, ◌≤ℤ◌, All, slice_index}
use Rattle.std.proofs.lemmas.Int.{ints}
use Rattle.std.proofs.lemmas.Bool.{cases_lt}
use Rattle.std.proofs.lemmas.List.{take_min, drop_min, length-drop}
use Rattle.std.proofs.Math.Seq.{take-length}
use Rattle.bn_machine.specs.Tape.{Tape, scanned}
use Rattle.bn_machine.specs.Machine.{Program, Moment, moment, start_of, IsFinal}
use Rattle.bn_machine.specs.MachineCalls.{IsTurn}
use Rattle.bn_machine.specs.Run.{After, HasEnding, IsOutput}
use Rattle.bn_machine.specs.Run as free
use Rattle.bn_machine.specs.Window.{Windowed, IsBetween, within, anywhere, new_window}
use Rattle.bn_machine.specs.Steps.{AgreesUpTo}
use Rattle.bn_machine.proofs.MachineStepLemmas.{agrees_turned, agrees_final, agrees_stuck, agrees_step, agrees_scanned}
use Rattle.bn_machine.proofs.MachineStepLemmas.{cut_run, goes_anywhere, head_after, run_anywhere}
use Rattle.bn_machine.proofs.CutLemmas.{near_not_leaving, output_before, output_beyond}
use Rattle.bn_machine.specs.declared.machine.Turn.{Turn}
use Rattle.bn_machine.specs.declared.machine.Turn.TheVariants as turns
use Rattle.bn_reply_machines.specs.MachineRun.{Reached, IsRun, IsWholeOutput, IsEndingOf, StaysInside, ending_of}
use Rattle.bn_reply_machines.specs.declared.machine_run.Ending.{Ending}
use Rattle.bn_reply_machines.specs.declared.machine_run.Ending.TheVariants.{Halted, Stuck, Running}
use Rattle.bn_machine.specs.declared.tape.TheConstants.Tape.{GREATEST_SIDE}
use Rattle.bn_base.specs.declared.limits.TheConstants.{MOST_COUNT}

-- as many letters as a tape can hold
abbrev most : ℕ
most = GREATEST_SIDE

-- A run of made steps, n at most, on the front of a word in a window that is wider than n on both sides, and the moment
-- at which the run of the whole word then is.
pub record Cuts (p : Program) (word : List ℕ) (made : ℕ) (c : Moment) (v : Windowed) : Type 0 where
  pub whole : Moment
  pub run : After p word made whole
  pub agrees : AgreesUpTo (pos most) whole c
  pub near : IsBetween made made c.tape.head
  pub early : made ≤ most
  pub left_room : made < v.left
  pub right_room : made < v.right
  pub right_side : v.right ≤ most

pub cuts : (p : Program) (word : List ℕ) (n left right made at : ℕ) (v : Windowed) → n ≤ MOST_COUNT → n < left
    → n < right → right ≤ most → made ≤ n →
    Reached p made (start_of p.quints) (new_window left right (take (min most (length word)) word)) at v
    → Cuts p word made (moment at v) v
cuts p word n left right made at v few low high side early r =
    let front : After p (take (min most (length word)) word) made (moment at v) =
    run_anywhere (within left right) p made _ (moment at v) r.run in
    let front' : After p (take most word) made (moment at v) =
    subst (λ (xs : List ℕ). After p xs made (moment at v)) (take_min most word) front in
    let cut = cut_run p word most made (moment at v) (omega arith) front' in
    record {
      whole = cut.0;
      run = cut.1;
      agrees = cut.2;
      near = head_after anywhere p (take most word) made (moment at v) front';
      early = omega arith;
      left_room = let e : v.left ≡ left = ap (λ (x : Windowed). x.left) r.same in omega arith;
      right_room = let e : v.right ≡ right = ap (λ (x : Windowed). x.right) r.same in omega arith;
      right_side = let e : v.right ≡ right = ap (λ (x : Windowed). x.right) r.same in omega arith;
    }

-- the head hasn't come so far that it could see the rest of the word
pub seen : (p : Program) (word : List ℕ) (made : ℕ) (c : Moment) (v : Windowed) → Cuts p word made c v
    → c.tape.head ≤ℤ pos most
seen p word made c v h = let high = h.near.below in let early = h.early in omega (arith, ints)

-- the turn behind the run stays inside the window
pub turn_inside : (p : Program) (word : List ℕ) (n left right made at : ℕ) (v : Windowed) (turn : Turn) (after : ℕ)
    (u : Windowed) → n ≤ MOST_COUNT → n < left →
    n < right → right ≤ most → made ≤ n → Reached p made (start_of p.quints)
    (new_window left right (take (min most (length word)) word)) at v →
    IsTurn p turn at v after u → StaysInside turn
turn_inside p word n left right made at v turns.Final after u few low high side early r turn = tt
turn_inside p word n left right made at v (turns.Stuck s a) after u few low high side early r turn = tt
turn_inside p word n left right made at v turns.Moved after u few low high side early r turn = tt
turn_inside p word n left right made at v (turns.Left s) after u few low high side early r turn =
    let h = cuts p word n left right made at v few low high side early r in
    near_not_leaving p at v s made h.near h.left_room h.right_room turn.0

-- the output near the head, or with the rest of the word behind it, is the output of the whole run
whole_output : (p : Program) (word : List ℕ) (made : ℕ) (c : Moment) (v : Windowed) (y : List ℕ)
    → ((k : ℕ) → k < length word → slice_index word k ≢ 0) →
    c.tape ≡ v.tape → (h : Cuts p word made c v) → IsWholeOutput v (drop (min most (length word)) word) y
    → IsOutput h.whole.tape y
whole_output p word made c v y letters same h out = by_end out.whole
  where
    near : IsOutput c.tape out.near
    near = subst (λ (t : Tape). IsOutput t out.near) (sym same) out.output

    head : c.tape.head ≡ v.tape.head
    head = ap (λ (t : Tape). t.head) same

    by_end : ((v.tape.head +ℤ pos (length out.near) ≢ pos most) × (y ≡ out.near))
        ⊎ ((v.tape.head +ℤ pos (length out.near) ≡ pos most) × (y ≡ out.near ++ drop (min most (length word)) word))
        → IsOutput h.whole.tape y
    by_end (inl short) =
        let reach : (v.tape.head +ℤ pos (length out.near)) ≤ℤ pos v.right = out.inside in
        let side : v.right ≤ most = h.right_side in
        let apart : v.tape.head +ℤ pos (length out.near) ≢ pos most = short.0 in
        let inside : (c.tape.head +ℤ pos (suc (length out.near))) ≤ℤ pos most =
        omega (arith, ints, head, reach, side, apart) in
        subst (IsOutput h.whole.tape) (sym short.1) (output_before most c h.whole out.near h.agrees inside near)
    by_end (inr long) =
        let reach : (c.tape.head +ℤ pos (length out.near)) ≡ pos most =
        ap (λ (q : ℤ). q +ℤ pos (length out.near)) head ∙ long.0 in
        let rest : out.near ++ drop (min most (length word)) word ≡ out.near ++ drop most word =
        ap (λ (r : List ℕ). out.near ++ r) (drop_min most word) in
        subst (IsOutput h.whole.tape) (sym (long.1 ∙ rest)) (output_beyond p word most made c h.whole out.near h.early
        letters h.run h.agrees reach near)

-- how the run of the whole word comes out
pub whole_ending : (p : Program) (word : List ℕ) (n left right made at : ℕ) (v : Windowed) (turn : Turn) (after : ℕ)
    (u : Windowed) (e : Ending) → n ≤ MOST_COUNT →
    n < left → n < right → right ≤ most → All (λ s. s ≢ 0) word → made ≤ n → (made < n → turn ≢ turns.Moved) →
    Reached p made (start_of p.quints) (new_window left right (take (min most (length word)) word)) at v
    → IsTurn p turn at v after u →
    IsEndingOf turn u (drop (min most (length word)) word) e → HasEnding p word n made (ending_of e)
whole_ending p word n left right made at v turns.Final after u (Halted output) few low high side letters early stopped r
    turn out =
    let h = cuts p word n left right made at v few low high side early r in
    let final : IsFinal p h.whole = agrees_final (pos most) p (moment at v) h.whole
    (agrees_turned (pos most) h.whole (moment at v) h.agrees) turn.0 in
    let here : IsWholeOutput v (drop (min most (length word)) word) output.items = subst
    (λ (x : Windowed). IsWholeOutput x (drop (min most (length word)) word) output.items) turn.2 out in
    record {
      moment = h.whole;
      run = h.run;
      in_time = early;
      ends = free.halts output.items final (whole_output p word made (moment at v) v output.items
          (λ k inside. letters k 0 inside) refl h here) refl;
    }
whole_ending p word n left right made at v (turns.Stuck state symbol) after u (Stuck s a) few low high side letters
    early stopped r turn out =
    let h = cuts p word n left right made at v few low high side early r in
    let turned = agrees_turned (pos most) h.whole (moment at v) h.agrees in
    let stuck = agrees_stuck (pos most) p (moment at v) h.whole turned (seen p word made (moment at v) v h) turn.0 in
    let states : s ≡ h.whole.state = out.0 ∙ turn.1 ∙ sym h.agrees.state in
    let scans : scanned v.tape ≡ scanned h.whole.tape = agrees_scanned (pos most) (moment at v) h.whole turned
    (seen p word made (moment at v) v h) in
    let symbols : a ≡ scanned h.whole.tape = out.1 ∙ turn.2 ∙ scans in
    record {
      moment = h.whole;
      run = h.run;
      in_time = early;
      ends = free.sticks stuck (λ i. free.Stuck (states i) (symbols i));
    }
whole_ending p word n left right made at v turns.Moved after u Running few low high side letters early stopped r turn
    out =
    let h = cuts p word n left right made at v few low high side early r in
    let turned = agrees_turned (pos most) h.whole (moment at v) h.agrees in
    let goes = goes_anywhere (within v.left v.right) p (moment at v) (moment after u) turn.0 in
    let step = agrees_step (pos most) p (moment at v) h.whole (moment after u) turned
    (seen p word made (moment at v) v h) goes in
    let all : made ≡ n = by_count (cases_lt made n) in
    record {
      moment = h.whole;
      run = h.run;
      in_time = early;
      ends = free.runs step.0 step.1 all refl;
    }
  where
    by_count : (made < n) ⊎ (n ≤ made) → made ≡ n
    by_count (inl less) = absurd (stopped less refl)
    by_count (inr more) = omega arith
whole_ending p word n left right made at v turn after u e few low high side letters early stopped r turn_is out =
    absurd out

-- The program's run: the tape is made from the front of the word, with more cells on both sides than there are steps.
pub record Starts (p : Program) (word : List ℕ) (n held right state : ℕ) (w : Windowed) : Type 0 where
  pub few : n ≤ MOST_COUNT
  pub front : held ≡ min most (length word)
  pub side : right ≡ max held (n + 1)
  pub state_is : state ≡ start_of p.quints
  pub tape_is : w ≡ new_window (n + 1) right (take held word)

pub reached_from : (p : Program) (word : List ℕ) (n held right state : ℕ) (w : Windowed) (made at : ℕ) (v : Windowed)
    → Starts p word n held right state w →
    Reached p made state w at v → Reached p made (start_of p.quints)
    (new_window (n + 1) right (take (min most (length word)) word)) at v
reached_from p word n held right state w made at v s r =
    let tape : w ≡ new_window (n + 1) right (take (min most (length word)) word) =
    s.tape_is ∙ ap (λ (k : ℕ). new_window (n + 1) right (take k word)) s.front in
    subst (λ (x : Windowed). Reached p made (start_of p.quints) x at v) tape
    (subst (λ (k : ℕ). Reached p made k w at v) s.state_is r)

pub ran_inside : (p : Program) (word : List ℕ) (n held right state : ℕ) (w : Windowed) (made : ℕ) (turn : Turn)
    (after : ℕ) (u : Windowed) →
    Starts p word n held right state w → IsRun p n state w made turn after u → StaysInside turn
ran_inside p word n held right state w made turn after u s r =
    turn_inside p word n (n + 1) right made r.at r.tape turn after u s.few (omega arith) (omega arith) (omega arith)
    r.in_time
    (reached_from p word n held right state w made r.at r.tape s r.reached) r.last

-- the slice behind the front is the rest of the word
rest_of : (word : List ℕ) (held : ℕ) → take (length word - held) (drop held word) ≡ drop held word
rest_of word held = ap (λ (k : ℕ). take k (drop held word)) (sym (length-drop held word)) ∙ take-length (drop held word)

pub ran_whole : (p : Program) (word : List ℕ) (n held right state : ℕ) (w : Windowed) (made : ℕ) (turn : Turn)
    (after : ℕ) (u : Windowed) (e : Ending) →
    Starts p word n held right state w → All (λ s. s ≢ 0) word → IsRun p n state w made turn after u →
    IsEndingOf turn u (take (length word - held) (drop held word)) e → HasEnding p word n made (ending_of e)
ran_whole p word n held right state w made turn after u e s letters r out =
    whole_ending p word n (n + 1) right made r.at r.tape turn after u e s.few (omega arith) (omega arith) (omega arith)
    letters r.in_time r.early
    (reached_from p word n held right state w made r.at r.tape s r.reached) r.last
    (subst (λ (rest : List ℕ). IsEndingOf turn u rest e) (rest_of word held ∙ ap (λ (k : ℕ). drop k word) s.front) out)
