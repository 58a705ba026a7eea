-- The second half in a window, from where the second machine has come: it compares, or it ends before.
use Rattle.std.specs.Prelude.{◌≡◌, ◌≢◌, ◌⊎◌, ℕ, zero, suc, ◌+◌, ◌*◌, ◌<◌, ◌≤◌, pos, ◌+ℤ◌, ◌-ℤ◌, ◌-◌, ◌≤ℤ◌, ◌<ℤ◌, List}
use Rattle.std.specs.Prelude.{◌∷◌, length}
use Rattle.std.proofs.Common.{refl, sym, subst, arith, ◌∙◌, inl, inr, get_or}
use Rattle.std.proofs.lemmas.Bool.{cases_lt}
use Rattle.std.proofs.lemmas.Bool.Decides.{eqb_tells}
use Rattle.std.proofs.lemmas.Int.{by_lt_z, ints}
use Rattle.std.proofs.lemmas.List.{get_or_past}
use Rattle.bn_lists.specs.Runs.{Reaches}
use Rattle.bn_lists.proofs.RunsLemmas.{runs_join}
use Rattle.bn_machine.specs.Machine.{IsFinal, IsMachineStuck, Moment, MachineRunsTo, Program, final_of}
use Rattle.bn_machine.specs.Outcome.{HasRoom, Limits}
use Rattle.bn_machine.specs.Run.{IsOutput}
use Rattle.bn_machine.specs.Tape.{ahead, scanned, word_tape}
use Rattle.bn_machine.proofs.TapeLemmas.{scanned-ahead, write-scanned}
use Rattle.bn_machine.specs.Window.{IsBetween, IsBeyond, anywhere}
use Rattle.bn_machine.specs.declared.quint.Side.{Side}
use Rattle.bn_machine.specs.declared.quint.Side.TheVariants.{Right}
use Rattle.bn_quad.specs.Quadruples.{AreAllowed, Configuration, Leads, turned_list}
use Rattle.bn_quad.specs.Quadruples as quads
use Rattle.bn_quad.proofs.ReversibleLemmas.{same_configuration}
use Rattle.bn_bennett_laws.specs.List.{bennett, ends_copy, goes_left, passes_letter, shifts_back}
use Rattle.bn_bennett_laws.specs.List.{writes_back}
use Rattle.bn_bennett_laws.proofs.ListLemmas.{has_ends_copy, has_goes_left, has_passes_letter, has_shifts_back}
use Rattle.bn_bennett_laws.proofs.ListLemmas.{has_writes_back}
use Rattle.bn_bennett_laws.specs.Stages.{IsSpelledBy, IsStandardMachine, copying, history, retracing}
use Rattle.bn_bennett_laws.specs.Stages.{retracing_within, rooms_of}
use Rattle.bn_bennett_laws.specs.Steps.{Leaving, Steps, Stopped}
use Rattle.bn_bennett_laws.proofs.Moves.{ends_leads, left_leads, retraces_leads, retraces_on_leads}
use Rattle.bn_bennett_laws.proofs.Runs.{follow_by}
use Rattle.bn_bennett_laws.proofs.Tapes.{scanned-word}
use Rattle.bn_bennett_laws.specs.declared.name.Name.{Name}
use Rattle.bn_bennett_laws.specs.declared.name.Name.TheVariants.{GoLeft, PassLetter}
use Rattle.bn_erase_laws.specs.Erasing.{IsWord, erasing, erasing_final}
use Rattle.bn_erase_laws.specs.declared.name.ErasingName.{ErasingName}
use Rattle.bn_erase_laws.proofs.ComparedLemmas.{differing_back, stuck_back}
use Rattle.bn_erase_laws.proofs.TurnedLemmas.{follows_turned}
use Rattle.bn_erase_laws.specs.EraseWindows.{second_window}
use Rattle.bn_erase_laws.proofs.WindowGoingLemmas.{EndsFrom, after_run, as_second, at_once, second_leaves, second_step}
use Rattle.bn_erase_laws.proofs.WindowGoingLemmas.{second_stops}

module _ (p q : Program) (left : IsStandardMachine p) (right : IsStandardMachine q) (l : Limits) (c : Moment)
    (ns x : List ℕ) (inside : IsBetween 0 l.output c.tape.head) (in_time : length ns ≤ l.steps) where
  abbrev Steps_in : Configuration ErasingName → Configuration ErasingName → Type 0
  Steps_in = Steps (rooms_of l) (erasing p q) (erasing_final q)

  abbrev S : Configuration Name → Configuration ErasingName
  S = as_second p q left right

  abbrev From : Configuration Name → ℕ → Type 0
  From a most = EndsFrom p q left right (rooms_of l) (S a) most

  -- the history's head is on its tape
  on_history : IsBetween 0 l.steps (pos 0 +ℤ pos (length ns))
  on_history = record { above = omega (arith, ints); below = omega (arith, ints) }

  -- ---- the steps of comparing

  left_follows : (k : ℕ) → scanned (history ns) ≡ length q.quints
      → quads.Follows (turned_list (bennett q)) (copying PassLetter c ns x k) (copying GoLeft c ns x (suc k))
  left_follows k last =
      follows_turned (bennett q) (copying GoLeft c ns x (suc k)) (copying PassLetter c ns x k)
      (follow_by q goes_left _ _ (has_goes_left q) (left_leads c ns (length q.quints) last x k))

  passes_both : (k a : ℕ) → scanned (history ns) ≡ length q.quints → scanned (ahead (suc k) c.tape) ≡ a
      → scanned (ahead (suc k) (word_tape x)) ≡ a
      → Leads (passes_letter (length q.quints) a) (copying PassLetter c ns x (suc k)) (copying GoLeft c ns x (suc k))
  passes_both k a last one three = record {
    applies = record { from = refl; one = one; two = last; three = three };
    gives = same_configuration _ _ refl (sym (write-scanned (ahead (suc k) c.tape) a one))
        (sym (write-scanned (history ns) (length q.quints) last))
        (sym (write-scanned (ahead (suc k) (word_tape x)) a three));
  }

  -- the cell j right of the halted head, and the cell j of tape 1, are in the window
  abbrev Room : ℕ → Type 0
  Room j = HasRoom (second_window l) c.tape.head j

  fits : (k : ℕ) → Room (suc k) → (state : Name) → AreAllowed (rooms_of l) (S (copying state c ns x (suc k)))
  fits k room state =
      let work : (c.tape.head +ℤ pos (suc k)) ≤ℤ pos l.output = room.work in
      let cells : suc k ≤ l.right = room.output in
      let low : (pos 0 -ℤ pos 0) ≤ℤ c.tape.head = inside.above in
      record {
        one = record { above = omega (arith, ints); below = omega (arith, ints) };
        two = on_history;
        three = record { above = omega (arith, ints); below = work };
      }

  module _ (last : scanned (history ns) ≡ length q.quints) (letters : IsSpelledBy q x) (word : IsWord x) where
    pub left_step : (k : ℕ) → Room (suc k)
        → Steps_in (S (copying PassLetter c ns x k)) (S (copying GoLeft c ns x (suc k)))
    left_step k room = second_step p q left right (rooms_of l) _ _ (λ e. cc) (left_follows k last) (fits k room GoLeft)

    pub pass_step : (k : ℕ) → k < length x → Room (suc k) → scanned (ahead (suc k) c.tape) ≡ get_or x k 0
        → Steps_in (S (copying GoLeft c ns x (suc k))) (S (copying PassLetter c ns x (suc k)))
    pass_step k low room reads =
        let some : get_or x k 0 ≢ 0 = word k 0 low in
        second_step p q left right (rooms_of l) _ _ (λ e. cc)
        (follows_turned (bennett q) (copying PassLetter c ns x (suc k)) (copying GoLeft c ns x (suc k))
        (follow_by q (passes_letter (length q.quints) (get_or x k 0)) _ _
        (has_passes_letter q (get_or x k 0) (omega arith) (letters k 0 low))
        (passes_both k (get_or x k 0) last reads (scanned-ahead x k))))
        (fits k room PassLetter)

    -- the first k letters agree, and have room
    pub record Agree (k : ℕ) : Type 0 where
      pub alike : (j : ℕ) → j < k → scanned (ahead (suc j) c.tape) ≡ get_or x j 0
      pub room : (j : ℕ) → 0 < j → j ≤ k → Room j

    -- x is what stands on the work tape, with room for all of it
    pub record IsSame : Type 0 where
      pub output : IsOutput c.tape x
      pub room : (j : ℕ) → 0 < j → j ≤ length x + 1 → Room j

    one_more : (k : ℕ) → Agree k → scanned (ahead (suc k) c.tape) ≡ get_or x k 0 → Room (suc k) → Agree (suc k)
    one_more k agree here room = record {
      alike = λ j low. elim (cases_lt j k) [
        | inl before ↦ agree.alike j before
        | inr behind ↦ let there : k ≡ j = omega arith in subst (λ i. scanned (ahead (suc i) c.tape) ≡ get_or x i 0)
            there here
      ];
      room = λ j some low. elim (cases_lt k j) [
        | inl behind ↦ let there : suc k ≡ j = omega arith in subst Room there room
        | inr before ↦ agree.room j some before
      ];
    }

    -- what comes of a comparison at k: the run ends after at most so many steps, or the words are the same
    abbrev Compared : ℕ → ℕ → Type 0
    Compared k most = From (copying PassLetter c ns x k) most ⊎ IsSame

    stopped_at : (k most : ℕ) → 0 < most → Room (suc k) → scanned (ahead (suc k) c.tape) ≢ get_or x k 0
        → From (copying PassLetter c ns x k) most
    stopped_at k most some room other =
        after_run p q left right (rooms_of l) 1 0 most (S (copying PassLetter c ns x k))
        (S (copying GoLeft c ns x (suc k))) (omega arith) (S (copying GoLeft c ns x (suc k)), left_step k room, refl)
        (at_once p q left right (rooms_of l) (S (copying GoLeft c ns x (suc k))) Stopped 0
        (second_stops p q left right (rooms_of l) (copying GoLeft c ns x (suc k)) (λ e. cc)
        (differing_back q c ns x k (λ e. other (e ∙ scanned-ahead x k)))))

    leaves_one : (k most : ℕ) → l.right < suc k → From (copying PassLetter c ns x k) most
    leaves_one k most past =
        let beyond : pos l.right <ℤ (pos 0 +ℤ pos (suc k)) = omega (arith, ints) in
        at_once p q left right (rooms_of l) (S (copying PassLetter c ns x k)) (Leaving 1 Right) most
        (second_leaves p q left right (rooms_of l) (copying PassLetter c ns x k) (copying GoLeft c ns x (suc k))
        (λ e. cc) (left_follows k last) 1 Right beyond)

    leaves_three : (k most : ℕ) → suc k ≤ l.right → pos l.output <ℤ (c.tape.head +ℤ pos (suc k))
        → From (copying PassLetter c ns x k) most
    leaves_three k most cell beyond =
        let on_one : IsBetween l.left l.right (pos 0 +ℤ pos (suc k)) = record {
          above = omega (arith, ints);
          below = omega (arith, ints);
        } in
        at_once p q left right (rooms_of l) (S (copying PassLetter c ns x k)) (Leaving 3 Right) most
        (second_leaves p q left right (rooms_of l) (copying PassLetter c ns x k) (copying GoLeft c ns x (suc k))
        (λ e. cc) (left_follows k last) 3 Right (on_one, on_history, beyond))

    at_cell : (k most : ℕ) → 0 < most
        → (Room (suc k) → scanned (ahead (suc k) c.tape) ≡ get_or x k 0 → Compared k most) → Compared k most
    at_cell k most some further =
        elim (cases_lt l.right (suc k)) [
          | inl past ↦ inl (leaves_one k most past)
          | inr cell ↦ by_lt_z (pos l.output) (c.tape.head +ℤ pos (suc k))
              (λ beyond. inl (leaves_three k most cell beyond))
              (λ within_it. elim (eqb_tells (scanned (ahead (suc k) c.tape)) (get_or x k 0)) [
                | inl equal ↦ further (record { work = within_it; output = cell }) equal.1
                | inr other ↦ inl (stopped_at k most some (record { work = within_it; output = cell }) other.1)
              ])
        ]

    -- from the k-th letter on, with so many left
    compare : (rest k most : ℕ) → k + rest ≡ length x → k ≤ l.right → 2 * k + most ≡ 2 * l.right + 2 → Agree k
        → Compared k most
    compare zero k most sum low bound agree =
        at_cell k most (omega arith) (λ room equal.
        let all : k ≡ length x = omega arith in
        let blank : scanned (ahead (suc k) c.tape) ≡ 0 = equal ∙ get_or_past x k 0 (omega arith) in
        let whole = one_more k agree equal room in
        inr (record {
          output = record {
            letters = λ j inside. word j 0 inside;
            spelled = λ j inside. agree.alike j (omega arith);
            ended = subst (λ i. scanned (ahead (suc i) c.tape) ≡ 0) all blank;
          };
          room = λ j some high. whole.room j some (omega arith);
        }))
    compare (suc rest) k most sum low bound agree =
        at_cell k most (omega arith) (λ room equal.
        let cell : suc k ≤ l.right = room.output in
        let less : 2 * suc k + (most - 2) ≡ 2 * l.right + 2 = omega arith in
        elim (compare rest (suc k) (most - 2) (omega arith) cell less (one_more k agree equal room)) [
          | inl ends ↦ inl (after_run p q left right (rooms_of l) 2 (most - 2) most _ _ (omega arith) (
            S (copying GoLeft c ns x (suc k)),
            left_step k room,
            (S (copying PassLetter c ns x (suc k)), pass_step k (omega arith) room equal, refl),
          ) ends)
          | inr same ↦ inr same
        ])

    -- from the halted machine on
    pub begins_comparing : IsFinal q c → scanned c.tape ≡ 0
        → Steps_in (S (retracing c ns (word_tape x))) (S (copying PassLetter c ns x 0))
    begins_comparing final blank =
        second_step p q left right (rooms_of l) (retracing c ns (word_tape x)) (copying PassLetter c ns x 0) (λ e. cc)
        (follows_turned (bennett q) (copying PassLetter c ns x 0) (retracing c ns (word_tape x))
        (follow_by q (ends_copy (final_of q.quints) (length q.quints)) _ _ (has_ends_copy q)
        (ends_leads c ns (length q.quints) last (final_of q.quints) x final blank)))
        at_start
      where
        at_start : AreAllowed (rooms_of l) (S (copying PassLetter c ns x 0))
        at_start =
            let low : (pos 0 -ℤ pos 0) ≤ℤ c.tape.head = inside.above in
            let high : c.tape.head ≤ℤ pos l.output = inside.below in
            record {
              one = record { above = omega (arith, ints); below = omega (arith, ints) };
              two = on_history;
              three = record { above = omega (arith, ints); below = omega (arith, ints) };
            }

    pub compare_halted : IsFinal q c → scanned c.tape ≡ 0
        → From (retracing c ns (word_tape x)) (2 * l.right + 3) ⊎ IsSame
    compare_halted final blank =
        elim (compare (length x) 0 (2 * l.right + 2) (omega arith) (omega arith) (omega arith)
        (record { alike = λ j low. absurd (omega arith); room = λ j some low. absurd (omega arith) })) [
          | inl ends ↦ inl (after_run p q left right (rooms_of l) 1 (2 * l.right + 2) (2 * l.right + 3) _ _
              (omega arith) (S (copying PassLetter c ns x 0), begins_comparing final blank, refl) ends)
          | inr same ↦ inr same
        ]

    -- past the first k letters, which agree and have room, to the next
    pub passes_agreeing : (k : ℕ) → k ≤ length x
        → ((j : ℕ) → j < k → scanned (ahead (suc j) c.tape) ≡ get_or x j 0)
        → ((j : ℕ) → 0 < j → j ≤ k + 1 → Room j)
        → Reaches Steps_in (2 * k + 1) (S (copying PassLetter c ns x 0)) (S (copying GoLeft c ns x (suc k)))
    passes_agreeing zero low agree room =
        (S (copying GoLeft c ns x 1), left_step 0 (room 1 (omega arith) (omega arith)), refl)
    passes_agreeing (suc k) low agree room =
        let count : 2 * suc k + 1 ≡ (2 * k + 1) + 2 = omega arith in
        let before = passes_agreeing k (omega arith) (λ j less. agree j (omega arith))
        (λ j some less. room j some (omega arith)) in
        runs_join Steps_in (2 * suc k + 1) (2 * k + 1) 2 _ _ _ count before (
          S (copying PassLetter c ns x (suc k)),
          pass_step k (omega arith) (room (suc k) (omega arith) (omega arith)) (agree k (omega arith)),
          (
            S (copying GoLeft c ns x (suc (suc k))),
            left_step (suc k) (room (suc (suc k)) (omega arith) (omega arith)),
            refl,
          ),
        )

  -- ---- where the second machine is stuck, or has no room

  pub stuck_there : IsMachineStuck q c → From (retracing c ns (word_tape x)) 0
  stuck_there stuck =
      at_once p q left right (rooms_of l) (S (retracing c ns (word_tape x))) Stopped 0
      (second_stops p q left right (rooms_of l) (retracing c ns (word_tape x))
      (λ e. cc) (stuck_back q c ns (word_tape x) stuck))

  module _ (d : Moment) (goes : MachineRunsTo anywhere q c d) where
    first_follows : quads.Follows (turned_list (bennett q)) (retracing c ns (word_tape x))
        (retracing_within c ns goes.0 goes.1.quint (word_tape x))
    first_follows =
        let by = goes.1 in
        follows_turned (bennett q) (retracing_within c ns goes.0 by.quint (word_tape x)) (retracing c ns (word_tape x))
        (follow_by q (writes_back goes.0 by.quint) _ _ (has_writes_back q goes.0 by.quint by.match.stands)
        (retraces_on_leads goes.0 by.quint c ns (word_tape x) by.match.holds.from by.match.holds.reads
        (scanned-word x)))

    second_follows_on : quads.Follows (turned_list (bennett q))
        (retracing_within c ns goes.0 goes.1.quint (word_tape x)) (retracing d (goes.0 ∷ ns) (word_tape x))
    second_follows_on =
        let by = goes.1 in
        follows_turned (bennett q) (retracing d (goes.0 ∷ ns) (word_tape x))
        (retracing_within c ns goes.0 by.quint (word_tape x))
        (follow_by q (shifts_back goes.0 by.quint) _ _ (has_shifts_back q goes.0 by.quint by.match.stands)
        (retraces_leads goes.0 by.quint c d ns (word_tape x) by.applies.writes by.applies.to))

    at_zero : IsBetween l.left l.right (pos 0)
    at_zero = record { above = omega (arith, ints); below = omega (arith, ints) }

    -- the history is full
    pub full_there : length ns ≡ l.steps → From (retracing c ns (word_tape x)) 0
    full_there full =
        let beyond : pos l.steps <ℤ ((pos 0 +ℤ pos (length ns)) +ℤ pos 1) = omega (arith, ints) in
        at_once p q left right (rooms_of l) (S (retracing c ns (word_tape x))) (Leaving 2 Right) 0
        (second_leaves p q left right (rooms_of l) (retracing c ns (word_tape x))
        (retracing_within c ns goes.0 goes.1.quint (word_tape x)) (λ e. cc) first_follows 2 Right (at_zero, beyond))

    -- the next shift leaves the work tape
    pub leaves_there : length ns < l.steps → (side : Side) → IsBeyond 0 l.output side d.tape.head
        → From (retracing c ns (word_tape x)) 1
    leaves_there early side beyond =
        let next : IsBetween 0 l.steps ((pos 0 +ℤ pos (length ns)) +ℤ pos 1) = record {
          above = omega (arith, ints);
          below = omega (arith, ints);
        } in
        let there : IsBetween 0 l.steps (pos 0 +ℤ pos (suc (length ns))) = record {
          above = omega (arith, ints);
          below = omega (arith, ints);
        } in
        let begun : Steps_in (S (retracing c ns (word_tape x)))
        (S (retracing_within c ns goes.0 goes.1.quint (word_tape x))) =
        second_step p q left right (rooms_of l) (retracing c ns (word_tape x))
        (retracing_within c ns goes.0 goes.1.quint (word_tape x)) (λ e. cc) first_follows
        (record { one = at_zero; two = next; three = inside }) in
        after_run p q left right (rooms_of l) 1 0 1 _ _ (omega arith)
        (S (retracing_within c ns goes.0 goes.1.quint (word_tape x)), begun, refl)
        (at_once p q left right (rooms_of l) (S (retracing_within c ns goes.0 goes.1.quint (word_tape x)))
        (Leaving 3 side) 0
        (second_leaves p q left right (rooms_of l) (retracing_within c ns goes.0 goes.1.quint (word_tape x))
        (retracing d (goes.0 ∷ ns) (word_tape x)) (λ e. cc) second_follows_on 3 side (at_zero, there, beyond)))
