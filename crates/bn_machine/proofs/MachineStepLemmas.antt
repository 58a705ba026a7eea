-- Lemmas on steps and runs of machines, for the layers above.
use Rattle.std.specs.Prelude.{◌≡◌, ◌≢◌, ℕ, zero, suc, ◌<◌, ◌≤◌, ℤ, pos, negsuc, ◌+ℤ◌, ◌-ℤ◌, ◌≤ℤ◌, List, [], ◌∷◌, ◌++◌}
use Rattle.std.specs.Prelude.{length, ◌⊎◌, take}
use Rattle.std.proofs.Common.{refl, sym, subst, ◌∙◌, ap, arith, inl, inr, add-one, length-append, cond}
use Rattle.std.specs.Ordering.{int_eq}
use Rattle.std.proofs.lemmas.List.{get_or-take}
use Rattle.std.proofs.lemmas.Int.{ints}
use Rattle.std.proofs.lemmas.Bool.Decides.{eqb_tells}
use Rattle.bn_lists.specs.Runs.{Reaches, IsFunction}
use Rattle.bn_lists.proofs.RunsLemmas.{runs_more}
use Rattle.bn_machine.specs.Tape.{Tape, cell, scanned, write, shift, moved, letter_at}
use Rattle.bn_machine.proofs.TapeLemmas.{cell-word, cell-write, cell-write_beside}
use Rattle.bn_machine.specs.Window.{Room, anywhere, within, Allows, IsBetween}
use Rattle.bn_machine.specs.Machine.{Program, Moment, Matches, Applies, IsFirstMatch, HasNoMatch, GoesBy, MachineRunsTo}
use Rattle.bn_machine.specs.Machine.{IsFinal, IsMachineStuck, start, final_of}
use Rattle.bn_lists.proofs.ListLemmas.{first_once, first_or_none}
use Rattle.bn_machine.specs.Run.{After, AfterWithin, Follows}
use Rattle.bn_machine.specs.declared.quint.Shift.{Shift}
use Rattle.bn_machine.specs.declared.quint.Shift.TheVariants.{Left, Stay, Right}
use Rattle.bn_machine.specs.declared.quint.Quint.{Quint}
use Rattle.bn_machine.specs.Steps.{AgreesUpTo}

pub same_moment : (c d : Moment) → c.state ≡ d.state → c.tape ≡ d.tape → c ≡ d
same_moment c d states tapes = λ i. record { state = states i; tape = tapes i }

-- the first that matches is one
pub first_match_once : (qs : List Quint) (s a n m : ℕ) (q r : Quint) → IsFirstMatch qs s a n q → IsFirstMatch qs s a m r
    → (n ≡ m) × (q ≡ r)
first_match_once qs s a n m q r f g = first_once (λ t. Matches t s a) qs n m q r f g

decided : (a b : ℕ) → (a ≡ b) ⊎ (a ≢ b)
decided a b = elim (eqb_tells a b) [ inl h ↦ inl h.1 | inr h ↦ inr h.1 ]

-- whether a quintuple has this state and reads this symbol
matches_or_not : (q : Quint) (s a : ℕ) → Matches q s a ⊎ (Matches q s a → ⊥)
matches_or_not q s a =
    elim (decided s q.state) [
      | inl from ↦ elim (decided a q.read) [
        | inl reads ↦ inl (record { from = from; reads = reads })
        | inr other ↦ inr (λ m. other m.reads)
      ]
      | inr other ↦ inr (λ m. other m.from)
    ]

-- some quintuple is the first that matches, or none matches
pub first_match_or_none : (qs : List Quint) (s a : ℕ) → ((n : ℕ) × (q : Quint) × IsFirstMatch qs s a n q)
    ⊎ HasNoMatch qs s a
first_match_or_none qs s a = first_or_none (λ q. Matches q s a) (λ q. matches_or_not q s a) qs

-- the moment that a quintuple leads to
abbrev pub moment_after : Quint → Moment → Moment
moment_after q c = record { state = q.next; tape = shift (write c.tape q.write) q.shift }

pub applies_once : (q : Quint) (c d : Moment) → Applies q c d → d ≡ moment_after q c
applies_once q c d a = same_moment d (moment_after q c) a.to a.writes

-- a step has one quintuple and one end, in every room
pub goes_by_once : (room other : Room) (p : Program) (n m : ℕ) (c d e : Moment) → GoesBy room p n c d
    → GoesBy other p m c e → (n ≡ m) × (d ≡ e)
goes_by_once room other p n m c d e f g =
    let same = first_match_once p.quints c.state (scanned c.tape) n m f.quint g.quint f.match g.match in (
      same.0,
      applies_once f.quint c d f.applies ∙ ap (λ q. moment_after q c) same.1 ∙ sym (applies_once g.quint c e g.applies),
    )

pub goes_once : (room other : Room) (p : Program) (c d e : Moment) → MachineRunsTo room p c d
    → MachineRunsTo other p c e → d ≡ e
goes_once room other p c d e f g = (goes_by_once room other p f.0 g.0 c d e f.1 g.1).1

pub steps_are_functions : (room : Room) (p : Program) → IsFunction (MachineRunsTo room p)
steps_are_functions room p = λ c d e f g. goes_once room room p c d e f g

-- a step in a room is a step without ends, and the other way round where its head stays in the room
pub goes_anywhere : (room : Room) (p : Program) (c d : Moment) → MachineRunsTo room p c d → MachineRunsTo anywhere p c d
goes_anywhere room p c d f = (
  f.0,
  record {
    going = f.1.going;
    quint = f.1.quint;
    match = f.1.match;
    applies = f.1.applies;
    stays = tt;
  },
)

pub goes_inside : (room : Room) (p : Program) (c d : Moment) → Allows room d.tape.head → MachineRunsTo anywhere p c d
    → MachineRunsTo room p c d
goes_inside room p c d stays f = (
  f.0,
  record {
    going = f.1.going;
    quint = f.1.quint;
    match = f.1.match;
    applies = f.1.applies;
    stays = stays;
  },
)

-- a moment is final, or stuck, or a step leads on, and only one of the three holds
pub final_stuck_or_goes : (p : Program) (c : Moment) → IsFinal p c
    ⊎ (IsMachineStuck p c ⊎ ((d : Moment) × MachineRunsTo anywhere p c d))
final_stuck_or_goes p c =
    elim (decided c.state (final_of p.quints)) [
      | inl final ↦ inl final
      | inr going ↦ elim (first_match_or_none p.quints c.state (scanned c.tape)) [
        | inl found ↦ inr (inr (
          moment_after found.1 c,
          (
            found.0,
            record {
              going = going;
              quint = found.1;
              match = found.2;
              applies = record { from = found.2.holds.from; reads = found.2.holds.reads; writes = refl; to = refl };
              stays = tt;
            },
          ),
        ))
        | inr none ↦ inr (inl (record { going = going; none = none }))
      ]
    ]

pub final_not_stuck : (p : Program) (c : Moment) → IsFinal p c → IsMachineStuck p c → ⊥
final_not_stuck p c final stuck = stuck.going final

pub final_not_going : (room : Room) (p : Program) (c d : Moment) → IsFinal p c → MachineRunsTo room p c d → ⊥
final_not_going room p c d final goes = goes.1.going final

pub stuck_not_going : (room : Room) (p : Program) (c d : Moment) → IsMachineStuck p c → MachineRunsTo room p c d → ⊥
stuck_not_going room p c d stuck goes = stuck.none.none goes.0 goes.1.quint goes.1.match.stands goes.1.match.holds

moved_near : (p : ℤ) (s : Shift) → ((p -ℤ pos 1) ≤ℤ moved p s) × (moved p s ≤ℤ (p +ℤ pos 1))
moved_near p Left = (omega (arith, ints), omega (arith, ints))
moved_near p Stay = (omega (arith, ints), omega (arith, ints))
moved_near p Right = (omega (arith, ints), omega (arith, ints))

-- a step moves the head by one cell at most
pub head_near : (room : Room) (p : Program) (c d : Moment) → MachineRunsTo room p c d
    → ((c.tape.head -ℤ pos 1) ≤ℤ d.tape.head) × (d.tape.head ≤ℤ (c.tape.head +ℤ pos 1))
head_near room p c d f =
    let at : d.tape.head ≡ moved c.tape.head f.1.quint.shift = ap (λ (t : Tape). t.head) f.1.applies.writes in
    let near = moved_near c.tape.head f.1.quint.shift in
    (subst (λ h. (c.tape.head -ℤ pos 1) ≤ℤ h) (sym at) near.0, subst (λ h. h ≤ℤ (c.tape.head +ℤ pos 1)) (sym at) near.1)

-- and i steps by i cells
pub head_within : (room : Room) (p : Program) (i : ℕ) (c d : Moment) → Reaches (MachineRunsTo room p) i c d
    → ((c.tape.head -ℤ pos i) ≤ℤ d.tape.head) × (d.tape.head ≤ℤ (c.tape.head +ℤ pos i))
head_within room p zero c d run =
    let same : d.tape.head ≡ c.tape.head = ap (λ (m : Moment). m.tape.head) (sym run) in
    (omega (arith, ints), omega (arith, ints))
head_within room p (suc i) c d run =
    let near = head_near room p c run.0 run.1 in
    let rest = head_within room p i run.0 d run.2 in
    let low : (c.tape.head -ℤ pos 1) ≤ℤ run.0.tape.head = near.0 in
    let high : run.0.tape.head ≤ℤ (c.tape.head +ℤ pos 1) = near.1 in
    let low_rest : (run.0.tape.head -ℤ pos i) ≤ℤ d.tape.head = rest.0 in
    let high_rest : d.tape.head ≤ℤ (run.0.tape.head +ℤ pos i) = rest.1 in
    (omega (arith, ints), omega (arith, ints))

-- after i steps the head is from -i to i
pub head_after : (room : Room) (p : Program) (word : List ℕ) (i : ℕ) (c : Moment) → AfterWithin room p word i c
    → IsBetween i i c.tape.head
head_after room p word i c run =
    let near = head_within room p i (start p word) c run in
    record { above = near.0; below = let high : c.tape.head ≤ℤ (pos 0 +ℤ pos i) = near.1 in omega (arith, ints) }

-- a run of i steps stays in every room that reaches from -i to i
pub run_inside : (left right : ℕ) (p : Program) (i : ℕ) (c d : Moment) → (pos 0 -ℤ pos left) ≤ℤ (c.tape.head -ℤ pos i)
    → (c.tape.head +ℤ pos i) ≤ℤ pos right → Reaches (MachineRunsTo anywhere p) i c d
    → Reaches (MachineRunsTo (within left right) p) i c d
run_inside left right p zero c d low high run = run
run_inside left right p (suc i) c d low high run =
    let near = head_near anywhere p c run.0 run.1 in
    let down : (c.tape.head -ℤ pos 1) ≤ℤ run.0.tape.head = near.0 in
    let up : run.0.tape.head ≤ℤ (c.tape.head +ℤ pos 1) = near.1 in
    let stays : IsBetween left right run.0.tape.head = record {
      above = omega (arith, ints);
      below = omega (arith, ints);
    } in (
      run.0,
      goes_inside (within left right) p c run.0 stays run.1,
      run_inside left right p i run.0 d (omega (arith, ints)) (omega (arith, ints)) run.2,
    )

pub run_anywhere : (room : Room) (p : Program) (i : ℕ) (c d : Moment) → Reaches (MachineRunsTo room p) i c d
    → Reaches (MachineRunsTo anywhere p) i c d
run_anywhere room p zero c d run = run
run_anywhere room p (suc i) c d run = (run.0, goes_anywhere room p c run.0 run.1, run_anywhere room p i run.0 d run.2)

follows_first : (room : Room) (p : Program) (k : ℕ) (ns : List ℕ) (c m d : Moment) → GoesBy room p k c m
    → Follows room p ns m d → Follows room p (ns ++ k ∷ []) c d
follows_first room p k [] c m d first run = (c, refl, subst (λ e. GoesBy room p k c e) run first)
follows_first room p k (n ∷ ns) c m d first run = (run.0, follows_first room p k ns c m run.0 first run.1, run.2)

-- a run of i steps has a history of i numbers, and the other way round
pub run_follows : (room : Room) (p : Program) (i : ℕ) (c d : Moment) → Reaches (MachineRunsTo room p) i c d
    → (ns : List ℕ) × (length ns ≡ i) × Follows room p ns c d
run_follows room p zero c d run = ([], refl, run)
run_follows room p (suc i) c d run =
    let rest = run_follows room p i run.0 d run.2 in
    let count : length (rest.0 ++ run.1.0 ∷ []) ≡ suc i = simp length-append (omega (arith, rest.1)) in
    (rest.0 ++ run.1.0 ∷ [], count, follows_first room p run.1.0 rest.0 c run.0 d run.1.1 rest.2)

pub follows_run : (room : Room) (p : Program) (ns : List ℕ) (c d : Moment) → Follows room p ns c d
    → Reaches (MachineRunsTo room p) (length ns) c d
follows_run room p [] c d run = run
follows_run room p (n ∷ ns) c d run =
    let longer = runs_more (MachineRunsTo room p) (length ns) c run.0 d (follows_run room p ns c run.0 run.1) (n, run.2)
    in
    rw add-one at longer

pub agrees_turned : (b : ℤ) (c d : Moment) → AgreesUpTo b c d → AgreesUpTo b d c
agrees_turned b c d a = record { state = sym a.state; head = sym a.head; cells = λ q h. sym (a.cells q h) }

pub agrees_scanned : (b : ℤ) (c d : Moment) → AgreesUpTo b c d → c.tape.head ≤ℤ b → scanned c.tape ≡ scanned d.tape
agrees_scanned b c d a h = a.cells c.tape.head h ∙ ap (cell d.tape) a.head

pub agrees_final : (b : ℤ) (p : Program) (c d : Moment) → AgreesUpTo b c d → IsFinal p c → IsFinal p d
agrees_final b p c d a final = sym a.state ∙ final

pub agrees_stuck : (b : ℤ) (p : Program) (c d : Moment) → AgreesUpTo b c d → c.tape.head ≤ℤ b → IsMachineStuck p c
    → IsMachineStuck p d
agrees_stuck b p c d a h stuck = record {
  going = λ final. stuck.going (a.state ∙ final);
  none = subst (λ s. HasNoMatch p.quints s (scanned d.tape)) a.state
      (subst (HasNoMatch p.quints c.state) (agrees_scanned b c d a h) stuck.none);
}

agrees_after : (b : ℤ) (q : Quint) (c d : Moment) → AgreesUpTo b c d
    → AgreesUpTo b (moment_after q c) (moment_after q d)
agrees_after b q c d a = record {
  state = refl;
  head = ap (λ p. moved p q.shift) a.head;
  cells = λ p h.
      cell-write c.tape q.write p
      ∙ ap (cond (int_eq p c.tape.head) q.write) (a.cells p h)
      ∙ ap (λ w. cond (int_eq p w) q.write (cell d.tape p)) a.head
      ∙ sym (cell-write d.tape q.write p);
}

-- where two moments agree up to a position that the head hasn't passed, they step alike
pub agrees_step : (b : ℤ) (p : Program) (c d e : Moment) → AgreesUpTo b c d → c.tape.head ≤ℤ b
    → MachineRunsTo anywhere p c e → (f : Moment) × MachineRunsTo anywhere p d f × AgreesUpTo b e f
agrees_step b p c d e a h goes =
    let by = goes.1 in
    let match = subst (λ s. IsFirstMatch p.quints s (scanned d.tape) goes.0 by.quint) a.state
    (subst (λ x. IsFirstMatch p.quints c.state x goes.0 by.quint) (agrees_scanned b c d a h) by.match) in (
      moment_after by.quint d,
      (
        goes.0,
        record {
          going = λ final. by.going (a.state ∙ final);
          quint = by.quint;
          match = match;
          applies = record { from = match.holds.from; reads = match.holds.reads; writes = refl; to = refl };
          stays = tt;
        },
      ),
      subst (λ m. AgreesUpTo b m (moment_after by.quint d)) (sym (applies_once by.quint c e by.applies))
          (agrees_after b by.quint c d a),
    )

-- and so do runs that don't come beyond the position
pub agrees_run : (b : ℤ) (p : Program) (i : ℕ) (c d e : Moment) → AgreesUpTo b c d → (c.tape.head +ℤ pos i) ≤ℤ b
    → Reaches (MachineRunsTo anywhere p) i c e → (f : Moment) × Reaches (MachineRunsTo anywhere p) i d f
    × AgreesUpTo b e f
agrees_run b p zero c d e a h run = (d, refl, subst (λ m. AgreesUpTo b m d) run a)
agrees_run b p (suc i) c d e a h run =
    let near = head_near anywhere p c run.0 run.1 in
    let up : run.0.tape.head ≤ℤ (c.tape.head +ℤ pos 1) = near.1 in
    let inside : c.tape.head ≤ℤ b = omega (arith, ints) in
    let further : (run.0.tape.head +ℤ pos i) ≤ℤ b = omega (arith, ints) in
    let step = agrees_step b p c d run.0 a inside run.1 in
    let rest = agrees_run b p i run.0 step.0 e step.2 further run.2 in
    (rest.0, (step.0, step.1, rest.1), rest.2)

letters_kept : (word : List ℕ) (k : ℕ) (q : ℤ) → q ≤ℤ pos k → letter_at word q ≡ letter_at (take k word) q
letters_kept word k (pos zero) h = refl
letters_kept word k (pos (suc j)) h = let early : j < k = omega (arith, ints) in sym (get_or-take k word j 0 early)
letters_kept word k (negsuc j) h = refl

-- a word and its first k letters agree up to position k
pub agrees_start : (p : Program) (word : List ℕ) (k : ℕ) → AgreesUpTo (pos k) (start p word) (start p (take k word))
agrees_start p word k = record {
  state = refl;
  head = refl;
  cells = λ q h. cell-word word q ∙ letters_kept word k q h ∙ sym (cell-word (take k word) q);
}

-- a run of at most k steps on the first k letters is that on the whole word
pub cut_run : (p : Program) (word : List ℕ) (k i : ℕ) (c : Moment) → i ≤ k → After p (take k word) i c
    → (d : Moment) × After p word i d × AgreesUpTo (pos k) d c
cut_run p word k i c early run =
    let inside : (pos 0 +ℤ pos i) ≤ℤ pos k = omega (arith, ints) in
    let alike = agrees_run (pos k) p i (start p (take k word)) (start p word) c
    (agrees_turned (pos k) (start p word) (start p (take k word)) (agrees_start p word k)) inside run in
    (alike.0, alike.1, agrees_turned (pos k) c alike.0 alike.2)

-- i steps change no cell that lies i or more cells to the right of the first head
pub right_untouched : (room : Room) (p : Program) (i : ℕ) (c d : Moment) (q : ℤ) → (c.tape.head +ℤ pos i) ≤ℤ q
    → Reaches (MachineRunsTo room p) i c d → cell d.tape q ≡ cell c.tape q
right_untouched room p zero c d q h run = ap (λ (m : Moment). cell m.tape q) (sym run)
right_untouched room p (suc i) c d q h run =
    let near = head_near room p c run.0 run.1 in
    let up : run.0.tape.head ≤ℤ (c.tape.head +ℤ pos 1) = near.1 in
    let further : (run.0.tape.head +ℤ pos i) ≤ℤ q = omega (arith, ints) in
    let beside : q ≢ c.tape.head = omega (arith, ints) in
    right_untouched room p i run.0 d q further run.2
    ∙ ap (λ (t : Tape). cell t q) run.1.1.applies.writes
    ∙ cell-write_beside c.tape run.1.1.quint.write q beside

-- so beyond position i the word still stands after i steps
pub word_beyond : (room : Room) (p : Program) (word : List ℕ) (i : ℕ) (c : Moment) (q : ℤ) → pos i ≤ℤ q
    → AfterWithin room p word i c → cell c.tape q ≡ letter_at word q
word_beyond room p word i c q h run =
    let far : (pos 0 +ℤ pos i) ≤ℤ q = omega (arith, ints) in
    right_untouched room p i (start p word) c q far run ∙ cell-word word q
