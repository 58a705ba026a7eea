-- The three stages: compute, copy, retrace.
use Rattle.std.specs.Prelude.{◌≡◌, ◌≢◌, ℕ, zero, suc, ◌+◌, ◌*◌, ◌<◌, ◌≤◌, ℤ, pos, ◌+ℤ◌, List, [], ◌∷◌, length, take}
use Rattle.std.proofs.Common.{refl, sym, ap, ◌∙◌, subst, arith, get_or, inl}
use Rattle.std.proofs.lemmas.Int.{ints}
use Rattle.bn_lists.specs.Runs.{Reaches}
use Rattle.bn_lists.proofs.RunsLemmas.{runs_join, runs_more}
use Rattle.bn_machine.specs.Tape.{word_tape, blank_tape}
use Rattle.bn_machine.specs.Window.{Room, anywhere, Allows}
use Rattle.bn_machine.specs.Machine.{Program, Moment, GoesBy, start, start_of, final_of}
use Rattle.bn_machine.specs.Run.{Follows}
use Rattle.bn_quad.specs.Quadruples as quads
use Rattle.bn_quad.specs.Quadruples.{Rule, Configuration, Leads, Rooms, AreAllowed}
use Rattle.bn_lists.specs.Lists.{IsIn}
use Rattle.bn_bennett_laws.specs.List.{bennett, final_name, begins_copy, goes_right, copies_letter, turns_left}
use Rattle.bn_bennett_laws.specs.List.{goes_left, passes_letter, ends_copy, shifts_back, writes_back, writes_ahead}
use Rattle.bn_bennett_laws.specs.List.{shifts_ahead}
use Rattle.bn_bennett_laws.proofs.ListLemmas.{has_writes_ahead, has_shifts_ahead, has_begins_copy, has_goes_right}
use Rattle.bn_bennett_laws.proofs.ListLemmas.{has_copies_letter, has_turns_left, has_goes_left, has_passes_letter}
use Rattle.bn_bennett_laws.proofs.ListLemmas.{has_ends_copy, has_shifts_back, has_writes_back}
use Rattle.bn_bennett_laws.specs.Stages.{IsStandardMachine, history, computing, computing_within, retracing}
use Rattle.bn_bennett_laws.specs.Stages.{retracing_within, copying, beginning, ending, StepsOf}
use Rattle.bn_bennett_laws.specs.Laws.{AllowsUpTo, IsReady, ComputesTwoSteps, CopiesOutput, RetracesTwoSteps}
use Rattle.bn_bennett_laws.proofs.Tapes.{scanned-word}
use Rattle.bn_bennett_laws.proofs.Moves.{computes_leads, computes_on_leads, retraces_leads, retraces_on_leads}
use Rattle.bn_bennett_laws.proofs.Moves.{begins_leads, right_leads, left_leads, ends_leads, copies_leads, turns_leads}
use Rattle.bn_bennett_laws.proofs.Moves.{passes_leads}
use Rattle.bn_bennett_laws.specs.declared.name.Name.{Name}
use Rattle.bn_bennett_laws.specs.declared.name.Name.TheVariants.{GoRight, CopyLetter, GoLeft, PassLetter}

-- where a head of a run in a room stands, it may stand
pub follows_allowed : (room : Room) (p : Program) (ns : List ℕ) (c d : Moment) → Allows room c.tape.head
    → Follows room p ns c d → Allows room d.tape.head
follows_allowed room p [] c d here run = subst (λ (m : Moment). Allows room m.tape.head) run here
follows_allowed room p (n ∷ ns) c d here run = run.2.stays

fewer : (room : Room) (p : ℤ) (m n : ℕ) → m ≤ n → AllowsUpTo room p n → AllowsUpTo room p m
fewer room p m n h all = λ j low. all j (omega arith)

-- a quadruple of the list that leads on
pub follow_by : (p : Program) (r : Rule Name) (x y : Configuration Name) → IsIn (bennett p) r → Leads r x y
    → quads.Follows (bennett p) x y
follow_by p r x y h leads = record { number = h.place; leads = record { rule = r; stands = h.stands; leads = leads } }

module _ (p : Program) (rooms : Rooms) where
  -- it makes a step where the heads may go
  pub step_by : (r : Rule Name) (x y : Configuration Name) → IsIn (bennett p) r → Leads r x y → x.state ≢ final_name p
      → AreAllowed rooms y → StepsOf p rooms x y
  step_by r x y h leads going stays = record { going = going; follows = follow_by p r x y h leads; stays = stays }

  two_steps : (x y z : Configuration Name) → StepsOf p rooms x y → StepsOf p rooms y z → Reaches (StepsOf p rooms) 2 x z
  two_steps x y z first second = (y, first, (z, second, refl))

  -- ---- compute

  -- a step of the machine is begun
  pub compute_first : (room : Room) (m : ℕ) (c d : Moment) (ns : List ℕ) (by : GoesBy room p m c d)
      → Allows rooms.one c.tape.head → Allows rooms.two (pos 0 +ℤ pos (length ns + 1)) → Allows rooms.three (pos 0)
      → StepsOf p rooms (computing c ns blank_tape) (computing_within c ns m by.quint blank_tape)
  compute_first room m c d ns by one two three =
      let next : (pos 0 +ℤ pos (length ns + 1)) ≡ ((pos 0 +ℤ pos (length ns)) +ℤ pos 1) = omega (arith, ints) in
      step_by (writes_ahead m by.quint) _ _ (has_writes_ahead p m by.quint by.match.stands)
      (computes_leads m by.quint c ns blank_tape by.match.holds.from by.match.holds.reads (scanned-word []))
      (λ e. cc)
      (record { one = one; two = subst (Allows rooms.two) next two; three = three })

  pub compute_second : (room : Room) (m : ℕ) (c d : Moment) (ns : List ℕ) (by : GoesBy room p m c d)
      → Allows rooms.one d.tape.head → Allows rooms.two (pos 0 +ℤ pos (suc (length ns))) → Allows rooms.three (pos 0)
      → StepsOf p rooms (computing_within c ns m by.quint blank_tape) (computing d (m ∷ ns) blank_tape)
  compute_second room m c d ns by one two three =
      step_by (shifts_ahead m by.quint) _ _ (has_shifts_ahead p m by.quint by.match.stands)
      (computes_on_leads m by.quint c d ns blank_tape by.applies.writes by.applies.to)
      (λ e. cc)
      (record { one = one; two = two; three = three })

  pub compute_run : (word ns : List ℕ) (c : Moment) → Follows rooms.one p ns (start p word) c → Allows rooms.one (pos 0)
      → Allows rooms.three (pos 0) → AllowsUpTo rooms.two (pos 0) (length ns)
      → Reaches (StepsOf p rooms) (2 * length ns) (beginning p word) (computing c ns blank_tape)
  compute_run word [] c run one three two = ap (λ m. computing m [] blank_tape) run
  compute_run word (m ∷ ns) c run one three two =
      let count : 2 * length (m ∷ ns) ≡ 2 * length ns + 2 = omega arith in
      let before = compute_run word ns run.0 run.1 one three (fewer rooms.two (pos 0) (length ns) (length (m ∷ ns))
      (omega arith) two) in
      let here = follows_allowed rooms.one p ns (start p word) run.0 one run.1 in
      let first = compute_first rooms.one m run.0 c ns run.2 here (two (length ns + 1) (omega arith)) three in
      let second = compute_second rooms.one m run.0 c ns run.2 run.2.stays (two (suc (length ns)) (omega arith)) three
      in
      runs_join (StepsOf p rooms) (2 * length (m ∷ ns)) (2 * length ns) 2 _ _ _ count before
      (two_steps _ _ _ first second)

  -- ---- copy

  module _ (c : Moment) (ns y : List ℕ) (ready : IsReady p c ns y) (two : Allows rooms.two (history ns).head) where
    may : (k : ℕ) → Allows rooms.one (c.tape.head +ℤ pos k) → Allows rooms.three (pos 0 +ℤ pos k)
        → (state : Name) (ys : List ℕ) → AreAllowed rooms (copying state c ns ys k)
    may k one three state ys = record { one = one; two = two; three = three }

    letter : (k : ℕ) → k < length y → (0 < get_or y k 0) × (get_or y k 0 < p.symbols)
    letter k low = let some : get_or y k 0 ≢ 0 = ready.output.letters k low in (omega arith, ready.letters k 0 low)

    right_step : (ys : List ℕ) (k : ℕ) → Allows rooms.one (c.tape.head +ℤ pos (suc k))
        → Allows rooms.three (pos 0 +ℤ pos (suc k)) → StepsOf p rooms (copying GoRight c ns ys k)
        (copying CopyLetter c ns ys (suc k))
    right_step ys k one three = step_by goes_right _ _ (has_goes_right p)
        (right_leads c ns (length p.quints) ready.last ys k) (λ e. cc) (may (suc k) one three CopyLetter ys)

    copy_step : (k : ℕ) → k < length y → Allows rooms.one (c.tape.head +ℤ pos (suc k))
        → Allows rooms.three (pos 0 +ℤ pos (suc k)) → StepsOf p rooms (copying CopyLetter c ns (take k y) (suc k))
        (copying GoRight c ns (take (suc k) y) (suc k))
    copy_step k low one three =
        step_by (copies_letter (length p.quints) (get_or y k 0)) _ _
        (has_copies_letter p (get_or y k 0) (letter k low).0 (letter k low).1)
        (copies_leads c ns (length p.quints) ready.last y ready.output k low) (λ e. cc)
        (may (suc k) one three GoRight (take (suc k) y))

    left_step : (k : ℕ) → Allows rooms.one (c.tape.head +ℤ pos k) → Allows rooms.three (pos 0 +ℤ pos k)
        → StepsOf p rooms (copying GoLeft c ns y (suc k)) (copying PassLetter c ns y k)
    left_step k one three = step_by goes_left _ _ (has_goes_left p) (left_leads c ns (length p.quints) ready.last y k)
        (λ e. cc) (may k one three PassLetter y)

    pass_step : (k : ℕ) → k < length y → Allows rooms.one (c.tape.head +ℤ pos (suc k))
        → Allows rooms.three (pos 0 +ℤ pos (suc k)) → StepsOf p rooms (copying PassLetter c ns y (suc k))
        (copying GoLeft c ns y (suc k))
    pass_step k low one three =
        step_by (passes_letter (length p.quints) (get_or y k 0)) _ _
        (has_passes_letter p (get_or y k 0) (letter k low).0 (letter k low).1)
        (passes_leads c ns (length p.quints) ready.last y ready.output k low) (λ e. cc)
        (may (suc k) one three GoLeft y)

    begin_step : Allows rooms.one (c.tape.head +ℤ pos 0) → Allows rooms.three (pos 0 +ℤ pos 0)
        → StepsOf p rooms (computing c ns blank_tape) (copying GoRight c ns [] 0)
    begin_step one three = step_by (begins_copy (final_of p.quints) (length p.quints)) _ _ (has_begins_copy p)
        (begins_leads c ns (length p.quints) ready.last (final_of p.quints) ready.final ready.blank) (λ e. cc)
        (may 0 one three GoRight [])

    turn_step : Allows rooms.one (c.tape.head +ℤ pos (suc (length y)))
        → Allows rooms.three (pos 0 +ℤ pos (suc (length y))) → StepsOf p rooms
        (copying CopyLetter c ns (take (length y) y) (suc (length y))) (copying GoLeft c ns y (suc (length y)))
    turn_step one three = step_by (turns_left (length p.quints)) _ _ (has_turns_left p)
        (turns_leads c ns (length p.quints) ready.last y ready.output) (λ e. cc)
        (may (suc (length y)) one three GoLeft y)

    end_step : Allows rooms.one c.tape.head → Allows rooms.three (pos 0)
        → StepsOf p rooms (copying PassLetter c ns y 0) (retracing c ns (word_tape y))
    end_step one three = step_by (ends_copy (final_of p.quints) (length p.quints)) _ _ (has_ends_copy p)
        (ends_leads c ns (length p.quints) ready.last (final_of p.quints) y ready.final ready.blank) (λ e. cc)
        (record { one = one; two = two; three = three })

    pub copy_right : (k : ℕ) → k ≤ length y → AllowsUpTo rooms.one c.tape.head k → AllowsUpTo rooms.three (pos 0) k
        → Reaches (StepsOf p rooms) (2 * k + 1) (computing c ns blank_tape) (copying GoRight c ns (take k y) k)
    copy_right zero low one three = (
      copying GoRight c ns [] 0,
      begin_step (one 0 (omega arith)) (three 0 (omega arith)),
      refl,
    )
    copy_right (suc k) low one three =
        let count : 2 * suc k + 1 ≡ (2 * k + 1) + 2 = omega arith in
        let before = copy_right k (omega arith) (fewer rooms.one c.tape.head k (suc k) (omega arith) one)
        (fewer rooms.three (pos 0) k (suc k) (omega arith) three) in
        let one_here = one (suc k) (omega arith) in
        let three_here = three (suc k) (omega arith) in
        runs_join (StepsOf p rooms) (2 * suc k + 1) (2 * k + 1) 2 _ _ _ count before
        (two_steps _ _ _ (right_step (take k y) k one_here three_here)
        (copy_step k (omega arith) one_here three_here))

    copy_left : (k : ℕ) → k ≤ length y → AllowsUpTo rooms.one c.tape.head k → AllowsUpTo rooms.three (pos 0) k
        → Reaches (StepsOf p rooms) (2 * k + 1) (copying PassLetter c ns y k) (retracing c ns (word_tape y))
    copy_left zero low one three =
        let same : c.tape.head +ℤ pos 0 ≡ c.tape.head = omega (arith, ints) in (
          retracing c ns (word_tape y),
          end_step (subst (Allows rooms.one) same (one 0 (omega arith))) (three 0 (omega arith)),
          refl,
        )
    copy_left (suc k) low one three =
        let count : 2 * suc k + 1 ≡ 2 + (2 * k + 1) = omega arith in
        let one_less = fewer rooms.one c.tape.head k (suc k) (omega arith) one in
        let three_less = fewer rooms.three (pos 0) k (suc k) (omega arith) three in
        let passed = pass_step k (omega arith) (one (suc k) (omega arith)) (three (suc k) (omega arith)) in
        let moved = left_step k (one_less k (omega arith)) (three_less k (omega arith)) in
        runs_join (StepsOf p rooms) (2 * suc k + 1) 2 (2 * k + 1) _ _ _ count (two_steps _ _ _ passed moved)
        (copy_left k (omega arith) one_less three_less)

    pub copy_run : AllowsUpTo rooms.one c.tape.head (length y + 1) → AllowsUpTo rooms.three (pos 0) (length y + 1)
        → Reaches (StepsOf p rooms) (4 * length y + 5) (computing c ns blank_tape) (retracing c ns (word_tape y))
    copy_run one three =
        let l : ℕ = length y in
        let one_less = fewer rooms.one c.tape.head l (l + 1) (omega arith) one in
        let three_less = fewer rooms.three (pos 0) l (l + 1) (omega arith) three in
        let one_there = one (suc l) (omega arith) in
        let three_there = three (suc l) (omega arith) in
        let gone = copy_right l (omega arith) one_less three_less in
        let right = runs_more (StepsOf p rooms) (2 * l + 1) _ _ _ gone (right_step (take l y) l one_there three_there)
        in
        let turned = runs_more (StepsOf p rooms) (2 * l + 1 + 1) _ _ _ right (turn_step one_there three_there) in
        let left = runs_more (StepsOf p rooms) (2 * l + 1 + 1 + 1) _ _ _ turned
        (left_step l (one_less l (omega arith)) (three_less l (omega arith))) in
        runs_join (StepsOf p rooms) (4 * l + 5) (2 * l + 1 + 1 + 1 + 1) (2 * l + 1) _ _ _ (omega arith) left
        (copy_left l (omega arith) one_less three_less)

  -- ---- retrace

  -- no step leads to the start state of a machine in standard form
  pub not_start : (room : Room) (m : ℕ) (c d : Moment) → IsStandardMachine p → GoesBy room p m c d
      → d.state ≢ start_of p.quints
  not_start room m c d standard by is = standard.standard.lone_start.none m
      (record { quint = by.quint; stands = by.match.stands; names = inl (sym by.applies.to ∙ is) })

  pub retrace_first : (room : Room) (m : ℕ) (c d : Moment) (ns y : List ℕ) (standard : IsStandardMachine p)
      (by : GoesBy room p m c d) → Allows rooms.one c.tape.head → Allows rooms.two (pos 0 +ℤ pos (length ns + 1))
      → Allows rooms.three (pos 0) → StepsOf p rooms (retracing d (m ∷ ns) (word_tape y))
      (retracing_within c ns m by.quint (word_tape y))
  retrace_first room m c d ns y standard by one two three =
      let next : (pos 0 +ℤ pos (length ns + 1)) ≡ ((pos 0 +ℤ pos (length ns)) +ℤ pos 1) = omega (arith, ints) in
      step_by (shifts_back m by.quint) _ _ (has_shifts_back p m by.quint by.match.stands)
      (retraces_leads m by.quint c d ns (word_tape y) by.applies.writes by.applies.to)
      (λ e. not_start room m c d standard by (cc))
      (record { one = one; two = subst (Allows rooms.two) next two; three = three })

  pub retrace_second : (room : Room) (m : ℕ) (c d : Moment) (ns y : List ℕ) (by : GoesBy room p m c d)
      → Allows rooms.one c.tape.head → Allows rooms.two (pos 0 +ℤ pos (length ns)) → Allows rooms.three (pos 0)
      → StepsOf p rooms (retracing_within c ns m by.quint (word_tape y)) (retracing c ns (word_tape y))
  retrace_second room m c d ns y by one two three =
      step_by (writes_back m by.quint) _ _ (has_writes_back p m by.quint by.match.stands)
      (retraces_on_leads m by.quint c ns (word_tape y) by.match.holds.from by.match.holds.reads (scanned-word y))
      (λ e. cc)
      (record { one = one; two = two; three = three })

  pub retrace_run : (word ns y : List ℕ) (c : Moment) → IsStandardMachine p → Follows rooms.one p ns (start p word) c
      → Allows rooms.one (pos 0) → Allows rooms.three (pos 0) → AllowsUpTo rooms.two (pos 0) (length ns)
      → Reaches (StepsOf p rooms) (2 * length ns) (retracing c ns (word_tape y)) (ending p word y)
  retrace_run word [] y c standard run one three two = ap (λ m. retracing m [] (word_tape y)) (sym run)
  retrace_run word (m ∷ ns) y c standard run one three two =
      let count : 2 * length (m ∷ ns) ≡ 2 + 2 * length ns = omega arith in
      let less = fewer rooms.two (pos 0) (length ns) (length (m ∷ ns)) (omega arith) two in
      let here = follows_allowed rooms.one p ns (start p word) run.0 one run.1 in
      let first = retrace_first rooms.one m run.0 c ns y standard run.2 here (two (length ns + 1) (omega arith)) three
      in
      let second = retrace_second rooms.one m run.0 c ns y run.2 here (less (length ns) (omega arith)) three in
      runs_join (StepsOf p rooms) (2 * length (m ∷ ns)) 2 (2 * length ns) _ _ _ count (two_steps _ _ _ first second)
      (retrace_run word ns y run.0 standard run.1 one three less)

-- ---- the laws

pub computes_two_steps : ComputesTwoSteps
computes_two_steps p rooms word ns c run one three two = (
  compute_run p rooms word ns c run one three two,
  λ m d by more. runs_more (StepsOf p rooms) (2 * length ns) _ _ _ (compute_run p rooms word ns c run one three two)
      (compute_first p rooms anywhere m c d ns by (follows_allowed rooms.one p ns (start p word) c one run) more three),
)

pub copies_output : CopiesOutput
copies_output p rooms c ns y ready two = (copy_right p rooms c ns y ready two, copy_run p rooms c ns y ready two)

pub retraces_two_steps : RetracesTwoSteps
retraces_two_steps p rooms word ns y c standard run one three two =
    retrace_run p rooms word ns y c standard run one three two
