-- What bytes are read as: one list of moves, one machine, or one refusal.
use Rattle.std.specs.Prelude.{◌≡◌, ◌≢◌, ℕ, ◌+◌, ◌≤◌, nat_lt, not, if◌then◌else◌, Bool, true, false, List, [], ◌∷◌}
use Rattle.std.specs.Prelude.{length, Option, Some, None, All, ◌⊎◌, refl}
use Rattle.std.proofs.Common.{◌++◌, length-append, sym, ap, subst, ◌∙◌, arith, inl, inr}
use Rattle.std.proofs.lemmas.List.{length-map, map-append}
use Rattle.std.proofs.lemmas.List.Elements.{All-head, All-nil, All-push, All-tail}
use Rattle.bn_csv.specs.Entries.{entries_of}
use Rattle.bn_csv.specs.Faults.{else_fault, fault_from, first_fault}
use Rattle.bn_csv.proofs.FaultLemmas.{in_number, kept_to_last, none_faulty}
use Rattle.bn_rsm.specs.declared.entry.TheConstants.{MOST_ENTRIES}
use Rattle.bn_base.specs.declared.limits.TheConstants.{MOST_COUNT}
use Rattle.bn_csv.specs.Lines.{is_plain_entry, lines_of}
use Rattle.bn_csv.proofs.LinesLemmas.{all_plain, entries_of-lines_of}
use Rattle.bn_rsm.specs.Faults as moves
use Rattle.bn_rsm.specs.Laws.{MovesAreSoundOrRefused, RefusalsAreOne, SoundMovesAreTaken}
use Rattle.bn_rsm.specs.Machines.{AreSound, Machine, same_machine}
use Rattle.bn_rsm.specs.declared.rsm_move.RsmMove.{RsmMove}
use Rattle.bn_rsm.specs.declared.refusal.RsmRefusal.{RsmRefusal}
use Rattle.bn_rsm.specs.declared.refusal.RsmRefusal.TheVariants as clash
use Rattle.bn_rsm.specs.Entry.{AreReadAs, IsMove, entries_by, move_entry, lines_named, states_named}
use Rattle.bn_rsm.specs.TableFaults.{move_entry_fault, move_table_fault, move_form_fault, is_number}
use Rattle.bn_rsm.specs.Reading.{MovesClash, IsMoveTableRefusal, ReadsMoves}
use Rattle.bn_rsm.specs.declared.table_refusal.RsmTableRefusal.{RsmTableRefusal}
use Rattle.bn_rsm.specs.declared.table_refusal.RsmTableRefusal.TheVariants as refusal
use Rattle.bn_rsm.specs.Writing.{IsTable}
use Rattle.bn_rsm.proofs.Decimals.{plain_decimal}
use Rattle.bn_rsm.proofs.Drafting.{all_moves, never_outside}
use Rattle.bn_rsm.proofs.Passing.{no_fault, same_step, step_of}

-- ---- one list of moves

same_steps : (ms ns : List RsmMove) → All IsMove ms → All IsMove ns → entries_by ms ≡ entries_by ns → ms ≡ ns
same_steps [] [] h k e = refl
same_steps [] (n ∷ ns) h k e = cc e
same_steps (m ∷ ms) [] h k e = cc e
same_steps (m ∷ ms) (n ∷ ns) h k e =
    let first : move_entry m ≡ move_entry n = cc in
    let rest : entries_by ms ≡ entries_by ns = cc in
    let here : m ≡ n = same_step m n (All-head IsMove m ms h) (All-head IsMove n ns k) first in
    let later : ms ≡ ns = same_steps ms ns (All-tail IsMove m ms h) (All-tail IsMove n ns k) rest in
    λ i. here i ∷ later i

pub one_reading : (entries : List (List (List ℕ))) (ms ns : List RsmMove) → AreReadAs entries ms → AreReadAs entries ns
    → ms ≡ ns
one_reading entries ms ns h k = same_steps ms ns h.within k.within (h.rows ∙ sym k.rows)

-- ---- moves, or a fault

pub no_fault_of : (entries : List (List (List ℕ))) (ms : List RsmMove) → AreReadAs entries ms
    → move_table_fault entries ≡ None
no_fault_of entries ms h = none_faulty refusal.Empty move_entry_fault move_entry IsMove MOST_ENTRIES no_fault entries ms
    h.rows h.some h.few h.within

-- the moves of entries without a fault
record Steps (entries : List (List (List ℕ))) : Type 0 where
  found : List RsmMove
  rows : entries_by found ≡ entries
  within : All IsMove found
  few : length entries ≤ MOST_ENTRIES

no_steps : Steps []
no_steps = record { found = []; rows = refl; within = All-nil IsMove; few = omega arith }

next_step : (done : List (List (List ℕ))) (fields : List (List ℕ)) → Steps done
    → move_entry_fault (length done + 1) fields ≡ None → Steps (done ++ fields ∷ [])
next_step done fields so none =
    let here = step_of (length done + 1) fields none in
    let bound = (in_number MOST_ENTRIES refusal.TooMany move_form_fault (length done + 1) fields none).0 in
    record {
      found = so.found ++ here.step ∷ [];
      rows = map-append move_entry so.found (here.step ∷ []) ∙ (λ i. so.rows i ++ sym here.is i ∷ []);
      within = All-push IsMove so.found here.step so.within here.within;
      few = omega (arith, bound, length-append done (fields ∷ []));
    }

pub reading_of : (entries : List (List (List ℕ))) → move_table_fault entries ≡ None
    → (ms : List RsmMove) × AreReadAs entries ms
reading_of entries e =
    let (some, steps) = kept_to_last refusal.Empty move_entry_fault Steps no_steps next_step entries e in
    (steps.found, record { rows = steps.rows; within = steps.within; some = some; few = steps.few })

-- ---- a machine, or a refusal

machine_of : (bytes : List ℕ) (ms : List RsmMove) → AreReadAs (entries_of bytes) ms
    → AreSound (states_named ms) (lines_named ms) ms → (m : Machine) × ReadsMoves bytes m
machine_of bytes ms reads sound = (
  record {
    states = states_named ms;
    lines = lines_named ms;
    moves = ms;
    sound = sound;
  },
  record { moves = reads; states = refl; lines = refl },
)

clash_of : (bytes : List ℕ) (ms : List RsmMove) (said : RsmRefusal) → AreReadAs (entries_of bytes) ms
    → said ≢ clash.NoMemory → moves.IsMoveRefusal (states_named ms) (lines_named ms) ms said
    → (e : RsmTableRefusal) × (e ≢ refusal.NoMemory) × IsMoveTableRefusal bytes e
clash_of bytes ms (clash.SameDomain i j) reads some said = (
  refusal.SameDomain i j,
  (λ e. cc),
  record { found = ms; reads = reads; clash = said },
)
clash_of bytes ms (clash.SameRange i j) reads some said = (
  refusal.SameRange i j,
  (λ e. cc),
  record { found = ms; reads = reads; clash = said },
)
clash_of bytes ms (clash.Range j) reads some said = absurd (never_outside ms j said)
clash_of bytes ms clash.NoMemory reads some said = absurd (some refl)

-- a fault of entries: no clash of moves, and no want of memory
abbrev IsOfEntries : RsmTableRefusal → Type 0
IsOfEntries (refusal.FieldCount i) = Unit {0}
IsOfEntries (refusal.Number i j) = Unit {0}
IsOfEntries (refusal.TooMany i) = Unit {0}
IsOfEntries refusal.Empty = Unit {0}
IsOfEntries (refusal.SameDomain i j) = ⊥
IsOfEntries (refusal.SameRange i j) = ⊥
IsOfEntries refusal.NoMemory = ⊥

abbrev AreOfEntries : Option RsmTableRefusal → Type 0
AreOfEntries None = Unit {0}
AreOfEntries (Some e) = IsOfEntries e

number_fault : (b : Bool) (n k : ℕ) (rest : Option RsmTableRefusal) → AreOfEntries rest
    → AreOfEntries (if not b then Some (refusal.Number n k) else rest)
number_fault true n k rest h = h
number_fault false n k rest h = tt

form_faults : (n : ℕ) (fields : List (List ℕ)) → AreOfEntries (move_form_fault n fields)
form_faults n (a ∷ b ∷ c ∷ d ∷ []) =
    number_fault (is_number a) n 1 _ (number_fault (is_number b) n 2 _
    (number_fault (is_number c) n 3 _ (number_fault (is_number d) n 4 None tt)))
form_faults n [] = tt
form_faults n (a ∷ []) = tt
form_faults n (a ∷ b ∷ []) = tt
form_faults n (a ∷ b ∷ c ∷ []) = tt
form_faults n (a ∷ b ∷ c ∷ d ∷ e ∷ es) = tt

count_fault : (b : Bool) (n : ℕ) (rest : Option RsmTableRefusal) → AreOfEntries rest
    → AreOfEntries (if b then Some (refusal.TooMany n) else rest)
count_fault true n rest h = tt
count_fault false n rest h = h

first_of : (first later : Option RsmTableRefusal) → AreOfEntries first → AreOfEntries later
    → AreOfEntries (else_fault first later)
first_of None later h k = k
first_of (Some e) later h k = h

faults_from : (n : ℕ) (entries : List (List (List ℕ))) → AreOfEntries (fault_from move_entry_fault n entries)
unfolding fault_from
faults_from n [] = tt
faults_from n (fields ∷ rest) =
    first_of (move_entry_fault n fields) (fault_from move_entry_fault (n + 1) rest)
    (count_fault (nat_lt MOST_ENTRIES n) n (move_form_fault n fields) (form_faults n fields)) (faults_from (n + 1) rest)

faults_of : (entries : List (List (List ℕ))) → AreOfEntries (move_table_fault entries)
unfolding first_fault
faults_of [] = tt
faults_of (fields ∷ rest) = faults_from 1 (fields ∷ rest)

by_entries : (bytes : List ℕ) (e : RsmTableRefusal) → IsOfEntries e → move_table_fault (entries_of bytes) ≡ Some e
    → (e ≢ refusal.NoMemory) × IsMoveTableRefusal bytes e
by_entries bytes (refusal.FieldCount i) h is = ((λ e. cc), is)
by_entries bytes (refusal.Number i j) h is = ((λ e. cc), is)
by_entries bytes (refusal.TooMany i) h is = ((λ e. cc), is)
by_entries bytes refusal.Empty h is = ((λ e. cc), is)
by_entries bytes (refusal.SameDomain i j) h is = absurd h
by_entries bytes (refusal.SameRange i j) h is = absurd h
by_entries bytes refusal.NoMemory h is = absurd h

-- the first fault of the entries is a refusal of the bytes
pub fault_refuses : (bytes : List ℕ) (e : RsmTableRefusal) → move_table_fault (entries_of bytes) ≡ Some e
    → (e ≢ refusal.NoMemory) × IsMoveTableRefusal bytes e
fault_refuses bytes e is = by_entries bytes e (subst AreOfEntries is (faults_of (entries_of bytes))) is

-- what is the first fault of the entries, unless it is want of memory, is a refusal of the bytes
pub refused_unless : (bytes : List ℕ) (e : RsmTableRefusal) → (e ≢ refusal.NoMemory
    → move_table_fault (entries_of bytes) ≡ Some e) → IsMoveTableRefusal bytes e
refused_unless bytes (refusal.FieldCount i) h = h (λ e. cc)
refused_unless bytes (refusal.Number i j) h = h (λ e. cc)
refused_unless bytes (refusal.TooMany i) h = h (λ e. cc)
refused_unless bytes refusal.Empty h = h (λ e. cc)
refused_unless bytes (refusal.SameDomain i j) h = (fault_refuses bytes (refusal.SameDomain i j) (h (λ e. cc))).1
refused_unless bytes (refusal.SameRange i j) h = (fault_refuses bytes (refusal.SameRange i j) (h (λ e. cc))).1
refused_unless bytes refusal.NoMemory h = tt

pub machine_or_refusal : MovesAreSoundOrRefused → (bytes : List ℕ)
    → ((m : Machine) × ReadsMoves bytes m) ⊎ ((e : RsmTableRefusal) × (e ≢ refusal.NoMemory)
    × IsMoveTableRefusal bytes e)
machine_or_refusal sound_or bytes = by_fault (move_table_fault (entries_of bytes)) refl
  where
    by_moves : (ms : List RsmMove) → AreReadAs (entries_of bytes) ms
        → AreSound (states_named ms) (lines_named ms) ms ⊎ ((a : RsmRefusal) × (a ≢ clash.NoMemory)
        × moves.IsMoveRefusal (states_named ms) (lines_named ms) ms a)
        → ((m : Machine) × ReadsMoves bytes m) ⊎ ((e : RsmTableRefusal) × (e ≢ refusal.NoMemory)
        × IsMoveTableRefusal bytes e)
    by_moves ms reads (inl sound) = inl (machine_of bytes ms reads sound)
    by_moves ms reads (inr said) = inr (clash_of bytes ms said.0 reads said.1 said.2)

    by_fault : (o : Option RsmTableRefusal) → move_table_fault (entries_of bytes) ≡ o
        → ((m : Machine) × ReadsMoves bytes m) ⊎ ((e : RsmTableRefusal) × (e ≢ refusal.NoMemory)
        × IsMoveTableRefusal bytes e)
    by_fault None none = let found = reading_of (entries_of bytes) none in by_moves found.0 found.1
        (sound_or (states_named found.0) (lines_named found.0) found.0)
    by_fault (Some e) is = let refused = fault_refuses bytes e is in inr (e, refused.0, refused.1)

-- what a refusal says of bytes: a fault of their entries, or moves that clash
abbrev table_refusal : RsmRefusal → RsmTableRefusal
table_refusal (clash.SameDomain i j) = refusal.SameDomain i j
table_refusal (clash.SameRange i j) = refusal.SameRange i j
table_refusal (clash.Range j) = refusal.NoMemory
table_refusal clash.NoMemory = refusal.NoMemory

data Says (bytes : List ℕ) (e : RsmTableRefusal) : Type 0 where
  faulty : move_table_fault (entries_of bytes) ≡ Some e → Says bytes e
  clashing : (said : RsmRefusal) → said ≢ clash.NoMemory → e ≡ table_refusal said → MovesClash bytes said → Says bytes e

says : (bytes : List ℕ) (e : RsmTableRefusal) → e ≢ refusal.NoMemory → IsMoveTableRefusal bytes e → Says bytes e
says bytes (refusal.FieldCount i) some is = faulty is
says bytes (refusal.Number i j) some is = faulty is
says bytes (refusal.TooMany i) some is = faulty is
says bytes refusal.Empty some is = faulty is
says bytes (refusal.SameDomain i j) some is = clashing (clash.SameDomain i j) (λ e. cc) refl is
says bytes (refusal.SameRange i j) some is = clashing (clash.SameRange i j) (λ e. cc) refl is
says bytes refusal.NoMemory some is = absurd (some refl)

some_or_none : {X : Type 0} (o : Option X) (x : X) → o ≡ None → o ≡ Some x → ⊥
some_or_none o x none some = cc

same_some : {X : Type 0} (o : Option X) (x y : X) → o ≡ Some x → o ≡ Some y → x ≡ y
same_some o x y a b = cc

pub not_refused : SoundMovesAreTaken → (bytes : List ℕ) (m : Machine) (e : RsmTableRefusal) → ReadsMoves bytes m
    → IsMoveTableRefusal bytes e → e ≡ refusal.NoMemory
not_refused taken bytes m e reads is = by_kind e is
  where
    no_fault_here : (e : RsmTableRefusal) → move_table_fault (entries_of bytes) ≡ Some e → ⊥
    no_fault_here e some = some_or_none _ e (no_fault_of (entries_of bytes) m.moves reads.moves) some

    no_clash_here : (said : RsmRefusal) → MovesClash bytes said → said ≡ clash.NoMemory
    no_clash_here said h =
        let same : h.found ≡ m.moves = one_reading (entries_of bytes) h.found m.moves h.reads reads.moves in
        let moved = subst (λ ms. moves.IsMoveRefusal (states_named ms) (lines_named ms) ms said) same h.clash in
        let states = subst (λ n. moves.IsMoveRefusal n (lines_named m.moves) m.moves said) (sym reads.states) moved in
        let lines = subst (λ n. moves.IsMoveRefusal m.states n m.moves said) (sym reads.lines) states in
        taken m.states m.lines m.moves said m.sound lines

    by_kind : (e : RsmTableRefusal) → IsMoveTableRefusal bytes e → e ≡ refusal.NoMemory
    by_kind (refusal.FieldCount i) is = absurd (no_fault_here (refusal.FieldCount i) is)
    by_kind (refusal.Number i j) is = absurd (no_fault_here (refusal.Number i j) is)
    by_kind (refusal.TooMany i) is = absurd (no_fault_here (refusal.TooMany i) is)
    by_kind refusal.Empty is = absurd (no_fault_here refusal.Empty is)
    by_kind (refusal.SameDomain i j) is = let none = no_clash_here (clash.SameDomain i j) is in absurd (cc)
    by_kind (refusal.SameRange i j) is = let none = no_clash_here (clash.SameRange i j) is in absurd (cc)
    by_kind refusal.NoMemory is = refl

pub one_machine : (bytes : List ℕ) (m n : Machine) → ReadsMoves bytes m → ReadsMoves bytes n → m ≡ n
one_machine bytes m n h k =
    let same : m.moves ≡ n.moves = one_reading (entries_of bytes) m.moves n.moves h.moves k.moves in
    same_machine m n (h.states ∙ ap states_named same ∙ sym k.states) (h.lines ∙ ap lines_named same ∙ sym k.lines) same

pub one_refusal : RefusalsAreOne → (bytes : List ℕ) (d e : RsmTableRefusal) → IsMoveTableRefusal bytes d
    → IsMoveTableRefusal bytes e → d ≢ refusal.NoMemory → e ≢ refusal.NoMemory → d ≡ e
one_refusal once bytes d e h k some more = both (says bytes d some h) (says bytes e more k)
  where
    both : Says bytes d → Says bytes e → d ≡ e
    both (faulty a) (faulty b) = same_some _ d e a b
    both (faulty a) (clashing said real is b) = absurd (some_or_none _ d
        (no_fault_of (entries_of bytes) b.found b.reads) a)
    both (clashing said real is a) (faulty b) = absurd (some_or_none _ e
        (no_fault_of (entries_of bytes) a.found a.reads) b)
    both (clashing said real is a) (clashing other true_too is_too b) =
        let same : a.found ≡ b.found = one_reading (entries_of bytes) a.found b.found a.reads b.reads in
        let moved = subst (λ ms. moves.IsMoveRefusal (states_named ms) (lines_named ms) ms said) same a.clash in
        let one : said ≡ other = once (states_named b.found) (lines_named b.found) b.found said other moved b.clash real
        true_too in
        is ∙ ap table_refusal one ∙ sym is_too

-- ---- the writer

plain_step : (m : RsmMove) → IsMove m → is_plain_entry (move_entry m) ≡ true
plain_step m h =
    let state = h.state in
    let line = h.line in
    let next = h.next in
    let out = h.out in
    rw (
      plain_decimal (m.state + 1) (omega arith),
      plain_decimal (m.line + 1) (omega arith),
      plain_decimal (m.next + 1) (omega arith),
      plain_decimal (m.out + 1) (omega arith),
    ) refl

-- a machine's lines are read as it again
pub read_back : (m : Machine) (bytes : List ℕ) → IsTable m → bytes ≡ lines_of (entries_by m.moves) → ReadsMoves bytes m
read_back m bytes h is =
    let states : states_named m.moves ≤ MOST_COUNT = omega (arith, h.states, h.states_few) in
    let lines : lines_named m.moves ≤ MOST_COUNT = omega (arith, h.lines, h.lines_few) in
    let back : entries_of bytes ≡ entries_by m.moves = ap entries_of is
    ∙ entries_of-lines_of (entries_by m.moves) (all_plain move_entry IsMove plain_step m.moves
    (all_moves m.moves states lines)) in
    let count : length (entries_of bytes) ≡ length m.moves = ap (λ (xs : List (List (List ℕ))). length xs) back
    ∙ length-map m.moves move_entry in
    record {
      moves = record {
        rows = sym back;
        within = all_moves m.moves states lines;
        some = omega (arith, h.some);
        few = omega (arith, h.few);
      };
      states = h.states;
      lines = h.lines;
    }
