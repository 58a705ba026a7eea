-- Sound moves, one more at the end, the first fault, and the moves turned round.
use Rattle.std.proofs.Common.{◌≡◌, ◌≢◌, ℕ, zero, suc, ◌+◌, ◌-◌, ◌<◌, ◌≤◌, ◌==◌, ◌&&◌, Bool, true, false, cond, List, []}
use Rattle.std.proofs.Common.{◌∷◌, ◌++◌, length, map, take, Option, Some, None, Ok, Err, slice_get, refl, ap, sym}
use Rattle.std.proofs.Common.{subst, ◌∙◌, arith, inl, inr, get_or, ◌⊎◌}
use Rattle.std.specs.List.{position_from}
use Rattle.std.specs.HashMap.{get}
use Rattle.std.proofs.lemmas.Bool.Decides.{nat_tests}
use Rattle.std.proofs.lemmas.List.{take_more}
use Rattle.std.proofs.lemmas.Option.{slice_get_within, get_or_from_slice_get, slice_get-get_or}
use Rattle.std.proofs.Math.Seq.{take-length}
use Rattle.bn_element.specs.Tables.{Move, AreOneToOne, AreWithin, go_by, back_by}
use Rattle.bn_rsm.specs.Machines.{move_of, AreSound, Machine, IsBackward}
use Rattle.bn_rsm.specs.Faults.{leaves, leads, turned, number_from, number_to, is_within, MoveFault, out_of_range}
use Rattle.bn_rsm.specs.Faults.{same_domain, same_range, clash, move_fault_of, IsFirstMoveFault, IsMoveRefusal}
use Rattle.bn_rsm.specs.Pairs.{Numbers, AreNumbers, same_pair, checked}
use Rattle.bn_rsm.specs.declared.rsm_move.RsmMove.{RsmMove}
use Rattle.bn_rsm.specs.declared.refusal.RsmRefusal.{RsmRefusal}
use Rattle.bn_rsm.specs.declared.refusal.RsmRefusal.TheVariants.{SameDomain, SameRange, Range, NoMemory}
use Rattle.bn_rsm.proofs.NumberLemmas.{pushed, position_from-push, no_number-go_by, no_number-back_by}

-- what a look-up past the end gives
abbrev pub no_move : RsmMove
no_move = record { state = 0; line = 0; next = 0; out = 0 }

-- a move without fault: its numbers are in range, and no earlier move leaves or leads to its pairs
pub record IsFree (s k : ℕ) (earlier : List RsmMove) (m : RsmMove) : Type 0 where
  pub within : is_within s k m ≡ true
  pub leaves_none : number_from earlier m.state m.line ≡ None
  pub leads_none : number_to earlier m.next m.out ≡ None

pub faultless : (s k : ℕ) (earlier : List RsmMove) (m : RsmMove) → move_fault_of s k earlier m ≡ None
    → IsFree s k earlier m
faultless s k earlier m h = by_parts (is_within s k m) (number_from earlier m.state m.line)
    (number_to earlier m.next m.out) refl refl refl h
  where
    by_parts : (b : Bool) (f t : Option ℕ) → is_within s k m ≡ b → number_from earlier m.state m.line ≡ f
        → number_to earlier m.next m.out ≡ t → cond b (clash f t) (Some out_of_range) ≡ None → IsFree s k earlier m
    by_parts false f t within from to h = absurd (cc)
    by_parts true (Some i) t within from to h = absurd (cc)
    by_parts true None (Some i) within from to h = absurd (cc)
    by_parts true None None within from to h = record { within = within; leaves_none = from; leads_none = to }

-- ---- one move more

one_more : (b : Bool) (o : Option ℕ) (k : ℕ) → (b ≡ true → o ≡ None) → cond b (Some k) o ≡ pushed o b k
one_more true o k none = rw (none refl) refl
one_more false None k none = refl
one_more false (Some n) k none = refl

both_true : (a b c d : ℕ) → (a == c && b == d) ≡ true → (a ≡ c) × (b ≡ d)
both_true a b c d h = grind (arith, nat_tests)

pub numbers-push : (s k : ℕ) (from to from' to' : Numbers) (earlier : List RsmMove) (m : RsmMove) (number : ℕ)
    → AreNumbers from to earlier → number ≡ length earlier + 1 → move_fault_of s k earlier m ≡ None
    → ((p : ℕ × ℕ) → get same_pair from' p ≡ cond (same_pair (m.state, m.line) p) (Some number) (get same_pair from p))
    → ((p : ℕ × ℕ) → get same_pair to' p ≡ cond (same_pair (m.next, m.out) p) (Some number) (get same_pair to p))
    → AreNumbers from' to' (earlier ++ m ∷ [])
numbers-push s k from to from' to' earlier m number numbers counted none froms tos =
    let free = faultless s k earlier m none in
    record {
      leaving = λ q i.
          let absent : same_pair (m.state, m.line) (q, i) ≡ true → get same_pair from (q, i) ≡ None = λ h. let same =
          both_true m.state m.line q i h in numbers.leaving q i ∙ rw (← same.0, ← same.1) free.leaves_none in
          froms (q, i) ∙ one_more (same_pair (m.state, m.line) (q, i)) (get same_pair from (q, i)) number absent
          ∙ ap (λ o. pushed o (leaves q i m) number) (numbers.leaving q i)
          ∙ sym (position_from-push (leaves q i) 1 number earlier m (omega arith));
      leading = λ r o.
          let absent : same_pair (m.next, m.out) (r, o) ≡ true → get same_pair to (r, o) ≡ None = λ h. let same =
          both_true m.next m.out r o h in numbers.leading r o ∙ rw (← same.0, ← same.1) free.leads_none in
          tos (r, o) ∙ one_more (same_pair (m.next, m.out) (r, o)) (get same_pair to (r, o)) number absent
          ∙ ap (λ p. pushed p (leads r o m) number) (numbers.leading r o)
          ∙ sym (position_from-push (leads r o) 1 number earlier m (omega arith));
    }

not_first : (b : Bool) (v o : Option (ℕ × ℕ)) (p : ℕ × ℕ) → v ≡ Some p → cond b v o ≡ None → (b ≡ false) × (o ≡ None)
not_first true v o p is h = absurd (cc)
not_first false v o p is h = (refl, h)

turned_test : (a b c d : ℕ) → (a == c && b == d) ≡ false → (c == a && d == b) ≡ false
turned_test a b c d h = grind (arith, nat_tests)

go_by-push : (ms : List Move) (m : Move) (q i : ℕ) → go_by ms q i ≡ None → (m.state == q && m.input == i) ≡ false
    → go_by (ms ++ m ∷ []) q i ≡ None
go_by-push [] m q i none apart = rw apart refl
go_by-push (x ∷ ms) m q i none apart =
    let first = not_first (x.state == q && x.input == i) (Some (x.next, x.output)) (go_by ms q i) (x.next, x.output)
    refl none in
    rw first.0 (go_by-push ms m q i first.1 apart)

back_by-push : (ms : List Move) (m : Move) (r o : ℕ) → back_by ms r o ≡ None → (m.next == r && m.output == o) ≡ false
    → back_by (ms ++ m ∷ []) r o ≡ None
back_by-push [] m r o none apart = rw apart refl
back_by-push (x ∷ ms) m r o none apart =
    let first = not_first (x.next == r && x.output == o) (Some (x.state, x.input)) (back_by ms r o) (x.state, x.input)
    refl none in
    rw first.0 (back_by-push ms m r o first.1 apart)

one_to_one-push : (ms : List Move) (m : Move) → AreOneToOne ms → go_by ms m.state m.input ≡ None
    → back_by ms m.next m.output ≡ None → AreOneToOne (ms ++ m ∷ [])
one_to_one-push [] m apart from to = (refl, refl, tt)
one_to_one-push (x ∷ ms) m apart from to =
    let f = not_first (x.state == m.state && x.input == m.input) (Some (x.next, x.output)) (go_by ms m.state m.input)
    (x.next, x.output) refl from in
    let t = not_first (x.next == m.next && x.output == m.output) (Some (x.state, x.input)) (back_by ms m.next m.output)
    (x.state, x.input) refl to in (
      go_by-push ms m x.state x.input apart.0 (turned_test x.state x.input m.state m.input f.0),
      back_by-push ms m x.next x.output apart.1 (turned_test x.next x.output m.next m.output t.0),
      one_to_one-push ms m apart.2 f.1 t.1,
    )

within-push : (s n k : ℕ) (ms : List Move) (m : Move) → AreWithin s n k ms → m.state < s → m.input < n → m.next < s
    → m.output < k → AreWithin s n k (ms ++ m ∷ [])
within-push s n k [] m within a b c d = (a, b, c, d, tt)
within-push s n k (x ∷ ms) m within a b c d = (
  within.0,
  within.1,
  within.2,
  within.3,
  within-push s n k ms m within.4 a b c d,
)

-- the tests of the range, as bounds
pub record IsInRange (s k : ℕ) (m : RsmMove) : Type 0 where
  pub state : m.state < s
  pub line : m.line < k
  pub next : m.next < s
  pub out : m.out < k

pub in_range : (s k : ℕ) (m : RsmMove) → is_within s k m ≡ true → IsInRange s k m
in_range s k m h = record {
  state = grind (arith, nat_tests);
  line = grind (arith, nat_tests);
  next = grind (arith, nat_tests);
  out = grind (arith, nat_tests);
}

map-push : (ms : List RsmMove) (m : RsmMove) → map move_of (ms ++ m ∷ []) ≡ map move_of ms ++ move_of m ∷ []
map-push [] m = refl
map-push (x ∷ ms) m = ap (λ xs. move_of x ∷ xs) (map-push ms m)

pub sound-push : (s k : ℕ) (ms : List RsmMove) (m : RsmMove) → AreSound s k ms → move_fault_of s k ms m ≡ None
    → AreSound s k (ms ++ m ∷ [])
sound-push s k ms m sound none =
    let free = faultless s k ms m none in
    let range = in_range s k m free.within in
    record {
      one_to_one = subst AreOneToOne (sym (map-push ms m)) (one_to_one-push (map move_of ms) (move_of m)
          sound.one_to_one (no_number-go_by ms 1 m.state m.line free.leaves_none)
          (no_number-back_by ms 1 m.next m.out free.leads_none));
      within = subst (AreWithin s k k) (sym (map-push ms m)) (within-push s k k (map move_of ms) (move_of m)
          sound.within range.state range.line range.next range.out);
    }

-- ---- the first moves of a list, and the first fault

-- the maps have the first n moves, which are sound
pub record AreIndexed (s k : ℕ) (from to : Numbers) (moves : List RsmMove) (n : ℕ) : Type 0 where
  pub numbers : AreNumbers from to (take n moves)
  pub sound : AreSound s k (take n moves)

pub take_one_more : (moves : List RsmMove) (n : ℕ) (m : RsmMove) → slice_get moves n ≡ Some m
    → take (n + 1) moves ≡ take n moves ++ m ∷ []
take_one_more moves n m stands =
    let within = slice_get_within moves n m stands in
    take_more moves n m within ∙ ap (λ x. take n moves ++ x ∷ []) (get_or_from_slice_get moves n m m stands)

pub one_more_indexed : (s k : ℕ) (from to from' to' : Numbers) (moves : List RsmMove) (n : ℕ) (m : RsmMove)
    → AreIndexed s k from to moves n → slice_get moves n ≡ Some m → move_fault_of s k (take n moves) m ≡ None
    → AreNumbers from' to' (take n moves ++ m ∷ []) → AreIndexed s k from' to' moves (n + 1)
one_more_indexed s k from to from' to' moves n m is stands none numbers =
    record {
      numbers = subst (AreNumbers from' to') (sym (take_one_more moves n m stands)) numbers;
      sound = subst (AreSound s k) (sym (take_one_more moves n m stands))
          (sound-push s k (take n moves) m is.sound none);
    }

pub checked-Ok : (o : Option MoveFault) (j : ℕ) (u : Unit {0}) → checked o j ≡ Ok u → o ≡ None
checked-Ok None j u h = refl
checked-Ok (Some out_of_range) j u h = absurd (cc)
checked-Ok (Some (same_domain i)) j u h = absurd (cc)
checked-Ok (Some (same_range i)) j u h = absurd (cc)

-- a fault that the test finds is the first of the list
pub refused_at : (s k : ℕ) (moves : List RsmMove) (n : ℕ) (m : RsmMove) → AreSound s k (take n moves)
    → slice_get moves n ≡ Some m → (refusal : RsmRefusal) → checked (move_fault_of s k (take n moves) m) (n + 1)
    ≡ Err refusal → IsMoveRefusal s k moves refusal
refused_at s k moves n m sound stands refusal h = by_fault (move_fault_of s k (take n moves) m) refl h
  where
    first : (fault : MoveFault) → move_fault_of s k (take n moves) m ≡ Some fault
        → IsFirstMoveFault s k moves (n + 1) fault
    first fault found =
        let e : (n + 1) - 1 ≡ n = omega arith in
        record { counted = omega arith; faulty = m; stands = rw e stands; here = rw e found; before = rw e sound }

    by_fault : (o : Option MoveFault) → move_fault_of s k (take n moves) m ≡ o → checked o (n + 1) ≡ Err refusal
        → IsMoveRefusal s k moves refusal
    by_fault None found h = absurd (cc)
    by_fault (Some out_of_range) found h = let same : Range (n + 1) ≡ refusal =
        cc in subst (IsMoveRefusal s k moves) same (first out_of_range found)
    by_fault (Some (same_domain i)) found h = let same : SameDomain i (n + 1) ≡ refusal =
        cc in subst (IsMoveRefusal s k moves) same (first (same_domain i) found)
    by_fault (Some (same_range i)) found h = let same : SameRange i (n + 1) ≡ refusal =
        cc in subst (IsMoveRefusal s k moves) same (first (same_range i) found)

-- ---- sound moves are not refused

go_by-apart : (ms : List RsmMove) (n q i : ℕ) (m : RsmMove) → go_by (map move_of ms) q i ≡ None
    → slice_get ms n ≡ Some m → leaves q i m ≡ false
go_by-apart [] n q i m none stands = absurd (cc)
go_by-apart (x ∷ ms) zero q i m none stands =
    let first = not_first (leaves q i x) (Some (x.next, x.out)) (go_by (map move_of ms) q i) (x.next, x.out) refl none
    in
    let same : x ≡ m = cc in
    subst (λ y. leaves q i y ≡ false) same first.0
go_by-apart (x ∷ ms) (suc n) q i m none stands =
    go_by-apart ms n q i m (not_first (leaves q i x) (Some (x.next, x.out)) (go_by (map move_of ms) q i) (x.next, x.out)
    refl none).1 stands

back_by-apart : (ms : List RsmMove) (n r o : ℕ) (m : RsmMove) → back_by (map move_of ms) r o ≡ None
    → slice_get ms n ≡ Some m → leads r o m ≡ false
back_by-apart [] n r o m none stands = absurd (cc)
back_by-apart (x ∷ ms) zero r o m none stands =
    let first = not_first (leads r o x) (Some (x.state, x.line)) (back_by (map move_of ms) r o) (x.state, x.line) refl
    none in
    let same : x ≡ m = cc in
    subst (λ y. leads r o y ≡ false) same first.0
back_by-apart (x ∷ ms) (suc n) r o m none stands =
    back_by-apart ms n r o m (not_first (leads r o x) (Some (x.state, x.line)) (back_by (map move_of ms) r o)
    (x.state, x.line) refl none).1 stands

no_earlier_from : (ms : List RsmMove) (n a : ℕ) (m : RsmMove) → AreOneToOne (map move_of ms) → slice_get ms n ≡ Some m
    → position_from (leaves m.state m.line) a (take n ms) ≡ None
no_earlier_from [] n a m apart stands = absurd (cc)
no_earlier_from (x ∷ ms) zero a m apart stands = refl
no_earlier_from (x ∷ ms) (suc n) a m apart stands =
    let other : leaves m.state m.line x ≡ false = turned_test m.state m.line x.state x.line
    (go_by-apart ms n x.state x.line m apart.0 stands) in
    rw other (no_earlier_from ms n (a + 1) m apart.2 stands)

no_earlier_to : (ms : List RsmMove) (n a : ℕ) (m : RsmMove) → AreOneToOne (map move_of ms) → slice_get ms n ≡ Some m
    → position_from (leads m.next m.out) a (take n ms) ≡ None
no_earlier_to [] n a m apart stands = absurd (cc)
no_earlier_to (x ∷ ms) zero a m apart stands = refl
no_earlier_to (x ∷ ms) (suc n) a m apart stands =
    let other : leads m.next m.out x ≡ false = turned_test m.next m.out x.next x.out
    (back_by-apart ms n x.next x.out m apart.1 stands) in
    rw other (no_earlier_to ms n (a + 1) m apart.2 stands)

within_at : (s k : ℕ) (ms : List RsmMove) (n : ℕ) (m : RsmMove) → AreWithin s k k (map move_of ms)
    → slice_get ms n ≡ Some m → is_within s k m ≡ true
within_at s k [] n m within stands = absurd (cc)
within_at s k (x ∷ ms) zero m within stands =
    let here : is_within s k x ≡ true = test_within s k x within.0 within.1 within.2 within.3 in
    let same : x ≡ m = cc in
    subst (λ y. is_within s k y ≡ true) same here
  where
    test_within : (s k : ℕ) (m : RsmMove) → m.state < s → m.line < k → m.next < s → m.out < k → is_within s k m ≡ true
    test_within s k m a b c d = grind (arith, nat_tests)
within_at s k (x ∷ ms) (suc n) m within stands = within_at s k ms n m within.4 stands

-- in sound moves no move has a fault
pub sound-faultless : (s k : ℕ) (ms : List RsmMove) (n : ℕ) (m : RsmMove) → AreSound s k ms → slice_get ms n ≡ Some m
    → move_fault_of s k (take n ms) m ≡ None
sound-faultless s k ms n m sound stands =
    rw (
      within_at s k ms n m sound.within stands,
      no_earlier_from ms n 1 m sound.one_to_one stands,
      no_earlier_to ms n 1 m sound.one_to_one stands,
    ) refl

not_at_fault : (s k : ℕ) (ms : List RsmMove) (j : ℕ) (fault : MoveFault) → AreSound s k ms
    → IsFirstMoveFault s k ms j fault → ⊥
not_at_fault s k ms j fault sound first =
    let none = sound-faultless s k ms (j - 1) first.faulty sound first.stands in
    let here = first.here in
    cc

pub sound-refusal : (s k : ℕ) (ms : List RsmMove) (refusal : RsmRefusal) → AreSound s k ms
    → IsMoveRefusal s k ms refusal → refusal ≡ NoMemory
sound-refusal s k ms (SameDomain i j) sound is = absurd (not_at_fault s k ms j (same_domain i) sound is)
sound-refusal s k ms (SameRange i j) sound is = absurd (not_at_fault s k ms j (same_range i) sound is)
sound-refusal s k ms (Range j) sound is = absurd (not_at_fault s k ms j out_of_range sound is)
sound-refusal s k ms NoMemory sound is = refl

-- ---- sound moves, or a first fault

-- a fault behind sound moves is refused
fault-refused : (s k : ℕ) (ms : List RsmMove) (n : ℕ) (m : RsmMove) (fault : MoveFault) → AreSound s k (take n ms)
    → slice_get ms n ≡ Some m → move_fault_of s k (take n ms) m ≡ Some fault
    → (a : RsmRefusal) × (a ≢ NoMemory) × IsMoveRefusal s k ms a
fault-refused s k ms n m out_of_range sound stands found =
    (Range (n + 1), (λ e. cc), refused_at s k ms n m sound stands (Range (n + 1)) (ap (λ o. checked o (n + 1)) found))
fault-refused s k ms n m (same_domain i) sound stands found = (
  SameDomain i (n + 1),
  (λ e. cc),
  refused_at s k ms n m sound stands (SameDomain i (n + 1)) (ap (λ o. checked o (n + 1)) found),
)
fault-refused s k ms n m (same_range i) sound stands found = (
  SameRange i (n + 1),
  (λ e. cc),
  refused_at s k ms n m sound stands (SameRange i (n + 1)) (ap (λ o. checked o (n + 1)) found),
)

first-moves : (s k : ℕ) (ms : List RsmMove) (n : ℕ) → n ≤ length ms
    → AreSound s k (take n ms) ⊎ ((a : RsmRefusal) × (a ≢ NoMemory) × IsMoveRefusal s k ms a)
first-moves s k ms zero h = inl (record { one_to_one = tt; within = tt })
first-moves s k ms (suc n) h = one-more (first-moves s k ms n (omega arith))
  where
    here : slice_get ms n ≡ Some (get_or ms n no_move)
    here = slice_get-get_or ms n no_move (omega arith)

    tested : (o : Option MoveFault) → move_fault_of s k (take n ms) (get_or ms n no_move) ≡ o → AreSound s k (take n ms)
        → AreSound s k (take (suc n) ms) ⊎ ((a : RsmRefusal) × (a ≢ NoMemory) × IsMoveRefusal s k ms a)
    tested None found sound =
        let count : n + 1 ≡ suc n = omega arith in
        inl (subst (λ j. AreSound s k (take j ms)) count (subst (AreSound s k)
        (sym (take_one_more ms n (get_or ms n no_move) here)) (sound-push s k (take n ms) (get_or ms n no_move)
        sound found)))
    tested (Some fault) found sound = inr (fault-refused s k ms n (get_or ms n no_move) fault sound here found)

    one-more : AreSound s k (take n ms) ⊎ ((a : RsmRefusal) × (a ≢ NoMemory) × IsMoveRefusal s k ms a)
        → AreSound s k (take (suc n) ms) ⊎ ((a : RsmRefusal) × (a ≢ NoMemory) × IsMoveRefusal s k ms a)
    one-more (inr refused) = inr refused
    one-more (inl sound) = tested (move_fault_of s k (take n ms) (get_or ms n no_move)) refl sound

pub sound-or-refused : (s k : ℕ) (ms : List RsmMove) → AreSound s k ms
    ⊎ ((a : RsmRefusal) × (a ≢ NoMemory) × IsMoveRefusal s k ms a)
sound-or-refused s k ms = subst (λ xs. AreSound s k xs ⊎ ((a : RsmRefusal) × (a ≢ NoMemory) × IsMoveRefusal s k ms a))
    (take-length ms) (first-moves s k ms (length ms) (omega arith))

-- ---- the moves turned round

pub go_by-turned : (ms : List RsmMove) (q i : ℕ) → go_by (map move_of (map turned ms)) q i
    ≡ back_by (map move_of ms) q i
go_by-turned [] q i = refl
go_by-turned (m ∷ ms) q i = ap (cond (m.next == q && m.out == i) (Some (m.state, m.line))) (go_by-turned ms q i)

pub back_by-turned : (ms : List RsmMove) (r o : ℕ) → back_by (map move_of (map turned ms)) r o
    ≡ go_by (map move_of ms) r o
back_by-turned [] r o = refl
back_by-turned (m ∷ ms) r o = ap (cond (m.state == r && m.line == o) (Some (m.next, m.out))) (back_by-turned ms r o)

turned-one_to_one : (ms : List RsmMove) → AreOneToOne (map move_of ms) → AreOneToOne (map move_of (map turned ms))
turned-one_to_one [] apart = tt
turned-one_to_one (m ∷ ms) apart = (
  go_by-turned ms m.next m.out ∙ apart.1,
  back_by-turned ms m.state m.line ∙ apart.0,
  turned-one_to_one ms apart.2,
)

turned-within : (s k : ℕ) (ms : List RsmMove) → AreWithin s k k (map move_of ms)
    → AreWithin s k k (map move_of (map turned ms))
turned-within s k [] within = tt
turned-within s k (m ∷ ms) within = (within.2, within.3, within.0, within.1, turned-within s k ms within.4)

pub sound-turned : (s k : ℕ) (ms : List RsmMove) → AreSound s k ms → AreSound s k (map turned ms)
sound-turned s k ms sound = record {
  one_to_one = turned-one_to_one ms sound.one_to_one;
  within = turned-within s k ms sound.within;
}

pub turned-backward : (m n : Machine) → n.moves ≡ map turned m.moves → IsBackward m n
turned-backward m n is =
    record {
      goes = λ r o. ap (λ ms. go_by (map move_of ms) r o) is ∙ go_by-turned m.moves r o;
      comes = λ q i. ap (λ ms. back_by (map move_of ms) q i) is ∙ back_by-turned m.moves q i;
    }

-- ---- a first fault is the only one

slice_get-take : (ms : List RsmMove) (n t : ℕ) → n < t → slice_get (take t ms) n ≡ slice_get ms n
slice_get-take ms n zero below = absurd (omega arith)
slice_get-take [] n (suc t) below = refl
slice_get-take (m ∷ ms) zero (suc t) below = refl
slice_get-take (m ∷ ms) (suc n) (suc t) below = slice_get-take ms n t (omega arith)

take-take : (ms : List RsmMove) (n t : ℕ) → n ≤ t → take n (take t ms) ≡ take n ms
take-take ms zero t within = refl
take-take ms (suc n) zero within = absurd (omega arith)
take-take [] (suc n) (suc t) within = refl
take-take (m ∷ ms) (suc n) (suc t) within = ap (λ xs. m ∷ xs) (take-take ms n t (omega arith))

not_before : (s k : ℕ) (ms : List RsmMove) (i j : ℕ) (f g : MoveFault) → IsFirstMoveFault s k ms i f
    → IsFirstMoveFault s k ms j g → i < j → ⊥
not_before s k ms i j f g first second below =
    let counted : 0 < i = first.counted in
    let earlier : i - 1 < j - 1 = omega arith in
    let stands = slice_get-take ms (i - 1) (j - 1) earlier ∙ first.stands in
    let none = sound-faultless s k (take (j - 1) ms) (i - 1) first.faulty second.before stands in
    let same = take-take ms (i - 1) (j - 1) (omega arith) in
    let none' : move_fault_of s k (take (i - 1) ms) first.faulty ≡ None =
    subst (λ xs. move_fault_of s k xs first.faulty ≡ None) same none in
    let here = first.here in
    cc

first_once : (s k : ℕ) (ms : List RsmMove) (i j : ℕ) (f g : MoveFault) → IsFirstMoveFault s k ms i f
    → IsFirstMoveFault s k ms j g → (i ≡ j) × (f ≡ g)
first_once s k ms i j f g first second =
    let below = not_before s k ms i j f g first second in
    let above = not_before s k ms j i g f second first in
    let same : i ≡ j = grind (arith, nat_tests, below, above) in
    (same, same_fault (subst (λ x. IsFirstMoveFault s k ms x f) same first))
  where
    same_fault : IsFirstMoveFault s k ms j f → f ≡ g
    same_fault at_j =
        let faulty : at_j.faulty ≡ second.faulty = (let a = at_j.stands in let b = second.stands in cc) in
        let here : move_fault_of s k (take (j - 1) ms) second.faulty ≡ Some f =
        subst (λ m. move_fault_of s k (take (j - 1) ms) m ≡ Some f) faulty at_j.here in
        let there = second.here in
        cc

pub refusal_once : (s k : ℕ) (ms : List RsmMove) (a b : RsmRefusal) → IsMoveRefusal s k ms a → IsMoveRefusal s k ms b
    → a ≢ NoMemory → b ≢ NoMemory → a ≡ b
refusal_once s k ms NoMemory b is_a is_b not_a not_b = absurd (not_a refl)
refusal_once s k ms (SameDomain i j) NoMemory is_a is_b not_a not_b = absurd (not_b refl)
refusal_once s k ms (SameRange i j) NoMemory is_a is_b not_a not_b = absurd (not_b refl)
refusal_once s k ms (Range j) NoMemory is_a is_b not_a not_b = absurd (not_b refl)
refusal_once s k ms (SameDomain i j) (SameDomain x y) is_a is_b not_a not_b = let e =
    first_once s k ms j y (same_domain i) (same_domain x) is_a is_b in cc
refusal_once s k ms (SameDomain i j) (SameRange x y) is_a is_b not_a not_b = let e =
    first_once s k ms j y (same_domain i) (same_range x) is_a is_b in cc
refusal_once s k ms (SameDomain i j) (Range y) is_a is_b not_a not_b = let e =
    first_once s k ms j y (same_domain i) out_of_range is_a is_b in cc
refusal_once s k ms (SameRange i j) (SameDomain x y) is_a is_b not_a not_b = let e =
    first_once s k ms j y (same_range i) (same_domain x) is_a is_b in cc
refusal_once s k ms (SameRange i j) (SameRange x y) is_a is_b not_a not_b = let e =
    first_once s k ms j y (same_range i) (same_range x) is_a is_b in cc
refusal_once s k ms (SameRange i j) (Range y) is_a is_b not_a not_b = let e =
    first_once s k ms j y (same_range i) out_of_range is_a is_b in cc
refusal_once s k ms (Range j) (SameDomain x y) is_a is_b not_a not_b = let e =
    first_once s k ms j y out_of_range (same_domain x) is_a is_b in cc
refusal_once s k ms (Range j) (SameRange x y) is_a is_b not_a not_b = let e =
    first_once s k ms j y out_of_range (same_range x) is_a is_b in cc
refusal_once s k ms (Range j) (Range y) is_a is_b not_a not_b = let e =
    first_once s k ms j y out_of_range out_of_range is_a is_b in cc
