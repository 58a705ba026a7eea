-- What the quadruples show, one after another, and how many of it is new.
use Rattle.std.proofs.Common.{◌≡◌, ◌⊎◌, inl, inr, slice_get, get_or, ℕ, suc, ◌+◌, ◌<◌, ◌≤◌, List, [], length, true}
use Rattle.std.proofs.Common.{false, Option, is_some, Some, None, refl, sym, ap, subst, ◌∙◌, arith}
use Rattle.std.proofs.lemmas.Bool.Decides.{eqb_tells}
use Rattle.std.proofs.lemmas.Option.{slice_get-get_or, get_or_from_slice_get}
use Rattle.bn_machine.specs.declared.quint.Shift.TheVariants as way
use Rattle.bn_quad.specs.declared.quad.Quad.{Quad}
use Rattle.bn_quad.specs.declared.quad.Act.{Act}
use Rattle.bn_quad.specs.declared.quad.Act.TheVariants.{Write, Shift}
use Rattle.bn_quad.specs.Kept.{read_at, act_at}
use Rattle.bn_network.specs.Controls.{ControlState, Reads, Shifts, Writes}
use Rattle.bn_control.specs.Shown.{IsCount, in_row, written, shifts_in, IsReadState, IsShiftState, IsWriteState}
use Rattle.bn_control.specs.Shown.{ShowsRead, ShowsShift, ShowsWrite, Shows, IsShownBefore, IsNew}
use Rattle.bn_control.proofs.CountLemmas.{none_count, one_count, same_count, both_count, decided}

-- ---- reads, shifts and writes are states of three kinds

abbrev pub kind : ControlState → ℕ
kind (Reads a s) = 1
kind (Shifts n t) = 2
kind (Writes a t u) = 3
kind _ = 0

one_read : (a : ℕ) (b : List ℕ) (o : Option ℕ) (q : ControlState) → IsReadState a b o q → q ≡ Reads a b
one_read a b None q h = absurd h
one_read a b (Some c) q h = h

one_shift : (n t : ℕ) (act : Act) (q : ControlState) → IsShiftState n t act q → q ≡ Shifts n t
one_shift n t (Write c) q h = absurd h
one_shift n t (Shift way.Left) q h = h
one_shift n t (Shift way.Stay) q h = absurd h
one_shift n t (Shift way.Right) q h = h

one_write : (a t : ℕ) (u : List ℕ) (o : Option ℕ) (q : ControlState) → IsWriteState a t u o q → q ≡ Writes a t u
one_write a t u None q h = absurd h
one_write a t u (Some c) q h = h

read_kind : (quad : Quad) (q : ControlState) → ShowsRead quad q → kind q ≡ 1
read_kind quad q (inl h) = ap kind (one_read _ _ _ q h)
read_kind quad q (inr (inl h)) = ap kind (one_read _ _ _ q h)
read_kind quad q (inr (inr h)) = ap kind (one_read _ _ _ q h)

shift_kind : (n : ℕ) (quad : Quad) (q : ControlState) → ShowsShift n quad q → kind q ≡ 2
shift_kind n quad q (inl h) = ap kind (one_shift _ _ _ q h)
shift_kind n quad q (inr (inl h)) = ap kind (one_shift _ _ _ q h)
shift_kind n quad q (inr (inr h)) = ap kind (one_shift _ _ _ q h)

write_kind : (quad : Quad) (q : ControlState) → ShowsWrite quad q → kind q ≡ 3
write_kind quad q (inl h) = ap kind (one_write _ _ _ _ q h)
write_kind quad q (inr (inl h)) = ap kind (one_write _ _ _ _ q h)
write_kind quad q (inr (inr h)) = ap kind (one_write _ _ _ _ q h)

pub only_read : (n : ℕ) (quad : Quad) (a : ℕ) (b : List ℕ) → Shows n quad (Reads a b) → ShowsRead quad (Reads a b)
only_read n quad a b (inl h) = h
only_read n quad a b (inr (inl h)) = absurd (let k = shift_kind n quad (Reads a b) h in omega arith)
only_read n quad a b (inr (inr h)) = absurd (let k = write_kind quad (Reads a b) h in omega arith)

pub only_write : (n : ℕ) (quad : Quad) (a t : ℕ) (u : List ℕ) → Shows n quad (Writes a t u)
    → ShowsWrite quad (Writes a t u)
only_write n quad a t u (inl h) = absurd (let k = read_kind quad (Writes a t u) h in omega arith)
only_write n quad a t u (inr (inl h)) = absurd (let k = shift_kind n quad (Writes a t u) h in omega arith)
only_write n quad a t u (inr (inr h)) = h

pub read_from : (quad : Quad) (a : ℕ) (b : List ℕ) → ShowsRead quad (Reads a b) → quad.state ≡ a
read_from quad a b (inl h) = let e = one_read _ _ _ (Reads a b) h in cc
read_from quad a b (inr (inl h)) = let e = one_read _ _ _ (Reads a b) h in cc
read_from quad a b (inr (inr h)) = let e = one_read _ _ _ (Reads a b) h in cc

pub not_zero : (n : ℕ) (quad : Quad) (q : ControlState) → Shows n quad q → kind q ≡ 0 → ⊥
not_zero n quad q (inl h) e = let k = read_kind quad q h in omega arith
not_zero n quad q (inr (inl h)) e = let k = shift_kind n quad q h in omega arith
not_zero n quad q (inr (inr h)) e = let k = write_kind quad q h in omega arith

-- ---- one quadruple more

pub shown_here : (quads : List Quad) (k : ℕ) (quad : Quad) (q : ControlState) → slice_get quads k ≡ Some quad
    → Shows (suc k) quad q → IsShownBefore quads (suc k) q
shown_here quads k quad q e h = record { index = k; quad = quad; low = omega arith; stands = e; shows = h }

pub shown_longer : (quads : List Quad) (k l : ℕ) (q : ControlState) → k ≤ l → IsShownBefore quads k q
    → IsShownBefore quads l q
shown_longer quads k l q more h = let low = h.low in record {
  index = h.index;
  quad = h.quad;
  low = omega arith;
  stands = h.stands;
  shows = h.shows;
}

pub of_shown : (quads : List Quad) (k : ℕ) (quad : Quad) (q : ControlState) → slice_get quads k ≡ Some quad
    → IsShownBefore quads (suc k) q → IsShownBefore quads k q ⊎ Shows (suc k) quad q
of_shown quads k quad q e h = elim (eqb_tells h.index k) [
  | inl same ↦ (
      let is = same.1 in
      let stands : slice_get quads k ≡ Some h.quad = ap (slice_get quads) (sym is) ∙ h.stands in
      let one : h.quad ≡ quad = cc in
      inr (subst (λ v. Shows (suc k) v q) one (subst (λ i. Shows (suc i) h.quad q) is h.shows)))
  | inr other ↦ (let low = h.low in let ne = other.1 in inl (record
      { index = h.index; quad = h.quad; low = omega arith; stands = h.stands; shows = h.shows }))
]

pub not_shown : (quads : List Quad) (k : ℕ) (quad : Quad) (q : ControlState) → slice_get quads k ≡ Some quad
    → (IsShownBefore quads k q → ⊥) → (Shows (suc k) quad q → ⊥) → IsShownBefore quads (suc k) q → ⊥
not_shown quads k quad q e old now h = elim (of_shown quads k quad q e h) [ inl a ↦ old a | inr b ↦ now b ]

-- ---- new states of two kinds

pub both_new : (quads : List Quad) (k : ℕ) (P Q : ControlState → Type 0) (n l : ℕ)
    → ((q : ControlState) → P q → Q q → ⊥) → IsCount (IsNew quads k P) n → IsCount (IsNew quads k Q) l
    → IsCount (IsNew quads k (λ q. P q ⊎ Q q)) (n + l)
both_new quads k P Q n l far a b =
    same_count (λ q. IsNew quads k P q ⊎ IsNew quads k Q q) (IsNew quads k (λ q. P q ⊎ Q q)) (n + l) forth back
    (both_count (IsNew quads k P) (IsNew quads k Q) n l (λ q h g. far q h.is g.is) a b)
  where
    forth : (q : ControlState) → IsNew quads k P q ⊎ IsNew quads k Q q → IsNew quads k (λ q. P q ⊎ Q q) q
    forth q (inl h) = record { is = inl h.is; new = h.new }
    forth q (inr h) = record { is = inr h.is; new = h.new }

    back : (q : ControlState) → IsNew quads k (λ q. P q ⊎ Q q) q → IsNew quads k P q ⊎ IsNew quads k Q q
    back q h = by h.is
      where
        by : P q ⊎ Q q → IsNew quads k P q ⊎ IsNew quads k Q q
        by (inl is) = inl (record { is = is; new = h.new })
        by (inr is) = inr (record { is = is; new = h.new })

-- a kind of one state, that is new or not
pub new_one : (quads : List Quad) (k : ℕ) (P : ControlState → Type 0) (x : ControlState) → P x
    → ((q : ControlState) → P q → q ≡ x) → (IsShownBefore quads k x → ⊥) → IsCount (IsNew quads k P) 1
new_one quads k P x is only new = one_count (IsNew quads k P) x (record { is = is; new = new }) (λ q h. only q h.is)

pub old_one : (quads : List Quad) (k : ℕ) (P : ControlState → Type 0) (x : ControlState)
    → ((q : ControlState) → P q → q ≡ x) → IsShownBefore quads k x → IsCount (IsNew quads k P) 0
old_one quads k P x only old = none_count (IsNew quads k P) (λ q h. h.new
    (subst (IsShownBefore quads k) (sym (only q h.is)) old))

-- a read, a write
pub read_new : (quads : List Quad) (k a : ℕ) (b : List ℕ) (o : Option ℕ) → is_some o ≡ true
    → (IsShownBefore quads k (Reads a b) → ⊥) → IsCount (IsNew quads k (IsReadState a b o)) 1
read_new quads k a b None some new = absurd (cc)
read_new quads k a b (Some c) some new = new_one quads k (IsReadState a b (Some c)) (Reads a b) refl (λ q h. h) new

pub read_old : (quads : List Quad) (k a : ℕ) (b : List ℕ) (o : Option ℕ) → IsShownBefore quads k (Reads a b)
    → IsCount (IsNew quads k (IsReadState a b o)) 0
read_old quads k a b o old = old_one quads k (IsReadState a b o) (Reads a b) (one_read a b o) old

pub read_none : (quads : List Quad) (k a : ℕ) (b : List ℕ) (o : Option ℕ) → is_some o ≡ false
    → IsCount (IsNew quads k (IsReadState a b o)) 0
read_none quads k a b None none = none_count (IsNew quads k (IsReadState a b None)) (λ q h. h.is)
read_none quads k a b (Some c) none = absurd (cc)

pub write_new : (quads : List Quad) (k a t : ℕ) (u : List ℕ) (o : Option ℕ) → is_some o ≡ true
    → (IsShownBefore quads k (Writes a t u) → ⊥) → IsCount (IsNew quads k (IsWriteState a t u o)) 1
write_new quads k a t u None some new = absurd (cc)
write_new quads k a t u (Some c) some new = new_one quads k (IsWriteState a t u (Some c)) (Writes a t u) refl (λ q h. h)
    new

pub write_old : (quads : List Quad) (k a t : ℕ) (u : List ℕ) (o : Option ℕ) → IsShownBefore quads k (Writes a t u)
    → IsCount (IsNew quads k (IsWriteState a t u o)) 0
write_old quads k a t u o old = old_one quads k (IsWriteState a t u o) (Writes a t u) (one_write a t u o) old

pub write_none : (quads : List Quad) (k a t : ℕ) (u : List ℕ) (o : Option ℕ) → is_some o ≡ false
    → IsCount (IsNew quads k (IsWriteState a t u o)) 0
write_none quads k a t u None none = none_count (IsNew quads k (IsWriteState a t u None)) (λ q h. h.is)
write_none quads k a t u (Some c) none = absurd (cc)

-- a shift
pub shift_counted : (n t : ℕ) (act : Act) → IsCount (IsShiftState n t act) (shifts_in act)
shift_counted n t (Write c) = none_count (IsShiftState n t (Write c)) (λ q h. h)
shift_counted n t (Shift way.Left) = one_count (IsShiftState n t (Shift way.Left)) (Shifts n t) refl (λ q h. h)
shift_counted n t (Shift way.Stay) = none_count (IsShiftState n t (Shift way.Stay)) (λ q h. h)
shift_counted n t (Shift way.Right) = one_count (IsShiftState n t (Shift way.Right)) (Shifts n t) refl (λ q h. h)

-- ---- those of one quadruple

-- the three tapes' shifts are three states
abbrev tape_of : ControlState → ℕ
tape_of (Shifts n t) = t
tape_of (Writes a t u) = t
tape_of _ = 0

shifts_count : (n : ℕ) (one two three : Act) → IsCount (λ q. IsShiftState n 1 one q
    ⊎ (IsShiftState n 2 two q ⊎ IsShiftState n 3 three q)) (shifts_in one + shifts_in two + shifts_in three)
shifts_count n one two three =
    let sum : shifts_in one + (shifts_in two + shifts_in three) ≡ shifts_in one + shifts_in two + shifts_in three =
    omega arith in
    subst (IsCount (λ q. IsShiftState n 1 one q ⊎ (IsShiftState n 2 two q ⊎ IsShiftState n 3 three q))) sum
    (both_count (IsShiftState n 1 one) (λ q. IsShiftState n 2 two q ⊎ IsShiftState n 3 three q) (shifts_in one)
    (shifts_in two + shifts_in three) far (shift_counted n 1 one)
    (both_count (IsShiftState n 2 two) (IsShiftState n 3 three) (shifts_in two) (shifts_in three)
    (λ q h g. let x = ap tape_of (one_shift _ _ _ q h) in let y = ap tape_of (one_shift _ _ _ q g) in omega arith)
    (shift_counted n 2 two) (shift_counted n 3 three)))
  where
    far : (q : ControlState) → IsShiftState n 1 one q → IsShiftState n 2 two q ⊎ IsShiftState n 3 three q → ⊥
    far q h (inl g) = let x = ap tape_of (one_shift _ _ _ q h) in let y =
        ap tape_of (one_shift _ _ _ q g) in omega arith
    far q h (inr g) = let x = ap tape_of (one_shift _ _ _ q h) in let y =
        ap tape_of (one_shift _ _ _ q g) in omega arith

-- what stands at a place, whatever would stand past the end
same_at : {A : Type 0} (l : List A) (i : ℕ) (d e : A) → i < length l → get_or l i d ≡ get_or l i e
same_at l i d e low = sym (get_or_from_slice_get l i (get_or l i d) e (slice_get-get_or l i d low))

pub shifts_at : (n : ℕ) (quad : Quad) (d : Act) (a b c : ℕ) → length quad.act ≡ 3 → a ≡ shifts_in (get_or quad.act 0 d)
    → b ≡ shifts_in (get_or quad.act 1 d) → c ≡ shifts_in (get_or quad.act 2 d)
    → IsCount (ShowsShift n quad) (a + b + c)
shifts_at n quad d a b c long first second third =
    let x = first ∙ ap shifts_in (same_at quad.act 0 d (Shift way.Stay) (omega arith)) in
    let y = second ∙ ap shifts_in (same_at quad.act 1 d (Shift way.Stay) (omega arith)) in
    let z = third ∙ ap shifts_in (same_at quad.act 2 d (Shift way.Stay) (omega arith)) in
    let sum : shifts_in (act_at quad 0) + shifts_in (act_at quad 1) + shifts_in (act_at quad 2) ≡ a + b + c =
    omega arith in
    subst (IsCount (ShowsShift n quad)) sum (shifts_count n (act_at quad 0) (act_at quad 1) (act_at quad 2))

pub writes_count : (quads : List Quad) (k : ℕ) (to : ℕ) (one two three : Option ℕ) (u v w : List ℕ) (a b c : ℕ)
    → IsCount (IsNew quads k (IsWriteState to 1 u one)) a → IsCount (IsNew quads k (IsWriteState to 2 v two)) b
    → IsCount (IsNew quads k (IsWriteState to 3 w three)) c
    → IsCount (IsNew quads k (λ q. IsWriteState to 1 u one q ⊎ (IsWriteState to 2 v two q
    ⊎ IsWriteState to 3 w three q))) (a + b + c)
writes_count quads k to one two three u v w a b c first second third =
    let sum : a + (b + c) ≡ a + b + c = omega arith in
    subst (IsCount (IsNew quads k (λ q. IsWriteState to 1 u one q
    ⊎ (IsWriteState to 2 v two q ⊎ IsWriteState to 3 w three q)))) sum
    (both_new quads k (IsWriteState to 1 u one) (λ q. IsWriteState to 2 v two q ⊎ IsWriteState to 3 w three q) a (b + c)
    far first
    (both_new quads k (IsWriteState to 2 v two) (IsWriteState to 3 w three) b c
    (λ q h g. let x = ap tape_of (one_write _ _ _ _ q h) in let y = ap tape_of (one_write _ _ _ _ q g) in omega
    arith) second third))
  where
    far : (q : ControlState) → IsWriteState to 1 u one q → IsWriteState to 2 v two q ⊎ IsWriteState to 3 w three q → ⊥
    far q h (inl g) = let x = ap tape_of (one_write _ _ _ _ q h) in let y =
        ap tape_of (one_write _ _ _ _ q g) in omega arith
    far q h (inr g) = let x = ap tape_of (one_write _ _ _ _ q h) in let y =
        ap tape_of (one_write _ _ _ _ q g) in omega arith

-- what a quadruple shows on the way into this state, by what its acts write
pub writes_same : (quad : Quad) (d : Act) (to : ℕ) (one two three : Option ℕ) (u v w : List ℕ) → length quad.act ≡ 3
    → quad.next ≡ to → one ≡ written (get_or quad.act 0 d) → two ≡ written (get_or quad.act 1 d)
    → three ≡ written (get_or quad.act 2 d) → u ≡ [] → v ≡ in_row one None → w ≡ in_row two one
    → ◌≡◌ {A = ControlState → Type 0} (λ q. IsWriteState to 1 u one q
    ⊎ (IsWriteState to 2 v two q ⊎ IsWriteState to 3 w three q)) (ShowsWrite quad)
writes_same quad d to one two three u v w long next x y z f g h =
    let x' : one ≡ written (act_at quad 0) = x ∙ ap written (same_at quad.act 0 d (Shift way.Stay) (omega arith)) in
    let y' : two ≡ written (act_at quad 1) = y ∙ ap written (same_at quad.act 1 d (Shift way.Stay) (omega arith)) in
    let z' : three ≡ written (act_at quad 2) = z ∙ ap written (same_at quad.act 2 d (Shift way.Stay) (omega arith)) in
    let g' : v ≡ in_row (written (act_at quad 0)) None = g ∙ ap (λ o. in_row o None) x' in
    let h' : w ≡ in_row (written (act_at quad 1)) (written (act_at quad 0)) = h ∙ (λ i. in_row (y' i) (x' i)) in
    let to' : to ≡ quad.next = sym next in
    λ i q. IsWriteState (to' i) 1 (f i) (x' i) q
    ⊎ (IsWriteState (to' i) 2 (g' i) (y' i) q ⊎ IsWriteState (to' i) 3 (h' i) (z' i) q)

-- the reads differ by how many symbols they come after
abbrev after : ControlState → ℕ
after (Reads a s) = length s
after _ = 0

first_far : (a : ℕ) (one two three : Option ℕ) (q : ControlState) → IsReadState a [] one q
    → IsReadState a (in_row one None) two q ⊎ IsReadState a (in_row one two) three q → ⊥
first_far a None two three q h g = h
first_far a (Some x) two three q h (inl g) = let e = ap after h in let d =
    ap after (one_read _ _ two q g) in omega arith
first_far a (Some x) None three q h (inr g) = let e = ap after h in let d =
    ap after (one_read _ _ three q g) in omega arith
first_far a (Some x) (Some y) three q h (inr g) = let e = ap after h in let d =
    ap after (one_read _ _ three q g) in omega arith

second_far : (a : ℕ) (one two three : Option ℕ) (q : ControlState) → IsReadState a (in_row one None) two q
    → IsReadState a (in_row one two) three q → ⊥
second_far a one None three q h g = h
second_far a None (Some y) three q h g = let e = ap after h in let d = ap after (one_read _ _ three q g) in omega arith
second_far a (Some x) (Some y) three q h g = let e = ap after h in let d =
    ap after (one_read _ _ three q g) in omega arith

pub reads_count : (quads : List Quad) (k a : ℕ) (one two three : Option ℕ) (l m n : ℕ)
    → IsCount (IsNew quads k (IsReadState a [] one)) l → IsCount (IsNew quads k (IsReadState a (in_row one None) two)) m
    → IsCount (IsNew quads k (IsReadState a (in_row one two) three)) n
    → IsCount (IsNew quads k (λ q. IsReadState a [] one q ⊎ (IsReadState a (in_row one None) two q
    ⊎ IsReadState a (in_row one two) three q))) (l + m + n)
reads_count quads k a one two three l m n first second third =
    let sum : l + (m + n) ≡ l + m + n = omega arith in
    subst (IsCount (IsNew quads k (λ q. IsReadState a [] one q
    ⊎ (IsReadState a (in_row one None) two q ⊎ IsReadState a (in_row one two) three q)))) sum
    (both_new quads k (IsReadState a [] one) (λ q. IsReadState a (in_row one None) two q
    ⊎ IsReadState a (in_row one two) three q) l (m + n) (first_far a one two three) first
    (both_new quads k (IsReadState a (in_row one None) two) (IsReadState a (in_row one two) three) m n
    (second_far a one two three) second third))

-- what a quadruple of this state shows at its reads
pub reads_same : (quad : Quad) (from : ℕ) (u v w : List ℕ) → quad.state ≡ from → u ≡ []
    → v ≡ in_row (read_at quad 0) None → w ≡ in_row (read_at quad 0) (read_at quad 1)
    → ◌≡◌ {A = ControlState → Type 0} (λ q. IsReadState from u (read_at quad 0) q
    ⊎ (IsReadState from v (read_at quad 1) q ⊎ IsReadState from w (read_at quad 2) q)) (ShowsRead quad)
reads_same quad from u v w state f g h =
    let from' : from ≡ quad.state = sym state in
    λ i q. IsReadState (from' i) (f i) (read_at quad 0) q
    ⊎ (IsReadState (from' i) (g i) (read_at quad 1) q ⊎ IsReadState (from' i) (h i) (read_at quad 2) q)

pub reads_at : (quads : List Quad) (k : ℕ) (quad : Quad) (l m n : ℕ) (u v w : List ℕ)
    → u ≡ [] → v ≡ in_row (read_at quad 0) None → w ≡ in_row (read_at quad 0) (read_at quad 1)
    → IsCount (IsNew quads k (IsReadState quad.state u (read_at quad 0))) l
    → IsCount (IsNew quads k (IsReadState quad.state v (read_at quad 1))) m
    → IsCount (IsNew quads k (IsReadState quad.state w (read_at quad 2))) n
    → IsCount (IsNew quads k (ShowsRead quad)) (l + m + n)
reads_at quads k quad l m n u v w f g h first second third =
    reads_count quads k quad.state (read_at quad 0) (read_at quad 1) (read_at quad 2) l m n (turn 0 u [] l f first)
    (turn 1 v _ m g second) (turn 2 w _ n h third)
  where
    turn : (t : ℕ) (p q : List ℕ) (m : ℕ) → p ≡ q → IsCount (IsNew quads k (IsReadState quad.state p (read_at quad t)))
        m → IsCount (IsNew quads k (IsReadState quad.state q (read_at quad t))) m
    turn t p q m e count = subst (λ s. IsCount (IsNew quads k (IsReadState quad.state s (read_at quad t))) m) e count

-- shifts of this quadruple are in no earlier one
abbrev number_of : ControlState → ℕ
number_of (Shifts n t) = n
number_of _ = 0

shift_number : (n : ℕ) (quad : Quad) (q : ControlState) → ShowsShift n quad q → number_of q ≡ n
shift_number n quad q (inl h) = ap number_of (one_shift _ _ _ q h)
shift_number n quad q (inr (inl h)) = ap number_of (one_shift _ _ _ q h)
shift_number n quad q (inr (inr h)) = ap number_of (one_shift _ _ _ q h)

pub shifts_new : (quads : List Quad) (k : ℕ) (quad : Quad) (n : ℕ) → IsCount (ShowsShift (suc k) quad) n
    → IsCount (IsNew quads k (ShowsShift (suc k) quad)) n
shifts_new quads k quad n c = same_count (ShowsShift (suc k) quad) (IsNew quads k (ShowsShift (suc k) quad)) n
    (λ q h. record { is = h; new = new q h }) (λ q h. h.is) c
  where
    new : (q : ControlState) → ShowsShift (suc k) quad q → IsShownBefore quads k q → ⊥
    new q h old = by old.shows
      where
        by : Shows (suc old.index) old.quad q → ⊥
        by (inl g) = let x = shift_kind (suc k) quad q h in let y = read_kind old.quad q g in omega arith
        by (inr (inl g)) = let low = old.low in let x = shift_number (suc k) quad q h in let y =
            shift_number (suc old.index) old.quad q g in omega arith
        by (inr (inr g)) = let x = shift_kind (suc k) quad q h in let y = write_kind old.quad q g in omega arith

pub states_count : (quads : List Quad) (k : ℕ) (quad : Quad) (l m n : ℕ) → IsCount (IsNew quads k (ShowsRead quad)) l
    → IsCount (ShowsShift (suc k) quad) m → IsCount (IsNew quads k (ShowsWrite quad)) n
    → IsCount (IsNew quads k (Shows (suc k) quad)) (l + m + n)
states_count quads k quad l m n first second third =
    let sum : l + (m + n) ≡ l + m + n = omega arith in
    subst (IsCount (IsNew quads k (Shows (suc k) quad))) sum
    (both_new quads k (ShowsRead quad) (λ q. ShowsShift (suc k) quad q ⊎ ShowsWrite quad q) l (m + n) far first
    (both_new quads k (ShowsShift (suc k) quad) (ShowsWrite quad) m n
    (λ q h g. let x = shift_kind (suc k) quad q h in let y = write_kind quad q g in omega arith)
    (shifts_new quads k quad m second) third))
  where
    far : (q : ControlState) → ShowsRead quad q → ShowsShift (suc k) quad q ⊎ ShowsWrite quad q → ⊥
    far q h (inl g) = let x = read_kind quad q h in let y = shift_kind (suc k) quad q g in omega arith
    far q h (inr g) = let x = read_kind quad q h in let y = write_kind quad q g in omega arith

-- ---- all of them

pub shown_more : (quads : List Quad) (k : ℕ) (quad : Quad) (n l : ℕ) → slice_get quads k ≡ Some quad
    → IsCount (IsShownBefore quads k) n → IsCount (IsNew quads k (Shows (suc k) quad)) l
    → IsCount (IsShownBefore quads (suc k)) (n + l)
shown_more quads k quad n l e old new =
    in_all (both_count (IsShownBefore quads k) (IsNew quads k (Shows (suc k) quad)) n l (λ q h g. g.new h) old new)
  where
    forth : (q : ControlState) → IsShownBefore quads k q ⊎ IsNew quads k (Shows (suc k) quad) q
        → IsShownBefore quads (suc k) q
    forth q (inl h) = shown_longer quads k (suc k) q (omega arith) h
    forth q (inr h) = shown_here quads k quad q e h.is

    in_all : IsCount (λ q. IsShownBefore quads k q ⊎ IsNew quads k (Shows (suc k) quad) q) (n + l)
        → IsCount (IsShownBefore quads (suc k)) (n + l)
    in_all c = record {
      names = c.names;
      each = λ q h. elim (of_shown quads k quad q e h) [ inl a ↦ c.each q (inl a) | inr b ↦ second q b ];
      only = λ i q d. forth q (c.only i q d);
      once = c.once;
      counted = c.counted;
    }
      where
        second : (q : ControlState) → Shows (suc k) quad q → (i : ℕ) × (slice_get c.names i ≡ Some q)
        second q h = elim (decided (IsShownBefore quads k) n old q)
            [ inl a ↦ c.each q (inl a) | inr later ↦ c.each q (inr (record { is = h; new = later })) ]

pub stands_at : (quads : List Quad) (k : ℕ) (d : Quad) → k < length quads → slice_get quads k ≡ Some (get_or quads k d)
stands_at quads k d low = slice_get-get_or quads k d low

-- the quadruple that is said to stand past the end of a list
abbrev pub empty : Quad
empty = record { state = 0; read = []; act = []; next = 0 }
