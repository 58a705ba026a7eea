-- A tape of a stage, and the tape without ends that it stands for.
use Rattle.std.specs.Prelude.{◌≡◌, ◌≢◌, ◌↔◌, ℕ, ◌+◌, ◌<◌, ◌≤◌, ◌⊎◌, ℤ, pos, ◌+ℤ◌, ◌-ℤ◌, ◌≤ℤ◌, List, length, take, min}
use Rattle.std.specs.Prelude.{max, All, Bool, true, zero, suc, negsuc, refl}
use Rattle.std.proofs.Common.{arith, get_or, inl, inr, sym, subst, ap, ◌∙◌}
use Rattle.std.proofs.lemmas.Int.{ints}
use Rattle.std.proofs.lemmas.Bool.{cases_lt}
use Rattle.std.proofs.lemmas.List.{get_or-take, get_or_past, length-take}
use Rattle.bn_machine.specs.Tape.{Tape, cell, letter_at, moved, scanned, word_tape, write}
use Rattle.bn_machine.specs.Window.{IsWindowed, Windowed, new_window, with_tape}
use Rattle.bn_machine.specs.declared.quint.Shift.TheVariants as shifts
use Rattle.bn_machine.specs.declared.tape.TheConstants.Tape.{GREATEST_SIDE}
use Rattle.bn_machine.proofs.TapeLemmas.{at_set_cell, cell-word, cell-write_beside}
use Rattle.bn_base.specs.declared.limits.TheConstants.{MOST_COUNT}
use Rattle.bn_quad.specs.Quadruples.{Deed, IsDeedInRange, Move, Rewrite, done}
use Rattle.bn_reply_traces.specs.Extents.{IsFirst, IsLast}
use Rattle.bn_reply_machines.specs.Opened.{IsWordOn}
use Rattle.bn_reply_traces.specs.QuadStages.{IsClear, IsStepped, IsTapeStage, IsWide}
use Rattle.bn_reply_traces.specs.Stages.{AreBelow, IsMoved, IsWithin, StandsFor}
use Rattle.bn_reply_traces.specs.declared.extent.Extent.{Extent}
use Rattle.bn_reply_traces.proofs.ExtentLemmas.{first_of_word, marked_within, same_or_not}
use Rattle.bn_reply_traces.proofs.MomentLemmas.{begins_within, cells_below, ends_within}

-- ---- the start

-- how many letters of a word stand on the tape, and how far the tape reaches to the right
abbrev held : List ℕ → ℕ
held word = min GREATEST_SIDE (length word)

abbrev right_of : List ℕ → ℕ → ℕ
right_of word n = max (held word) (n + 2)

abbrev pub wide_window : List ℕ → ℕ → Windowed
wide_window word n = new_window (n + 2) (right_of word n) (take (held word) word)

wide_windowed : (word : List ℕ) (n : ℕ) → n ≤ MOST_COUNT → IsWindowed (wide_window word n)
wide_windowed word n few = record {
  left_side = omega (arith, few);
  right_side = omega (arith, few);
  head = record { above = omega (arith, ints); below = omega (arith, ints) };
  outside = λ q letter.
      let high : q ≤ℤ pos (length (take (held word) word)) = marked_within (take (held word) word) q (inl letter) in
      let low : pos 0 ≤ℤ q = (first_of_word (take (held word) word)).least q (inl letter) in
      let short : length (take (held word) word) ≤ held word = omega (arith, length-take (held word) word) in
      record { above = omega (arith, ints, low); below = omega (arith, ints, high, short) };
}

-- the letters that stand on the tape are those of the word
held_letter : (word : List ℕ) (n k : ℕ) → n ≤ MOST_COUNT → k < right_of word n →
    get_or word k 0 ≡ get_or (take (held word) word) k 0
held_letter word n k few inside = elim (cases_lt k (held word)) [
  | inl low ↦ sym (get_or-take (held word) word k 0 low)
  | inr high ↦
      let short : length word ≤ k = omega (arith, few, inside, high) in
      let front : length (take (held word) word) ≤ k = omega (arith, length-take (held word) word, short) in
      get_or_past word k 0 short ∙ sym (get_or_past (take (held word) word) k 0 front)
]

near_letter : (word : List ℕ) (n : ℕ) (q : ℤ) → n ≤ MOST_COUNT → q ≤ℤ pos (right_of word n) →
    letter_at word q ≡ letter_at (take (held word) word) q
near_letter word n (negsuc k) few inside = refl
near_letter word n (pos zero) few inside = refl
near_letter word n (pos (suc k)) few inside = held_letter word n k few (omega (arith, ints, inside))

pub is_wide : (word : List ℕ) (n : ℕ) (w : Windowed) → n ≤ MOST_COUNT → w ≡ wide_window word n → IsWide word n w
is_wide word n w few is = subst (IsWide word n) (sym is) (record {
  windowed = wide_windowed word n few;
  left_wide = omega arith;
  right_wide = omega arith;
  tape = record {
    head = refl;
    near = λ q inside. cell-word word q ∙ near_letter word n q few inside ∙ sym (cell-word (take (held word) word) q);
    far = λ q beyond. cell-word word q;
  };
})

letter_below : (z : ℕ) (word : List ℕ) (q : ℤ) → 0 < z → All (λ s. s < z) word → letter_at word q < z
letter_below z word (negsuc k) some known = some
letter_below z word (pos zero) some known = some
letter_below z word (pos (suc k)) some known = elim (cases_lt k (length word)) [
  | inl inside ↦ known k 0 inside
  | inr past ↦ subst (λ s. s < z) (sym (get_or_past word k 0 past)) some
]

pub tape_start : (names : List (List ℕ)) (word : List ℕ) (n : ℕ) (w : Windowed) (e : Extent) → 0 < length names →
    IsWordOn names word → IsWide word n w → IsFirst (word_tape word) e.first → IsLast (word_tape word) e.last →
    IsTapeStage (length names) word n 0 w e (word_tape word)
tape_start names word n w e some h wide first last = record {
  few = h.few;
  letters = h.known;
  windowed = wide.windowed;
  left_wide = wide.left_wide;
  right_wide = wide.right_wide;
  tape = wide.tape;
  near_left = omega (arith, ints);
  near_right = omega (arith, ints);
  below = λ q. subst (λ s. s < length names) (sym (cell-word word q)) (letter_below (length names) word q some h.known);
  first = first;
  last = last;
}

-- ---- a step

pub deed_steps : (d : Deed) (t : Tape) (left : ℤ) → t.head ≡ left → IsStepped t (done d t) left
deed_steps (Rewrite read written) t left at = record {
  from = at;
  near = (omega (arith, ints, at), omega (arith, ints, at));
  beside = λ q apart. cell-write_beside t written q (λ e. apart (e ∙ at));
}
deed_steps (Move shifts.Left) t left at = record {
  from = at;
  near = (omega (arith, ints, at), omega (arith, ints, at));
  beside = λ q apart. refl;
}
deed_steps (Move shifts.Stay) t left at = record {
  from = at;
  near = (omega (arith, ints, at), omega (arith, ints, at));
  beside = λ q apart. refl;
}
deed_steps (Move shifts.Right) t left at = record {
  from = at;
  near = (omega (arith, ints, at), omega (arith, ints, at));
  beside = λ q apart. refl;
}

written_near : (w : Windowed) (word : List ℕ) (t : Tape) (s : ℕ) (q : ℤ) → StandsFor w word t → q ≤ℤ pos w.right →
    (q ≡ t.head) ⊎ (q ≢ t.head) → cell (write t s) q ≡ cell (write w.tape s) q
written_near w word t s q h inside (inl here) =
    ap (cell (write t s)) here ∙ at_set_cell t.cells t.head s ∙ sym (at_set_cell w.tape.cells w.tape.head s)
    ∙ ap (cell (write w.tape s)) (sym h.head ∙ sym here)
written_near w word t s q h inside (inr apart) =
    cell-write_beside t s q apart ∙ h.near q inside ∙ sym (cell-write_beside w.tape s q (λ e. apart (e ∙ sym h.head)))

deed_stands : (d : Deed) (w : Windowed) (word : List ℕ) (t : Tape) → w.tape.head ≤ℤ pos w.right → StandsFor w word t →
    StandsFor (with_tape w (done d w.tape)) word (done d t)
deed_stands (Rewrite read written) w word t inside h = record {
  head = h.head;
  near = λ q within. written_near w word t written q h within (same_or_not q t.head);
  far = λ q beyond.
      let at = h.head in
      cell-write_beside t written q (λ e. absurd (omega (arith, ints, beyond, inside, at, e))) ∙ h.far q beyond;
}
deed_stands (Move s) w word t inside h = record { head = ap (λ (p : ℤ). moved p s) h.head; near = h.near; far = h.far }

deed_below : (d : Deed) (t : Tape) (z : ℕ) → IsDeedInRange z d → ((q : ℤ) → cell t q < z) → (q : ℤ)
    → cell (done d t) q < z
deed_below (Rewrite read written) t z range below q = elim (same_or_not q t.head) [
  | inl here ↦
      subst (λ s. s < z) (sym (ap (cell (write t written)) here ∙ at_set_cell t.cells t.head written)) range.1
  | inr apart ↦ subst (λ s. s < z) (sym (cell-write_beside t written q apart)) (below q)
]
deed_below (Move s) t z range below q = below q

pub tape_more : (z : ℕ) (word : List ℕ) (n i : ℕ) (w v : Windowed) (e f : Extent) (t : Tape) (d : Deed) (left : ℤ) →
    IsTapeStage z word n i w e t → IsDeedInRange z d → left ≡ w.tape.head → v ≡ with_tape w v.tape →
    v.tape ≡ done d w.tape → IsWindowed v →
    ((x y : Tape) (u : List ℕ) → StandsFor v u y → left ≤ℤ pos v.right → IsStepped x y left → IsFirst x e.first
    → IsFirst y f.first) →
    ((x y : Tape) (u : List ℕ) → StandsFor v u y → left ≤ℤ pos v.right → IsStepped x y left → IsLast x e.last
    → IsLast y f.last) →
    IsTapeStage z word n (i + 1) v f (done d t)
tape_more z word n i w v e f t d left h range at same is windowed first last =
    let inside : w.tape.head ≤ℤ pos w.right = h.windowed.head.below in
    let whole : v ≡ with_tape w (done d w.tape) = same ∙ ap (with_tape w) is in
    let stands : StandsFor v word (done d t) =
    subst (λ (x : Windowed). StandsFor x word (done d t)) (sym whole) (deed_stands d w word t inside h.tape)
    in
    let right : v.right ≡ w.right = ap (λ (x : Windowed). x.right) same in
    let wide : v.left ≡ w.left = ap (λ (x : Windowed). x.left) same in
    let within : left ≤ℤ pos v.right = omega (arith, ints, at, inside, right) in
    let there : t.head ≡ left = h.tape.head ∙ sym at in
    let steps = deed_steps d t left there in
    let low = h.near_left in
    let high = h.near_right in
    let from = steps.near in
    let left_wide = h.left_wide in
    let right_wide = h.right_wide in
    record {
      few = h.few;
      letters = h.letters;
      windowed = windowed;
      left_wide = omega (arith, left_wide, wide);
      right_wide = omega (arith, right_wide, right);
      tape = stands;
      near_left = omega (arith, ints, low, there, from.0);
      near_right = omega (arith, ints, high, there, from.1);
      below = deed_below d t z range h.below;
      first = first t (done d t) word stands within steps h.first;
      last = last t (done d t) word stands within steps h.last;
    }

pub steps_move : (t u : Tape) (left head : ℤ) (is_blank : Bool) → IsStepped t u left → u.head ≡ head →
    ((is_blank ≡ true) ↔ (cell u left ≡ 0)) → IsMoved t u left is_blank head
steps_move t u left head is_blank h to blank = record {
  from = h.from;
  to = to;
  near = subst (λ (p : ℤ). ((left -ℤ pos 1) ≤ℤ p) × (p ≤ℤ (left +ℤ pos 1))) to h.near;
  beside = h.beside;
  blank = blank;
}

-- ---- what stands there

pub scans_alike : (z : ℕ) (word : List ℕ) (n i : ℕ) (w : Windowed) (e : Extent) (t : Tape)
    → IsTapeStage z word n i w e t →
    scanned t ≡ scanned w.tape
scans_alike z word n i w e t h =
    h.tape.near t.head (let high = h.windowed.head.below in let at = h.tape.head in omega (arith, ints, high, at))
    ∙ ap (cell w.tape) h.tape.head

pub tape_clear : (z : ℕ) (word : List ℕ) (n i : ℕ) (w : Windowed) (e : Extent) (t : Tape) → i ≤ n →
    IsTapeStage z word n i w e t → IsClear w
tape_clear z word n i w e t early h =
    let low = h.near_left in
    let high = h.near_right in
    let at = h.tape.head in
    let left = h.left_wide in
    let right = h.right_wide in
    record { left = omega (arith, ints, early, low, at, left); right = omega (arith, ints, early, high, at, right) }

pub tape_within : (z : ℕ) (word : List ℕ) (n i : ℕ) (w : Windowed) (e : Extent) (t : Tape) →
    IsTapeStage z word n i w e t → IsWithin w word e
tape_within z word n i w e t h = record {
  begins = begins_within w word t e.first h.windowed h.tape h.first.stands;
  ordered = h.first.least e.last h.last.stands;
  ends = ends_within w word t e.last h.windowed h.tape h.last.stands;
}

pub tape_below : (z : ℕ) (word : List ℕ) (n i : ℕ) (w : Windowed) (e : Extent) (t : Tape) →
    IsTapeStage z word n i w e t → AreBelow z w word
tape_below z word n i w e t h = record { cells = cells_below z w word t h.windowed h.tape h.below; letters = h.letters }
