-- Lemmas on outputs: there is one longest word without blanks right of a head, and only one.
use Rattle.std.specs.Prelude.{◌≡◌, ◌≢◌, ℕ, zero, suc, ◌+◌, ◌<◌, ◌≤◌, ℤ, pos, ◌+ℤ◌, ◌≤ℤ◌, ◌<ℤ◌, List, [], ◌∷◌, length}
use Rattle.std.specs.Prelude.{Option, Some, None, slice_index}
use Rattle.std.specs.Ordering.{int_cmp, int_eq}
use Rattle.std.specs.FinMap.{entries, get-entries, find}
use Rattle.std.specs.Int.RustNames.{unsigned_abs}
use Rattle.std.proofs.Common.{refl, sym, ◌∙◌, ap, arith, inl, inr, ◌⊎◌, cond, true, false, Bool}
use Rattle.std.proofs.lemmas.Int.{ints}
use Rattle.std.proofs.lemmas.Bool.{cases_lt}
use Rattle.std.proofs.lemmas.Bool.Decides.{eqb_tells, Decides-int_eq}
use Rattle.std.proofs.lemmas.Grind.{same_number_lists}
use Rattle.bn_machine.specs.Tape.{Tape, Cells, symbol_at, symbol_of}
use Rattle.bn_machine.specs.Run.{IsOutput}

-- no output is shorter than another
not_shorter : (t : Tape) (y z : List ℕ) → IsOutput t y → IsOutput t z → length y < length z → ⊥
not_shorter t y z a b h = b.letters (length y) h (sym (b.spelled (length y) h) ∙ a.ended)

pub output_once : (t : Tape) (y z : List ℕ) → IsOutput t y → IsOutput t z → y ≡ z
output_once t y z a b = by_length (cases_lt (length y) (length z)) (cases_lt (length z) (length y))
  where
    by_length : (length y < length z) ⊎ (length z ≤ length y) → (length z < length y) ⊎ (length y ≤ length z) → y ≡ z
    by_length (inl h) k = absurd (not_shorter t y z a b h)
    by_length (inr h) (inl k) = absurd (not_shorter t z y b a k)
    by_length (inr h) (inr k) =
        let same : length y ≡ length z = omega arith in
        same_number_lists y z same (λ i low. let also : i < length z = omega arith in sym (a.spelled i low)
        ∙ b.spelled i also)

-- nothing is found at a key beyond all others
beyond_all : (es : List (ℤ × ℕ)) → (k : ℕ) × ((q : ℤ) → pos k <ℤ q → find int_cmp q es ≡ None)
beyond_all [] = (0, λ q h. refl)
beyond_all (e ∷ es) =
    let rest = beyond_all es in (
      rest.0 + unsigned_abs e.0,
      λ q h.
          let beyond : pos rest.0 <ℤ q = omega (arith, ints) in
          let apart : q ≢ e.0 = omega (arith, ints) in
          passed q e (int_eq q e.0) refl apart (find int_cmp q es) ∙ rest.1 q beyond,
    )
  where
    passed : (q : ℤ) (e : ℤ × ℕ) (b : Bool) → int_eq q e.0 ≡ b → q ≢ e.0 → (rest : Option ℕ)
        → cond b (Some e.1) rest ≡ rest
    passed q e true is apart rest = absurd (apart ((Decides-int_eq q e.0).0 is))
    passed q e false is apart rest = refl

-- from some position on all cells are blank
pub blank_beyond : (m : Cells) → (k : ℕ) × ((q : ℤ) → pos k <ℤ q → symbol_at m q ≡ 0)
unfolding symbol_at
blank_beyond m =
    let all = beyond_all (entries m) in
    (all.0, λ q h. ap symbol_of (get-entries m q ∙ all.1 q h))

-- the output to the right of a position, whichever the head's is
record Follows (m : Cells) (p : ℤ) (y : List ℕ) : Type 0 where
  letters : (k : ℕ) → k < length y → slice_index y k ≢ 0
  spelled : (k : ℕ) → k < length y → symbol_at m (p +ℤ pos (suc k)) ≡ slice_index y k
  ended : symbol_at m (p +ℤ pos (suc (length y))) ≡ 0

none_follows : (m : Cells) (p : ℤ) → symbol_at m (p +ℤ pos 1) ≡ 0 → Follows m p []
none_follows m p blank = record {
  letters = λ k h. absurd (omega arith);
  spelled = λ k h. absurd (omega arith);
  ended = blank;
}

one_follows : (m : Cells) (p : ℤ) (a : ℕ) (y : List ℕ) → a ≢ 0 → symbol_at m (p +ℤ pos 1) ≡ a → Follows m (p +ℤ pos 1) y
    → Follows m p (a ∷ y)
one_follows m p a y letter here rest = record { letters = letters; spelled = spelled; ended = ended }
  where
    letters : (k : ℕ) → k < length (a ∷ y) → slice_index (a ∷ y) k ≢ 0
    letters zero h = letter
    letters (suc k) h = rest.letters k (omega arith)

    spelled : (k : ℕ) → k < length (a ∷ y) → symbol_at m (p +ℤ pos (suc k)) ≡ slice_index (a ∷ y) k
    spelled zero h = here
    spelled (suc k) h =
        let further : p +ℤ pos (suc (suc k)) ≡ (p +ℤ pos 1) +ℤ pos (suc k) = omega (arith, ints) in
        let inside : k < length y = omega arith in
        ap (symbol_at m) further ∙ rest.spelled k inside

    ended : symbol_at m (p +ℤ pos (suc (length (a ∷ y)))) ≡ 0
    ended =
        let further : p +ℤ pos (suc (length (a ∷ y))) ≡ (p +ℤ pos 1) +ℤ pos (suc (length y)) = omega (arith, ints) in
        ap (symbol_at m) further ∙ rest.ended

follows_some : (m : Cells) (k : ℕ) → ((q : ℤ) → pos k <ℤ q → symbol_at m q ≡ 0) → (fuel : ℕ) (p : ℤ)
    → pos k ≤ℤ (p +ℤ pos fuel) → (y : List ℕ) × Follows m p y
follows_some m k blank zero p h = let far : pos k <ℤ (p +ℤ pos 1) =
    omega (arith, ints) in ([], none_follows m p (blank (p +ℤ pos 1) far))
follows_some m k blank (suc fuel) p h =
    let near : pos k ≤ℤ ((p +ℤ pos 1) +ℤ pos fuel) = omega (arith, ints) in
    let rest = follows_some m k blank fuel (p +ℤ pos 1) near in
    elim (eqb_tells (symbol_at m (p +ℤ pos 1)) 0) [
      | inl blank_here ↦ ([], none_follows m p blank_here.1)
      | inr letter ↦ (
        symbol_at m (p +ℤ pos 1) ∷ rest.0,
        one_follows m p (symbol_at m (p +ℤ pos 1)) rest.0 letter.1 refl rest.1,
      )
    ]

pub output_exists : (t : Tape) → (y : List ℕ) × IsOutput t y
output_exists t =
    let blank = blank_beyond t.cells in
    let enough : pos blank.0 ≤ℤ (t.head +ℤ pos (blank.0 + unsigned_abs t.head)) = omega (arith, ints) in
    let found = follows_some t.cells blank.0 blank.1 (blank.0 + unsigned_abs t.head) t.head enough in
    (found.0, record { letters = found.1.letters; spelled = found.1.spelled; ended = found.1.ended })
