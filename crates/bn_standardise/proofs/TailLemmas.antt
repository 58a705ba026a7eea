-- There is one longest word without blanks that ends at a head, and only one.
use Rattle.std.specs.Prelude.{◌≡◌, ◌≢◌, ℕ, zero, suc, ◌+◌, ◌<◌, ◌≤◌, ℤ, pos, ◌-ℤ◌, ◌<ℤ◌, List, [], ◌∷◌, Option, Some}
use Rattle.std.specs.Prelude.{None, ◌⊎◌}
use Rattle.std.specs.Ordering.{int_cmp, int_eq}
use Rattle.std.specs.FinMap.{entries, get-entries, find}
use Rattle.std.specs.Int.RustNames.{unsigned_abs}
use Rattle.std.proofs.Common.{refl, sym, ◌∙◌, ap, arith, inl, inr, cond, true, false, Bool}
use Rattle.std.proofs.lemmas.Int.{ints}
use Rattle.std.proofs.lemmas.Bool.{cases_lt}
use Rattle.std.proofs.lemmas.Bool.Decides.{eqb_tells, Decides-int_eq}
use Rattle.bn_machine.specs.Tape.{Tape, Cells, cell, symbol_at, symbol_of}
use Rattle.bn_standardise.specs.Loose.{HasTail, behind}

-- no tail is shorter than another
not_shorter : (t : Tape) (d e : ℕ) → HasTail t d → HasTail t e → d < e → ⊥
not_shorter t d e a b h = b.letters d h a.ended

-- a tape has one at most
pub tail_once : (t : Tape) (d e : ℕ) → HasTail t d → HasTail t e → d ≡ e
tail_once t d e a b = by_order (cases_lt d e) (cases_lt e d)
  where
    by_order : (d < e) ⊎ (e ≤ d) → (e < d) ⊎ (d ≤ e) → d ≡ e
    by_order (inl h) k = absurd (not_shorter t d e a b h)
    by_order (inr h) (inl k) = absurd (not_shorter t e d b a k)
    by_order (inr h) (inr k) = omega arith

-- nothing is found at a key before all others
before_all : (es : List (ℤ × ℕ)) → (k : ℕ) × ((q : ℤ) → q <ℤ (pos 0 -ℤ pos k) → find int_cmp q es ≡ None)
before_all [] = (0, λ q h. refl)
before_all (e ∷ es) =
    let rest = before_all es in (
      rest.0 + unsigned_abs e.0,
      λ q h.
          let further : q <ℤ (pos 0 -ℤ pos rest.0) = omega (arith, ints) in
          let apart : q ≢ e.0 = omega (arith, ints) in
          passed q e (int_eq q e.0) refl apart (find int_cmp q es) ∙ rest.1 q further,
    )
  where
    passed : (q : ℤ) (e : ℤ × ℕ) (b : Bool) → int_eq q e.0 ≡ b → q ≢ e.0 → (rest : Option ℕ)
        → cond b (Some e.1) rest ≡ rest
    passed q e true is apart rest = absurd (apart ((Decides-int_eq q e.0).0 is))
    passed q e false is apart rest = refl

-- far to the left all cells are blank
blank_before : (m : Cells) → (k : ℕ) × ((q : ℤ) → q <ℤ (pos 0 -ℤ pos k) → symbol_at m q ≡ 0)
unfolding symbol_at
blank_before m =
    let all = before_all (entries m) in
    (all.0, λ q h. ap symbol_of (get-entries m q ∙ all.1 q h))

-- one letter more
one_more : (t : Tape) (d : ℕ) → cell t t.head ≢ 0 → HasTail (behind 1 t) d → HasTail t (suc d)
one_more t d letter rest = record {
  letters = letters;
  ended = let there : (t.head -ℤ pos 1) -ℤ pos d
      ≡ t.head -ℤ pos (suc d) = omega (arith, ints) in ap (cell t) (sym there) ∙ rest.ended;
}
  where
    letters : (k : ℕ) → k < suc d → cell t (t.head -ℤ pos k) ≢ 0
    letters zero h e = let here : t.head -ℤ pos 0 ≡ t.head = omega (arith, ints) in letter (ap (cell t) (sym here) ∙ e)
    letters (suc k) h e = let there : (t.head -ℤ pos 1) -ℤ pos k ≡ t.head -ℤ pos (suc k) =
        omega (arith, ints) in rest.letters k (omega (arith, h)) (ap (cell t) there ∙ e)

-- no letter at all
no_letter : (t : Tape) → cell t t.head ≡ 0 → HasTail t 0
no_letter t blank = record {
  letters = λ k h. absurd (omega arith);
  ended = let here : t.head -ℤ pos 0 ≡ t.head = omega (arith, ints) in ap (cell t) here ∙ blank;
}

-- a search to the left that comes to the blanks
tail_found : (k fuel : ℕ) (t : Tape) → ((q : ℤ) → q <ℤ (pos 0 -ℤ pos k) → cell t q ≡ 0)
    → (t.head -ℤ pos fuel) <ℤ (pos 0 -ℤ pos k) → (d : ℕ) × HasTail t d
tail_found k zero t blank far = let here : t.head <ℤ (pos 0 -ℤ pos k) =
    omega (arith, ints) in (0, no_letter t (blank t.head here))
tail_found k (suc fuel) t blank far =
    let further : ((t.head -ℤ pos 1) -ℤ pos fuel) <ℤ (pos 0 -ℤ pos k) = omega (arith, ints) in
    let rest = tail_found k fuel (behind 1 t) blank further in
    elim (eqb_tells (cell t t.head) 0) [
      | inl here ↦ (0, no_letter t here.1)
      | inr letter ↦ (suc rest.0, one_more t rest.0 letter.1 rest.1)
    ]

-- a tape has one
pub tail_exists : (t : Tape) → (d : ℕ) × HasTail t d
tail_exists t =
    let blank = blank_before t.cells in
    let far : (t.head -ℤ pos (blank.0 + unsigned_abs t.head + 1)) <ℤ (pos 0 -ℤ pos blank.0) = omega (arith, ints) in
    tail_found blank.0 (blank.0 + unsigned_abs t.head + 1) t blank.1 far
