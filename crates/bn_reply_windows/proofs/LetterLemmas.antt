-- The letters right of a head, counted one by one.
use Rattle.std.proofs.Common.{◌≡◌, ◌≢◌, ℕ, suc, ◌+◌, ◌<◌, ◌≤◌, ◌⊎◌, inl, inr, Bool, true, false, sym, subst, ap, ◌∙◌}
use Rattle.std.proofs.Common.{arith}
use Rattle.std.specs.Prelude.{MatchOption, None, Option, Some, is_some, ℤ, pos, ◌+ℤ◌, ◌≤ℤ◌}
use Rattle.std.proofs.lemmas.Bool.{cases_lt}
use Rattle.std.proofs.lemmas.Int.{ints}
use Rattle.bn_machine.specs.Tape.{cell}
use Rattle.bn_machine.specs.Window.{IsWindowed, Windowed}
use Rattle.bn_reply_machines.specs.MachineRun.{IsLetterAt}
use Rattle.bn_reply_windows.specs.WindowRun.{HasLetters}

-- so many letters stand right of the head of a tape in a window
pub record HasRead (w : Windowed) (k : ℕ) : Type 0 where
  pub read : (j : ℕ) → j < k → cell w.tape (w.tape.head +ℤ pos (suc j)) ≢ 0
  pub inside : (w.tape.head +ℤ pos k) ≤ℤ pos w.right

pub read_none : (w : Windowed) → IsWindowed w → HasRead w 0
read_none w h = record {
  read = λ j low. absurd (omega arith);
  inside = let below = h.head.below in omega (arith, ints, below);
}

-- one more
read_letter : (w : Windowed) (k s : ℕ) (position : ℤ) → HasRead w k → IsLetterAt w position s
    → position ≡ w.tape.head +ℤ pos (suc k) → HasRead w (k + 1)
read_letter w k s position h letter at = record {
  read = λ j low. by_place j (cases_lt j k) low;
  inside =
      let inside : position ≤ℤ pos w.right = letter.inside in
      omega (arith, ints, inside, at);
}
  where
    by_place : (j : ℕ) → (j < k) ⊎ (k ≤ j) → j < k + 1 → cell w.tape (w.tape.head +ℤ pos (suc j)) ≢ 0
    by_place j (inl early) low = h.read j early
    by_place j (inr late) low = λ e.
        let same : w.tape.head +ℤ pos (suc j) ≡ position = omega (arith, ints, at) in
        letter.letter (sym letter.stands ∙ sym (ap (cell w.tape) same) ∙ e)

pub read_more : (w : Windowed) (k : ℕ) (position : ℤ) (found : Option ℕ) → HasRead w k
    → MatchOption found (cell w.tape position ≡ 0) (IsLetterAt w position) → is_some found ≡ true
    → position ≡ w.tape.head +ℤ pos (suc k) → HasRead w (k + 1)
read_more w k position (Some s) h letter some at = read_letter w k s position h letter at
read_more w k position None h letter some at = absurd (different some)
  where
    different : false ≡ true → ⊥
    different e = subst (λ (b : Bool). elim b as (λ _. Type 0) [ true ↦ ⊥ | false ↦ Unit {0} ]) e tt

pub read_all : (w : Windowed) (k : ℕ) (position : ℤ) (found : Option ℕ) → HasRead w k
    → MatchOption found (cell w.tape position ≡ 0) (IsLetterAt w position) → is_some found ≡ false
    → position ≡ w.tape.head +ℤ pos (suc k) → HasLetters w.tape k
read_all w k position (Some s) h letter some at = absurd (different some)
  where
    different : true ≡ false → ⊥
    different e = subst (λ (b : Bool). elim b as (λ _. Type 0) [ true ↦ Unit {0} | false ↦ ⊥ ]) e tt
read_all w k position None h blank some at = record {
  letters = h.read;
  ended = sym (ap (cell w.tape) at) ∙ blank;
}
