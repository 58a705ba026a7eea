-- A word that is read as a number is its decimal text, and its decimal text is read.
use Rattle.std.specs.Prelude.{◌≡◌, ℕ, ◌+◌, ◌≤◌, List, [], ◌++◌, length, decimal, Result, Ok}
use Rattle.std.proofs.Common.{arith, sym, ap, subst, ◌∙◌, append-nil}
use Rattle.bn_base.specs.Number.{read_number, greatest}
use Rattle.bn_base.proofs.NumberLemmas.{read_number-again}
use Rattle.bn_base.specs.declared.numbers.Digits.{Digits}
use Rattle.bn_words.specs.Words.{IsNoNumber}

pub read-whole : (n : ℕ) → n ≤ greatest → read_number (decimal n) 0 ≡ Ok (n, length (decimal n))
read-whole n bound =
    let read = read_number-again [] [] n bound (λ h. absurd (omega arith)) in
    let text : decimal n ++ [] ≡ decimal n = append-nil (decimal n) in
    let place : 0 + length (decimal n) ≡ length (decimal n) = omega arith in
    ap (λ t. read_number t 0) (sym text) ∙ read ∙ ap (λ p. Ok (n, p)) place

-- a word whose reading fails, or ends before its end, is no number
pub no_number : (word : List ℕ) (r : Result (ℕ × ℕ) Digits) → r ≡ read_number word 0
    → ((n : ℕ) → r ≡ Ok (n, length word) → ⊥) → IsNoNumber word
no_number word r is never number h =
    let read = read-whole number h.bound in
    let at_word : read_number word 0 ≡ Ok (number, length word) =
    subst (λ w. read_number w 0 ≡ Ok (number, length w)) (sym h.spelled) read in
    never number (is ∙ at_word)

-- the places behind two equal readings are equal
pub same_end : (m n a b : ℕ) → ◌≡◌ {A = Result (ℕ × ℕ) Digits} (Ok (m, a)) (Ok (n, b)) → a ≡ b
same_end m n a b e =
    let pairs : ◌≡◌ {A = ℕ × ℕ} (m, a) (n, b) = cc in
    ap (λ (p : ℕ × ℕ). p.1) pairs
