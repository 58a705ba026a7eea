-- Where the word `second` stands in a line that refuses the second table.
use Rattle.std.specs.Prelude.{◌≡◌, ℕ, zero, suc, ◌+◌, ◌<◌, ◌==◌, List, [], ◌∷◌, ◌++◌, Bool, true, false, Contains}
use Rattle.std.specs.Prelude.{codes, drop, length, position, refl, take, Some}
use Rattle.std.proofs.Common.{subst, ap, arith, inl, inr, get_or}
use Rattle.std.proofs.lemmas.Bool.Decides.{eqb_tells}
use Rattle.std.proofs.lemmas.List.Quantifiers.{position-Some}
use Rattle.bn_reply_equal.specs.Second.{with_second}

-- the byte is a space
abbrev is_space : ℕ → Bool
is_space byte = byte == 32

-- a list without one stays as it is
pub without_space : (text : List ℕ) → (Contains text 32 → ⊥) → with_second text ≡ text
without_space [] none = refl
without_space (byte ∷ rest) none = elim (eqb_tells byte 32) [
  | inl same ↦ absurd (none (0, omega arith, same.1))
  | inr other ↦ rw other.0 (ap (λ (l : List ℕ). byte ∷ l) (without_space rest (λ h. none (suc h.0, omega arith, h.2))))
]

-- the word stands behind the first one
behind_first : (text : List ℕ) (i : ℕ) → i < length text → is_space (get_or text i 0) ≡ true
    → ((k : ℕ) → k < i → is_space (get_or text k 0) ≡ false) →
    with_second text ≡ take (suc i) text ++ codes "second " ++ drop (suc i) text
behind_first [] i inside here before = absurd (omega arith)
behind_first (byte ∷ rest) zero inside here before = rw here refl
behind_first (byte ∷ rest) (suc i) inside here before =
    let other : is_space byte ≡ false = before 0 (omega arith) in
    rw other (ap (λ (l : List ℕ). byte ∷ l) (behind_first rest i (omega arith) here
    (λ k h. before (suc k) (omega arith))))

pub behind_space : (text : List ℕ) (i : ℕ) → position (λ byte. byte == 32) text ≡ Some i
    → with_second text ≡ take (i + 1) text ++ codes "second " ++ drop (i + 1) text
behind_space text i h =
    let first = position-Some is_space text i 0 h in
    let e : suc i ≡ i + 1 = omega arith in
    subst (λ (n : ℕ). with_second text ≡ take n text ++ codes "second " ++ drop n text) e
    (behind_first text i first.0 first.1 first.2)
