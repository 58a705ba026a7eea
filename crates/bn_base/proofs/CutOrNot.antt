-- An input is cut, or it isn't.
use Rattle.std.specs.Prelude.{◌≡◌, ◌≢◌, ℕ, ◌≤◌, List, [], ◌∷◌, ◌++◌, length, ◌⊎◌}
use Rattle.std.proofs.Common.{zero, suc, arith, inl, inr, length-append}
use Rattle.std.proofs.lemmas.Bool.{cases_eq}
use Rattle.bn_base.specs.Line.{IsInLine}
use Rattle.bn_base.specs.Cuts.{IsCut, IsUncut}
use Rattle.bn_base.proofs.CutLemmas.{IsLooked, IsNoMark, all_looked, line_looked, mark_looked, none_looked}

-- the bytes have a byte 10, and this line is before the first
record HasLine (bytes : List ℕ) : Type 0 where
  line : List ℕ
  behind : List ℕ
  begins : bytes ≡ line ++ 10 ∷ behind
  in_line : IsInLine line

-- the bytes begin with a line, or they have no byte 10
line_or_none : (bytes : List ℕ) → HasLine bytes ⊎ IsInLine bytes
line_or_none [] = inr (λ i d inside. absurd (omega (arith, inside)))
line_or_none (b ∷ bytes) = by_byte (cases_eq b 10) (line_or_none bytes)
  where
    with_byte : (line : List ℕ) → b ≢ 10 → IsInLine line → IsInLine (b ∷ line)
    with_byte line apart all zero d inside = apart
    with_byte line apart all (suc i) d inside = all i d (omega (arith, inside))

    by_byte : (b ≡ 10) ⊎ (b ≢ 10) → HasLine bytes ⊎ IsInLine bytes → HasLine (b ∷ bytes) ⊎ IsInLine (b ∷ bytes)
    by_byte (inl ends) rest = inl (record {
      line = [];
      behind = bytes;
      begins = λ i. ends i ∷ bytes;
      in_line = λ i d inside. absurd (omega (arith, inside));
    })
    by_byte (inr apart) (inl h) =
        inl (record {
          line = b ∷ h.line;
          behind = h.behind;
          begins = λ i. b ∷ h.begins i;
          in_line = with_byte h.line apart h.in_line;
        })
    by_byte (inr apart) (inr none) = inr (with_byte bytes apart none)

-- what is left begins with the mark, or it doesn't
mark_or_none : (left : List ℕ) → ((script : List ℕ) × (left ≡ 37 ∷ 10 ∷ script)) ⊎ IsNoMark left
mark_or_none [] = inr (λ rest e. cc e)
mark_or_none (a ∷ []) = inr (λ rest e. cc e)
mark_or_none (a ∷ b ∷ script) = by_bytes (cases_eq a 37) (cases_eq b 10)
  where
    by_bytes : (a ≡ 37) ⊎ (a ≢ 37) → (b ≡ 10) ⊎ (b ≢ 10) → ((rest : List ℕ) × (a ∷ b ∷ script ≡ 37 ∷ 10 ∷ rest))
        ⊎ IsNoMark (a ∷ b ∷ script)
    by_bytes (inl first) (inl second) = inl (script, λ i. first i ∷ second i ∷ script)
    by_bytes (inr apart) _ = inr (λ rest e. apart (let same : a ≡ 37 = cc in same))
    by_bytes (inl first) (inr apart) = inr (λ rest e. apart (let same : b ≡ 10 = cc in same))

abbrev IsCutOrNot : List ℕ → Type 0
IsCutOrNot bytes = ((table : List ℕ) × (script : List ℕ) × IsCut bytes table script) ⊎ IsUncut bytes

-- line by line, where so many bytes are left at most
from_here : (count : ℕ) (bytes front left : List ℕ) → length left ≤ count → IsLooked bytes front left → IsCutOrNot bytes
from_here zero bytes front left few looked = elim (mark_or_none left) [
  | inl mark ↦ inl (front, mark.0, mark_looked bytes front left mark.0 looked mark.1)
  | inr no_mark ↦ elim (line_or_none left) [
    | inr none ↦ inr (all_looked bytes front left looked none)
    | inl h ↦
        let long : length left ≡ length (h.line ++ 10 ∷ h.behind) = (λ i. length (h.begins i)) in
        absurd (omega (arith, few, long, length-append h.line (10 ∷ h.behind)))
  ]
]
from_here (suc n) bytes front left few looked = elim (mark_or_none left) [
  | inl mark ↦ inl (front, mark.0, mark_looked bytes front left mark.0 looked mark.1)
  | inr no_mark ↦ elim (line_or_none left) [
    | inr none ↦ inr (all_looked bytes front left looked none)
    | inl h ↦
        let long : length left ≡ length (h.line ++ 10 ∷ h.behind) = (λ i. length (h.begins i)) in
        from_here n bytes (front ++ (h.line ++ 10 ∷ [])) h.behind
        (omega (arith, few, long, length-append h.line (10 ∷ h.behind)))
        (line_looked bytes front left h.line h.behind looked h.begins h.in_line no_mark)
  ]
]

pub cut_or_not : (bytes : List ℕ) → ((table : List ℕ) × (script : List ℕ) × IsCut bytes table script) ⊎ IsUncut bytes
cut_or_not bytes = from_here (length bytes) bytes [] bytes (omega arith) (none_looked bytes)
