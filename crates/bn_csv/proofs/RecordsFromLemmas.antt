-- From one csv record after another to all records of some bytes.
use Rattle.std.proofs.Common.{◌≡◌, ◌<◌, ◌⊎◌, ◌∷◌, ◌++◌, ◌∙◌, ℕ, suc, zero, List, [], length, Option, Some, None, refl}
use Rattle.std.proofs.Common.{sym, ap, inl, inr, arith}
use Rattle.std.proofs.lemmas.Bool.{cases_Bool}
use Rattle.csv.specs.Machine.{Read, ends_at_end, field_after, fields_after, is_end, next_record, step}
use Rattle.csv.specs.Reading.{records_from}
use Rattle.csv.specs.declared.parser.Config.{Config}
use Rattle.csv.specs.declared.parser.State.{State}
use Rattle.csv.specs.declared.parser.State.TheVariants as st

-- a read takes a byte, or it takes the last record at the end of the bytes
pub takes : (c : Config) (s : State) (fields : List (List ℕ)) (field bytes : List ℕ) (p : Read)
    → next_record c s fields field bytes ≡ Some p
    → (length p.2 < length bytes) ⊎ ((p.1 ≡ st.StartRecord) × (p.2 ≡ []))
unfolding next_record
takes c s fields field [] p e = elim (cases_Bool (ends_at_end s)) [
  | inl ends ↦
      let is : Some (fields ++ (field ∷ []), st.StartRecord, []) ≡ Some p = rw ends at e in
      inr (cc, cc)
  | inr goes ↦
      let is : None ≡ Some p = rw goes at e in cc
]
takes c s fields field (b ∷ rest) p e = elim (cases_Bool (is_end (step c s b).1)) [
  | inl ends ↦
      let is : Some (fields_after (step c s b).1 fields field, (step c s b).0, rest) ≡ Some p = rw ends at e in
      let same : p.2 ≡ rest = cc in
      inl (rw same (omega arith))
  | inr goes ↦
      elim (takes c (step c s b).0 (fields_after (step c s b).1 fields field) (field_after (step c s b).1 b field) rest
      p (rw goes at e)) [
        | inl less ↦ inl (omega arith)
        | inr last ↦ inr last
      ]
]

-- nothing comes after the end
pub none_at_end : (c : Config) (n : ℕ) → records_from c n st.StartRecord [] ≡ []
unfolding records_from next_record
none_at_end c zero = refl
none_at_end c (suc n) = refl

-- one record, and then those after it
pub one_more : (c : Config) (n : ℕ) (s : State) (bytes : List ℕ) (p : Read) → next_record c s [] [] bytes ≡ Some p
    → records_from c (suc n) s bytes ≡ p.0 ∷ records_from c n p.1 p.2
unfolding records_from
one_more c n s bytes p e = rw e refl

pub no_more : (c : Config) (n : ℕ) (s : State) (bytes : List ℕ) → next_record c s [] [] bytes ≡ None
    → records_from c n s bytes ≡ []
unfolding records_from
no_more c zero s bytes e = refl
no_more c (suc n) s bytes e = rw e refl

-- what a read found
found_or_none : (o : Option Read) → (o ≡ None) ⊎ ((p : Read) × (o ≡ Some p))
found_or_none None = inl refl
found_or_none (Some p) = inr (p, refl)

-- counts of turns above the number of bytes give the same records
pub enough : (c : Config) (m n : ℕ) (s : State) (bytes : List ℕ) → length bytes < m → length bytes < n
    → records_from c m s bytes ≡ records_from c n s bytes
enough c zero n s bytes h k = absurd (omega arith)
enough c (suc m) zero s bytes h k = absurd (omega arith)
enough c (suc m) (suc n) s bytes h k = elim (found_or_none (next_record c s [] [] bytes)) [
  | inl none ↦ no_more c (suc m) s bytes none ∙ sym (no_more c (suc n) s bytes none)
  | inr found ↦
      let (p, is) = found in
      one_more c m s bytes p is
      ∙ ap (λ (rows : List (List (List ℕ))). p.0 ∷ rows) (elim (takes c s [] [] bytes p is) [
        | inl less ↦ enough c m n p.1 p.2 (omega arith) (omega arith)
        | inr last ↦ rw (last.0, last.1) (none_at_end c m ∙ sym (none_at_end c n))
      ])
      ∙ sym (one_more c n s bytes p is)
]
