-- What a source gave, and how a command ends that reads its whole input first.
use Rattle.std.specs.Prelude.{◌≡◌, ℕ, ◌+◌, ◌<◌, ◌≤◌, List, [], ◌++◌, length, Option, Some, None, IfSome, ◌⊎◌}
use Rattle.std.proofs.Common.{arith, inl, inr, sym, ap, subst, ◌∙◌, append-nil, length-append}
use Rattle.std.proofs.lemmas.Bool.{cases_lt}
use Rattle.bn_io.specs.Told.{Loses, ReadsWithin}
use Rattle.bn_reply.specs.Outside.{GaveAll, GaveMore}
use Rattle.bn_reply.specs.declared.limits.TheConstants.{MOST_INPUT_BYTES}

-- an input that was read whole
pub gave_read : (left after : Option (List ℕ)) (bytes : List ℕ) → IfSome left (λ xs. (bytes ≡ xs) × (after ≡ Some []))
    → GaveAll left after bytes
gave_read None after bytes h = record { lost = tt; ended = tt }
gave_read (Some xs) after bytes h =
    let lost : Loses (Some xs) (Some []) bytes = sym h.0 ∙ sym (append-nil bytes) in
    record { lost = subst (λ a. Loses (Some xs) a bytes) (sym h.1) lost; ended = h.1 }

one_more : (limit count : ℕ) → count ≤ limit + 1 → limit < count → count ≡ limit + 1
one_more limit count few more = omega (arith, few, more)

-- an input that was found too long
pub gave_more : (left after : Option (List ℕ)) (limit : ℕ) (too_long : Type 0) (bytes : List ℕ)
    → ReadsWithin left after limit too_long bytes → too_long →
    GaveMore left after limit
gave_more left after limit too_long bytes reads is =
    (bytes, reads.lost, one_more limit (length bytes) reads.bound (reads.longer is))

-- an input that was not
pub gave_within : (left after : Option (List ℕ)) (limit : ℕ) (too_long : Type 0) (bytes : List ℕ)
    → ReadsWithin left after limit too_long bytes → (too_long → ⊥) →
    length bytes ≤ limit
gave_within left after limit too_long bytes reads none = by (cases_lt limit (length bytes))
  where
    by : (limit < length bytes) ⊎ (length bytes ≤ limit) → length bytes ≤ limit
    by (inl more) = absurd (none (reads.refused more))
    by (inr few) = few

gives_same : (xs bytes : List ℕ) (after : Option (List ℕ)) → Loses (Some xs) after bytes → after ≡ Some [] → bytes ≡ xs
gives_same xs bytes after lost ended =
    let none : Loses (Some xs) (Some []) bytes = subst (λ a. Loses (Some xs) a bytes) ended lost in
    sym (none ∙ append-nil bytes)

-- what holds of the bytes that were read holds of those that the source tells
pub at_bytes : (left after : Option (List ℕ)) (bytes : List ℕ) (P : List ℕ → Type 0) → GaveAll left after bytes
    → P bytes → IfSome left P
at_bytes None after bytes P all p = tt
at_bytes (Some xs) after bytes P all p = subst P (gives_same xs bytes after all.lost all.ended) p

-- a source that told its bytes has none left
pub read_to_end : (left after : Option (List ℕ)) (bytes : List ℕ) → GaveAll left after bytes →
    IfSome left (λ xs. length xs ≤ MOST_INPUT_BYTES → after ≡ Some [])
read_to_end None after bytes all = tt
read_to_end (Some xs) after bytes all = λ few. all.ended

longer_by : (limit : ℕ) (xs bytes ys : List ℕ) → xs ≡ bytes ++ ys → length bytes ≡ limit + 1 → limit < length xs
longer_by limit xs bytes ys is more =
    let e = ap length is in
    omega (arith, length-append bytes ys, more)

-- a source that gave too many bytes told too many
pub at_longer : (left after : Option (List ℕ)) (limit : ℕ) (P : List ℕ → Type 0) → GaveMore left after limit →
    ((xs : List ℕ) → limit < length xs → P xs) → IfSome left P
at_longer None after limit P more h = tt
at_longer (Some xs) None limit P more h = absurd more.1
at_longer (Some xs) (Some ys) limit P more h = h xs (longer_by limit xs more.0 ys more.1 more.2)
