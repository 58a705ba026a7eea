-- From one csv record after another to all records of some bytes.
use Rattle.std.proofs.Common.{◌≡◌, ◌+◌, ◌<◌, ◌∷◌, ◌∙◌, ℕ, suc, zero, true, false, List, [], length, Option, Some, None}
use Rattle.std.proofs.Common.{Bor, refl, sym, ap, inl, inr, arith, slice_get}
use Rattle.std.proofs.lemmas.Bool.{cases_Bool}
use Rattle.std.specs.Prelude.{◌&&◌, not, is_none, is_some}
use Rattle.csv.specs.declared.reader.Headers.{Headers}
use Rattle.csv.specs.Machine.{Read, next_record}
use Rattle.csv.specs.Reading.{Reached, ReadRecord, Ready, default_config}
use Rattle.csv.specs.Records.{field_at}
use Rattle.csv.specs.declared.parser.State.{State}
use Rattle.csv.specs.declared.reader.Reader.{Reader}
use Rattle.csv.proofs.ReadFacts.{rows-end, rows-more}
use Rattle.bn_csv.proofs.RecordsFromLemmas.{enough, no_more, none_at_end, one_more, takes}
use Rattle.bn_csv.specs.Left.{IsReading, left_of, records_left, unread}

-- csv's look-up of a field is that of a list
pub field_at-is : (fields : List (List ℕ)) (place : ℕ) → field_at fields place ≡ slice_get fields place
unfolding field_at
field_at-is [] place = refl
field_at-is (f ∷ fs) zero = refl
field_at-is (f ∷ fs) (suc place) = field_at-is fs place

-- the records that are left are the next one and those left after it
left_more : (s : State) (bytes : List ℕ) (p : Read) → next_record default_config s [] [] bytes ≡ Some p
    → records_left s (Some bytes) ≡ p.0 ∷ records_left p.1 (Some p.2)
unfolding records_left
left_more s bytes p is =
    let count : length bytes + 1 ≡ suc (length bytes) = omega arith in
    rw count (one_more default_config (length bytes) s bytes p is
    ∙ ap (λ (rows : List (List (List ℕ))). p.0 ∷ rows) (elim (takes default_config s [] [] bytes p is) [
      | inl less ↦ enough default_config (length bytes) (length p.2 + 1) p.1 p.2 (omega arith) (omega arith)
      | inr last ↦ rw (last.0, last.1) (none_at_end default_config (length bytes) ∙ sym (none_at_end default_config _))
    ]))

left_none : (s : State) (bytes : List ℕ) → next_record default_config s [] [] bytes ≡ None
    → records_left s (Some bytes) ≡ []
unfolding records_left
left_none s bytes none = no_more default_config _ s bytes none

known_bytes : (o : Option (List ℕ)) → is_some o ≡ true → (bytes : List ℕ) × (o ≡ Some bytes)
known_bytes None h = cc h
known_bytes (Some bytes) h = (bytes, refl)

reached_one : (a b : State) (bytes z : List ℕ) (fields : List (List ℕ))
    → Reached default_config a bytes (fields ∷ []) b z
    → records_left a (Some bytes) ≡ fields ∷ records_left b (Some z)
unfolding Reached
reached_one a b bytes z fields h =
    let (p, is, same, rest) = h in
    rw (left_more a bytes p is, rest.0, rest.1, same) refl

-- a read that found a record takes it from those that are left
pub left-read : (a b : Reader (Bor (List ℕ))) (fields : List (List ℕ)) → IsReading a
    → ReadRecord (λ (s : Bor (List ℕ)). Some s.now) a b true fields
    → (left_of a ≡ fields ∷ left_of b) × (is_some (unread b) ≡ true)
unfolding Reached
left-read a b fields h r =
    let (bytes, known) = known_bytes (unread a) h.known in
    let m = rows-more (λ (s : Bor (List ℕ)). Some s.now) a b fields default_config a.state bytes bytes [] h.plain known
    (refl, refl) r in
    (rw (known, m.1) (reached_one a.state b.state bytes m.0 fields m.2), rw m.1 refl)

-- a read that found none: none is left
pub left-end : (a b : Reader (Bor (List ℕ))) (fields : List (List ℕ)) → IsReading a
    → ReadRecord (λ (s : Bor (List ℕ)). Some s.now) a b false fields
    → left_of a ≡ []
left-end a b fields h r =
    let (bytes, known) = known_bytes (unread a) h.known in
    let none = rows-end (λ (s : Bor (List ℕ)). Some s.now) a b fields default_config bytes h.plain known r in
    rw known (left_none a.state bytes none)

no_headers : (o : Option Headers) → is_none o ≡ true → o ≡ None
no_headers None h = refl
no_headers (Some x) h = cc h

-- the next read of such a reader is of an entry
pub ready : (a : Reader (Bor (List ℕ))) → IsReading a → Ready a
ready a h = elim (cases_Bool a.first) [
  | inl first ↦ inl first
  | inr fresh ↦
      let plain : (not a.has_headers && is_none a.headers) ≡ true = rw fresh at h.no_header in
      inr (inr (elim (cases_Bool a.has_headers) [
        | inl named ↦ let no : false ≡ true = rw named at plain in cc
        | inr bare ↦ (bare, no_headers a.headers (rw bare at plain))
      ]))
]

-- a place below the length has a field
pub field_within : (fields : List (List ℕ)) (place : ℕ) → place < length fields → slice_get fields place ≡ None → ⊥
field_within [] place h e = omega arith
field_within (f ∷ fs) zero h e = cc e
field_within (f ∷ fs) (suc place) h e = field_within fs place (omega arith) e
