-- What a watch in memory tells of places that it is told one after another.
use Rattle.std.specs.Prelude.{◌≡◌, ℕ, ◌+◌, ◌<◌, ◌≤◌, true, false, List, [], ◌∷◌, ◌++◌, length, nat_lt, None, ◌⊎◌, refl}
use Rattle.std.proofs.Common.{arith, sym, ap, ◌∙◌, inl, inr, append-nil, append_assoc, length-append}
use Rattle.std.proofs.lemmas.Bool.{cases_lt}
use Rattle.std.proofs.lemmas.Bool.Decides.{nat_tests}
use Rattle.bn_circuits.specs.declared.place.Place.{Place}
use Rattle.bn_circuits.specs.Heard.{Heard, told_by, hears_next, hears_all, WatchesTellWithinRoom}

-- a watch with these places, that has lost none
abbrev keeping : ℕ → List Place → Heard
keeping room places = record { places = places; room = room; lost = false }

-- one that has lost some
abbrev losing : ℕ → List Place → Heard
losing room places = record { places = places; room = room; lost = true }

test_low : (m n : ℕ) → m < n → nat_lt m n ≡ true
test_low m n low = grind (arith, nat_tests)

test_high : (m n : ℕ) → n ≤ m → nat_lt m n ≡ false
test_high m n high = grind (arith, nat_tests)

hears-kept : (room : ℕ) (heard : List Place) (place : Place) → length heard < room
    → hears_next (keeping room heard) place ≡ keeping room (heard ++ place ∷ [])
hears-kept room heard place low = rw (test_low (length heard) room low) refl

hears-lost : (room : ℕ) (heard : List Place) (place : Place) → room ≤ length heard
    → hears_next (keeping room heard) place ≡ losing room heard
hears-lost room heard place high = rw (test_high (length heard) room high) refl

-- what was lost once stays lost
loses-on : (room : ℕ) (heard more : List Place) → room ≤ length heard
    → told_by (hears_all (losing room heard) more) ≡ None
loses-on room heard [] high = refl
loses-on room heard (place ∷ more) high =
    let next : hears_next (losing room heard) place ≡ losing room heard =
    rw (test_high (length heard) room high) refl in
    ap (λ h. told_by (hears_all h more)) next ∙ loses-on room heard more high

longer : (heard : List Place) (place : Place) → length (heard ++ place ∷ []) ≡ length heard + 1
longer heard place = length-append heard (place ∷ [])

keeps-all : (room : ℕ) (heard more : List Place) → length heard + length more ≤ room
    → hears_all (keeping room heard) more ≡ keeping room (heard ++ more)
keeps-all room heard [] few = ap (keeping room) (sym (append-nil heard))
keeps-all room heard (place ∷ more) few =
    let one = longer heard place in
    ap (λ h. hears_all h more) (hears-kept room heard place (omega arith))
    ∙ keeps-all room (heard ++ place ∷ []) more (omega (arith, one))
    ∙ ap (keeping room) (append_assoc heard (place ∷ []) more)

loses-some : (room : ℕ) (heard more : List Place) → length heard ≤ room → room < length heard + length more
    → told_by (hears_all (keeping room heard) more) ≡ None
loses-some room heard [] within many = absurd (omega arith)
loses-some room heard (place ∷ more) within many = by_room (cases_lt (length heard) room)
    (λ low. loses-some room (heard ++ place ∷ []) more (omega (arith, low, longer heard place))
    (omega (arith, low, longer heard place)))
  where
    by_room : (length heard < room) ⊎ (room ≤ length heard)
        → (length heard < room → told_by (hears_all (keeping room (heard ++ place ∷ [])) more) ≡ None)
        → told_by (hears_all (hears_next (keeping room heard) place) more) ≡ None
    by_room (inl low) later = ap (λ h. told_by (hears_all h more)) (hears-kept room heard place low) ∙ later low
    by_room (inr high) later = ap (λ h. told_by (hears_all h more)) (hears-lost room heard place high)
        ∙ loses-on room heard more high

pub watches-tell : WatchesTellWithinRoom
watches-tell room places =
    record {
      told = λ few. ap told_by (keeps-all room [] places (omega (arith, few)));
      lost = λ many. loses-some room [] places (omega arith) (omega (arith, many));
    }
