-- What is left of names where a tape's symbols were named in part.
use Rattle.std.proofs.Common.{◌≡◌, ◌≤◌, ◌+◌, ◌-◌, ◌∷◌, ◌++◌, ◌∙◌, ℕ, suc, zero, List, [], refl, sym, ap}
use Rattle.std.proofs.Common.{append_assoc, arith, decimal, drop, map, take}
use Rattle.std.specs.Prelude.{Result, Ok, Err, OnErr}
use Rattle.std.proofs.lemmas.List.{append-nil, map-append, take-append-drop}
use Rattle.bn_quad.specs.Names.{Naming}
use Rattle.bn_bennett.specs.Printed.{number_names, on_tape, one_byte}
use Rattle.bn_bennett.specs.InPart.{AreNamedInPart}
use Rattle.bn_bennett.proofs.Texts.{numbers_more}

-- what is so anyhow is so after a call that gave up
pub if_refused : {T E P : Type 0} (r : Result T E) → P → OnErr r P
if_refused (Ok x) p = tt
if_refused (Err y) p = p

-- the first letters have named their symbols
pub letters_in_part : (old new : Naming) (tape : ℕ) (letters : List ℕ) (n : ℕ)
    → new ≡ on_tape old tape (map one_byte (take n letters)) → AreNamedInPart old new tape (map one_byte letters)
letters_in_part old new tape letters n e = record {
  front = map one_byte (take n letters);
  rest = map one_byte (drop n letters);
  split = ap (map one_byte) (sym (take-append-drop n letters)) ∙ map-append one_byte (take n letters) (drop n letters);
  named = e;
}

numbers_front : (i d k : ℕ) → i + d ≡ k → (rest : List (List ℕ)) × (number_names k ≡ number_names i ++ rest)
numbers_front i zero k e = let same : k ≡ i = omega arith in
    ([], ap number_names same ∙ sym (append-nil (number_names i)))
numbers_front i (suc d) k e =
    let before = numbers_front i d (i + d) refl in
    let next : k ≡ (i + d) + 1 = omega arith in (
      before.0 ++ decimal ((i + d) + 1) ∷ [],
      ap number_names next ∙ sym (numbers_more (i + d)) ∙ ap (λ ts. ts ++ decimal ((i + d) + 1) ∷ []) before.1
          ∙ append_assoc (number_names i) before.0 (decimal ((i + d) + 1) ∷ []),
    )

-- the first numbers have named their symbols
pub numbers_in_part : (old new : Naming) (tape i count : ℕ) → i ≤ count → new ≡ on_tape old tape (number_names i)
    → AreNamedInPart old new tape (number_names count)
numbers_in_part old new tape i count within e =
    let front = numbers_front i (count - i) count (omega arith) in
    record { front = number_names i; rest = front.0; split = front.1; named = e }
