-- Numbers of states kept by name.
use Rattle.std.specs.Prelude.{◌≡◌, bytes_eq, ℕ, Bool, true, false, cond, List, [], ◌∷◌, All, Some, slice_get, refl}
use Rattle.std.proofs.Common.{sym, ap, ◌∙◌}
use Rattle.std.proofs.lemmas.List.Elements.{All-nil, All-cons, All-head, All-tail}
use Rattle.std.proofs.lemmas.Option.{same_Some}
use Rattle.std.proofs.lemmas.Slice.Eq.{bytes_eq-Decides}
use Rattle.std.specs.Map.{lookup}
use Rattle.indexmap.specs.IndexMap.{insert_entry}

module _ {K : Type 0} (bytes : K → List ℕ) (names : List (List ℕ)) where
  abbrev IsNumbered : K × ℕ → Type 0
  IsNumbered e = slice_get names e.1 ≡ Some (bytes e.0)

  -- a number that is kept is the name's
  pub number_kept : (name : List ℕ) (es : List (K × ℕ)) (number : ℕ) → All IsNumbered es
      → lookup (λ k. bytes_eq name (bytes k)) es ≡ Some number → slice_get names number ≡ Some name
  number_kept name [] number all h = absurd (cc)
  number_kept name (e ∷ es) number all h = by (bytes_eq name (bytes e.0)) refl
      (number_kept name es number (All-tail IsNumbered e es all)) h
    where
      by : (b : Bool) → bytes_eq name (bytes e.0) ≡ b → (lookup (λ k. bytes_eq name (bytes k)) es ≡ Some number
          → slice_get names number ≡ Some name)
          → cond b (Some e.1) (lookup (λ k. bytes_eq name (bytes k)) es) ≡ Some number
          → slice_get names number ≡ Some name
      by true same later h =
          let here : slice_get names e.1 ≡ Some (bytes e.0) = All-head IsNumbered e es all in
          let number_is : e.1 ≡ number = same_Some e.1 number h in
          let name_is : name ≡ bytes e.0 = (bytes_eq-Decides name (bytes e.0)).0 same in
          ap (λ n. slice_get names n) (sym number_is) ∙ here ∙ ap (λ (t : List ℕ). Some t) (sym name_is)
      by false other later h = later h

  -- one more number is kept
  pub numbers_more : (k : K) (number : ℕ) (es : List (K × ℕ)) → All IsNumbered es
      → slice_get names number ≡ Some (bytes k) → All IsNumbered
      (insert_entry (λ a b. bytes_eq (bytes a) (bytes b)) es k number)
  numbers_more k number [] all h = All-cons IsNumbered (k, number) [] h (All-nil IsNumbered)
  numbers_more k number (e ∷ es) all h = by (bytes_eq (bytes k) (bytes e.0)) refl
      (numbers_more k number es (All-tail IsNumbered e es all) h)
    where
      by : (b : Bool) → bytes_eq (bytes k) (bytes e.0) ≡ b → All IsNumbered
          (insert_entry (λ a b. bytes_eq (bytes a) (bytes b)) es k number)
          → All IsNumbered (cond b ((e.0, number) ∷ es) (e ∷ insert_entry (λ a b. bytes_eq (bytes a) (bytes b)) es k
          number))
      by true same later =
          let name_is : bytes k ≡ bytes e.0 = (bytes_eq-Decides (bytes k) (bytes e.0)).0 same in
          All-cons IsNumbered (e.0, number) es (h ∙ ap (λ (t : List ℕ). Some t) name_is) (All-tail IsNumbered e es all)
      by false other later = All-cons IsNumbered e _ (All-head IsNumbered e es all) later
